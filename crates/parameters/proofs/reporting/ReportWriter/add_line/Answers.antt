use Rattle.std.proofs.Common.{◌≡◌, ◌+◌, [], ◌∷◌, ◌++◌, ap, sym, ◌∙◌, length, length-append, arith}
use Rattle.std.proofs.lemmas.Slice.{pushed}
use Rattle.datatypes.specs.Comparison.{answer}
use Rattle.parameters.specs.Held.{finding_text}
use Rattle.parameters.specs.Report.{lines_text, line_text}
use Rattle.parameters.proofs.Reports.{lines_text-append, line_joined}
use Rattle.parameters.proofs.reporting.ReportWriter.add_line.Goals as goal

pub returns : goal.returns
returns c = λ ls h.
    let line = c.args.line.now in
    let finding = c.of-finding.result in
    let tally = c.count.ensures ls line h.tally (ap (λ o. (answer o).number) c.comparison.ensures ∙ c.of-finding.ensures.outcome) in
    let number : c.count.new.self.lines ≡ 1 + length ls = omega (arith, tally.lines, length-append ls (line ∷ [])) in
    let start = pushed _ h.text c.in_ok-extend_from_slice.was c.extend_from_slice.ensures.items in
    let middle = c.in_ok-write_to.ensures ∙ ap (λ t. t ++ finding_text finding) start in
    let end = pushed (10 ∷ []) middle c.in_ok-push.was c.push.ensures.items in
    let joined = line_joined (lines_text 1 ls) c.as_bytes.result.now (finding_text finding) line c.count.new.self.lines (c.as_bytes.ensures.value ∙ c.in_ok-start.ensures.ok) c.of-finding.ensures.text in
    record {
      text = end ∙ joined ∙ ap (λ n. lines_text 1 ls ++ line_text n line) number ∙ sym (lines_text-append 1 ls line);
      tally = tally;
    }
