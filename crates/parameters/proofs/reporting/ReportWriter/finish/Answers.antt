use Rattle.std.proofs.Common.{◌++◌, ap, ◌∙◌}
use Rattle.std.proofs.lemmas.Slice.{pushed}
use Rattle.parameters.specs.Report.{lines_text}
use Rattle.parameters.proofs.Reports.{summary-Counts}
use Rattle.parameters.proofs.reporting.ReportWriter.finish.Goals as goal

pub returns : goal.returns
returns c = λ ls h.
    pushed _ h.text c.in_ok-extend_from_slice.was c.extend_from_slice.ensures.items
    ∙ ap (λ t. lines_text 1 ls ++ t) (c.as_bytes.ensures.value ∙ c.in_ok-end.ensures.ok ∙ summary-Counts c.args.self.tally ls h.tally)
