use Rattle.std.proofs.Common.{arith, ap, subst, ◌∙◌, rules, tests}
use Rattle.std.specs.Slice.Iter.{split_inclusive_rest, split_inclusive_callee}
use Rattle.std.proofs.lemmas.List.{length-map}
use Rattle.parameters.specs.Lines.{without_newline}
use Rattle.parameters.specs.Held.{IsReportOn}
use Rattle.parameters.proofs.Lines.{some_piece, no_piece}
use Rattle.parameters.proofs.Reports.{HasRoom-from_Counts}
use Rattle.parameters.proofs.reporting.write_lines.Goals as goal

pub add_line-requires : goal.add_line-requires
add_line-requires c =
    let split = c.split_inclusive-line-items.ensures in
    let into = c.into_iter-line-iterator.ensures.into_iter_gives in
    let more = some_piece c.args.file.now _ _ c.loop-line.yielded c.loop-line.yielded_by (ap split_inclusive_rest into ∙ split.rest) (ap split_inclusive_callee into ∙ split.closure) _ _ _ c.in-Some.is c.next.ensures.steps (λ x b q k. search (rules, tests)) in
    HasRoom-from_Counts _ _ c.loop-line.invariant.tally (omega (arith, more, length-map c.loop-line.yielded (λ x. without_newline x.now)))

pub returns : goal.returns
returns c =
    let split = c.split_inclusive-line-items.ensures in
    let into = c.into_iter-line-iterator.ensures.into_iter_gives in
    let all = no_piece c.args.file.now _ _ c.loop-line.yielded c.loop-line.yielded_by (ap split_inclusive_rest into ∙ split.rest) (ap split_inclusive_callee into ∙ split.closure) _ _ c.in-None.is c.next.ensures.steps (λ x b q k. search (rules, tests)) in
    subst (λ ls. IsReportOn ls c.loop-line.writer) all c.loop-line.invariant
