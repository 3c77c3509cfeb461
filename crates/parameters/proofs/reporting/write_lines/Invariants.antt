use Rattle.std.proofs.Common.{map}
use Rattle.parameters.specs.Held.{IsReportOn}
use Rattle.parameters.specs.Lines.{without_newline}
use Rattle.parameters.proofs.reporting.write_lines.Given as goal

abbrev pub invariant-loop-line : goal.invariant-loop-line
invariant-loop-line l = IsReportOn (map (λ x. without_newline x.now) l.yielded) l.writer
