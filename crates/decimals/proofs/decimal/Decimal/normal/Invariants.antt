use Rattle.std.proofs.Common.{◌≡◌, ◌*◌, ◌^◌, ◌≤◌}
use Rattle.decimals.proofs.decimal.Decimal.normal.Given as goal

abbrev pub invariant-loop-fraction : goal.invariant-loop-fraction
invariant-loop-fraction l = (l.magnitude * 10 ^ l.initial.fraction ≡ l.initial.magnitude * 10 ^ l.fraction) × (l.magnitude ≤ l.initial.magnitude) × (l.fraction ≤ l.initial.fraction)

abbrev pub decreases-loop-fraction : goal.decreases-loop-fraction
decreases-loop-fraction l = l.fraction
