use Rattle.decimals.proofs.Numerals.{Going}
use Rattle.decimals.proofs.digits.Digits.read.Given as goal

abbrev pub invariant-loop-b : goal.invariant-loop-b
invariant-loop-b l = Going l.numeral l.b-index l.digits.0 l.digits.1.0 l.digits.1.1.0
