use Rattle.std.proofs.Common.{◌^◌, arith}
use Rattle.std.proofs.lemmas.Bool.Decides.{nat_tests}
use Rattle.decimals.proofs.Numerals.{room}
use Rattle.decimals.proofs.Numbers.{cut_zero}
use Rattle.decimals.proofs.decimal.Decimal.normal.Goals as goal
use Rattle.decimals.proofs.decimal.Decimal.normal.Goals.{then-loop-fraction-test+else-magnitude-eq0, else-loop-fraction-test, then-negative, else-negative}

pub loop-fraction-preserved : goal.loop-fraction-preserved
loop-fraction-preserved c = (
  cut_zero c.loop-fraction.magnitude c.args.digits.magnitude (10 ^ c.unwrap_or-fraction.result) c.loop-fraction.fraction c.if-magnitude-eq0.true c.loop-fraction-test.true c.loop-fraction.invariant.0,
  omega arith,
  omega arith,
)

pub invariant_of-result : goal.invariant_of-result
invariant_of-result c =
    let small = room c.args.digits.magnitude c.args.digits.count 18 c.args.digits.small c.args.digits.few in record {
      bounded = omega arith;
      short = omega (arith, c.unwrap_or-fraction.ensures, c.args.digits.part, c.args.digits.few);
      trimmed = elim c.loop-fraction-test.branch [ then-loop-fraction-test+else-magnitude-eq0 w ↦ grind (arith, nat_tests, w.if-magnitude-eq0.false) | else-loop-fraction-test w ↦ grind (arith, nat_tests, w.loop-fraction-test.false) ];
      positive = elim c.if-negative.branch [ then-negative w ↦ grind (arith, nat_tests, w.result-is) | else-negative w ↦ grind (arith, nat_tests, w.result-is) ];
    }
