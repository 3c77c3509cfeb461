-- Decimals in their normal form, as `==` compares them.
use Rattle.std.proofs.Common.{◌≡◌, Bool, ◌&&◌, eqb, ap, arith}
use mathlib.Core.Bool.{beq}
use Rattle.std.proofs.lemmas.Bool.Decides.{same_from_decides}
use Rattle.decimals.specs.declared.decimal.Decimal.{Decimal}
use Rattle.decimals.specs.Held.{held}
use Rattle.datatypes.specs.Numeral.{equal_value}
use Rattle.decimals.specs.Laws.{equal_value-Decides}
use Rattle.decimals.proofs.Numbers.{one_form}

-- numbers in normal form are equal in value exactly if their fields are equal
pub same_fields : (x y : Decimal) (r : Bool) → r ≡ (beq x.negative y.negative && (eqb x.magnitude y.magnitude && eqb x.fraction y.fraction)) → r ≡ equal_value (held x) (held y)
same_fields x y r e =
    same_from_decides r (equal_value (held x) (held y))
    (λ t. (grind arith, λ _. grind arith), λ h. let f = one_form (held x) (held y) x.trimmed y.trimmed x.positive y.positive h in let n = ap (λ z. z.negative) f in let m = ap (λ z. z.digits) f in let k = ap (λ z. z.scale) f in grind (arith, n, m, k))
    (equal_value-Decides (held x) (held y))
