-- The type of decimals keeps the laws, since equality of value is an equivalence: that is shown by the natural numbers alone.
use Rattle.std.specs.Prelude.{◌≡◌, ℕ, zero, suc, ◌*◌, ◌^◌, ◌<◌, Bool, true, false, cond, ℤ, pos, negsuc, ◌*ℤ◌, neg_ℤ, Decides, ◌==◌, refl}
use Rattle.std.proofs.Common.{sym, ap, subst, ◌∙◌, zero-mul, mul_right_comm, mul-pos, arith}
use Rattle.std.proofs.Math.Nat.{one-le-pow, eq_of_mul-eq-mul_right}
use Rattle.std.proofs.Math.IntN.{pos-*ℤ-pos, negsuc-*ℤ-pos}
use Rattle.std.proofs.lemmas.Bool.Decides.{Decides-eqb, Decides-like}
use Rattle.datatypes.specs.Decimals.{decimal, decimals}
use Rattle.datatypes.specs.Laws.{library_of-Lawful}
use Rattle.datatypes.specs.Meaning.{Lawful}
use Rattle.datatypes.specs.Numeral.{Number, numerator, denominator, same_integer, equal_value}
use Rattle.datatypes.specs.Values.{Equivalence, LawfulValueType}

pub ten_pos : (k : ℕ) → 0 < 10 ^ k
ten_pos k = one-le-pow k 10 (omega arith)

-- ---- integers with a sign

abbrev signed : Bool → ℕ → ℤ
signed n m = cond n (neg_ℤ (pos m)) (pos m)

signed_times : (n : Bool) (m k : ℕ) → signed n m *ℤ pos k ≡ signed n (m * k)
signed_times false m k = pos-*ℤ-pos m k
signed_times true zero k = rw zero-mul
signed_times true (suc m) k = negsuc-*ℤ-pos m k

same_integer-Decides : (a b : ℤ) → Decides (same_integer a b) (a ≡ b)
same_integer-Decides (pos m) (pos n) = Decides-like (m == n) (ap pos) (λ e. cc) (Decides-eqb m n)
same_integer-Decides (pos m) (negsuc n) = (λ e. cc, λ e. cc)
same_integer-Decides (negsuc m) (pos n) = (λ e. cc, λ e. cc)
same_integer-Decides (negsuc m) (negsuc n) = Decides-like (m == n) (ap negsuc) (λ e. cc) (Decides-eqb m n)

-- the magnitudes are equal, and so are the signs unless it is zero
abbrev Alike : Bool → ℕ → Bool → ℕ → Type 0
Alike s m t n = (m ≡ n) × (0 < m → s ≡ t)

signed_parts : (s t : Bool) (m n : ℕ) → signed s m ≡ signed t n → Alike s m t n
signed_parts false false m n e = (cc, λ _. refl)
signed_parts true true zero zero e = (refl, λ _. refl)
signed_parts true true zero (suc n) e = (cc, λ _. refl)
signed_parts true true (suc m) zero e = (cc, λ _. refl)
signed_parts true true (suc m) (suc n) e = (cc, λ _. refl)
signed_parts true false zero n e = (cc, λ h. absurd (omega arith))
signed_parts true false (suc m) n e = (cc, λ h. cc)
signed_parts false true m zero e = (cc, λ h. let z : m ≡ 0 = cc in absurd (omega arith))
signed_parts false true m (suc n) e = (cc, λ h. cc)

signed_from : (s t : Bool) (m n : ℕ) → Alike s m t n → signed s m ≡ signed t n
signed_from s t zero n h = sym (zero-signed s) ∙ zero-signed t ∙ ap (signed t) h.0
  where
    zero-signed : (b : Bool) → pos 0 ≡ signed b 0
    zero-signed true = refl
    zero-signed false = refl
signed_from s t (suc m) n h = let e = h.1 (omega arith) in let f = h.0 in cc

-- ---- equality of value

pos_left : (m p : ℕ) → 0 < m * p → 0 < m
pos_left zero p h = rw zero-mul at h
pos_left (suc m) p h = omega arith

-- the magnitudes are equal by cross-multiplication, and so are the signs unless it is zero
abbrev pub Level : Number → Number → Type 0
Level x y = (x.digits * 10 ^ y.scale ≡ y.digits * 10 ^ x.scale) × (0 < x.digits → x.negative ≡ y.negative)

pub equal_value-Decides : (x y : Number) → Decides (equal_value x y) (Level x y)
equal_value-Decides x y =
    let left = signed_times x.negative x.digits (10 ^ y.scale) in
    let right = signed_times y.negative y.digits (10 ^ x.scale) in
    Decides-like (equal_value x y)
    (λ e. let h = signed_parts x.negative y.negative _ _ (sym left ∙ e ∙ right) in (h.0, λ some. h.1 (mul-pos some (ten_pos y.scale))))
    (λ h. left ∙ signed_from x.negative y.negative _ _ (h.0, λ some. h.1 (pos_left _ _ some)) ∙ sym right)
    (same_integer-Decides (numerator x *ℤ denominator y) (numerator y *ℤ denominator x))

Level_reflexive : (x : Number) → Level x x
Level_reflexive x = (refl, λ _. refl)

Level_symmetric : (x y : Number) → Level x y → Level y x
Level_symmetric x y h =
    (sym h.0, λ some. sym (h.1 (pos_left x.digits (10 ^ y.scale) (subst (λ n. 0 < n) (sym h.0) (mul-pos some (ten_pos x.scale))))))

-- a / p = b / q and b / q = c / r, so a / p = c / r
cross : (a b c p q r : ℕ) → 0 < q → a * q ≡ b * p → b * r ≡ c * q → a * r ≡ c * p
cross a b c p q r some e f =
    eq_of_mul-eq-mul_right q some (a * r) (c * p)
    (mul_right_comm a r q ∙ ap (λ n. n * r) e ∙ mul_right_comm b p r ∙ ap (λ n. n * p) f ∙ mul_right_comm c q p)

Level_transitive : (x y z : Number) → Level x y → Level y z → Level x z
Level_transitive x y z h k = (
  cross x.digits y.digits z.digits (10 ^ x.scale) (10 ^ y.scale) (10 ^ z.scale) (ten_pos y.scale) h.0 k.0,
  λ some. h.1 some ∙ k.1 (pos_left y.digits (10 ^ x.scale) (subst (λ n. 0 < n) h.0 (mul-pos some (ten_pos y.scale)))),
)

pub equal_value_reflexive : (x : Number) → equal_value x x ≡ true
equal_value_reflexive x = (equal_value-Decides x x).1 (Level_reflexive x)

pub equal_value_symmetric : (x y : Number) → equal_value x y ≡ true → equal_value y x ≡ true
equal_value_symmetric x y h = (equal_value-Decides y x).1 (Level_symmetric x y ((equal_value-Decides x y).0 h))

pub equal_value_transitive : (x y z : Number) → equal_value x y ≡ true → equal_value y z ≡ true → equal_value x z ≡ true
equal_value_transitive x y z h k = (equal_value-Decides x z).1 (Level_transitive x y z ((equal_value-Decides x y).0 h) ((equal_value-Decides y z).0 k))

pub equal_value-Equivalence : Equivalence equal_value
equal_value-Equivalence = record { reflexive = equal_value_reflexive; symmetric = equal_value_symmetric; transitive = equal_value_transitive }

-- ---- the laws

pub decimal-Lawful : LawfulValueType decimal
decimal-Lawful = record { equivalence = equal_value-Equivalence; in_bytes = (omega arith, tt); stands = refl }

-- so the library does
pub decimals-Lawful : Lawful decimals
decimals-Lawful = library_of-Lawful decimal decimal-Lawful
