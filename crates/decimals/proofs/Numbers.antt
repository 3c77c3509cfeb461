-- Numbers that are equal in value, and that a number has one normal form.
use Rattle.std.proofs.Common.{◌≡◌, ℕ, suc, ◌+◌, ◌-◌, ◌*◌, ◌/◌, ◌%◌, ◌^◌, ◌<◌, Bool, sym, ap, ◌∙◌, ⊎_elim, mul_comm, mul_assoc, pow-suc, arith, pow-add}
use Rattle.std.proofs.Math.Nat.{mul-mod_left, eq_of_mul-eq-mul_left, eq_of_mul-eq-mul_right}
use Rattle.std.proofs.lemmas.Bool.{cases_order}
use Rattle.std.proofs.lemmas.Bool.Decides.{nat_tests}
use Rattle.datatypes.specs.Numeral.{Number}
use Rattle.decimals.specs.Laws.{ten_pos, Level}
use Rattle.decimals.specs.NormalForm.{NoLastZero, PositiveZero}

-- ---- one normal form

-- the longer of two equal fractions ends in zero
longer : (m n f k : ℕ) → m * 10 ^ (f + suc k) ≡ n * 10 ^ f → n % 10 ≡ 0
longer m n f k e =
    let p : 10 ^ (f + suc k) ≡ 10 ^ k * 10 * 10 ^ f = pow-add 10 f (suc k) ∙ mul_comm (10 ^ f) (10 ^ suc k) ∙ ap (λ x. x * 10 ^ f) (pow-suc 10 k) in
    let q : m * 10 ^ k * 10 ≡ n = eq_of_mul-eq-mul_right (10 ^ f) (ten_pos f) (m * 10 ^ k * 10) n (ap (λ x. x * 10 ^ f) (mul_assoc m (10 ^ k) 10) ∙ mul_assoc m (10 ^ k * 10) (10 ^ f) ∙ ap (λ x. m * x) (sym p) ∙ e) in
    sym (ap (λ x. x % 10) q) ∙ mul-mod_left (m * 10 ^ k) 10

not_longer : (m f n g : ℕ) → NoLastZero n g → m * 10 ^ g ≡ n * 10 ^ f → f < g → ⊥
not_longer m f n g h e lt =
    let split : f + suc (g - f - 1) ≡ g = omega arith in
    let z = longer m n f (g - f - 1) (ap (λ x. m * 10 ^ x) split ∙ e) in
    grind (arith, nat_tests)

same_sign : (m n : ℕ) (s t : Bool) → PositiveZero m s → PositiveZero n t → m ≡ n → (0 < m → s ≡ t) → s ≡ t
same_sign m n s t a b e h = grind (arith, nat_tests)

pub one_form : (x y : Number) → NoLastZero x.digits x.scale → NoLastZero y.digits y.scale → PositiveZero x.digits x.negative → PositiveZero y.digits y.negative → Level x y → x ≡ y
one_form x y a b c d h =
    let scales : x.scale ≡ y.scale = ⊎_elim (λ q. q) (⊎_elim (λ lt. absurd (not_longer x.digits x.scale y.digits y.scale b h.0 lt)) (λ gt. absurd (not_longer y.digits y.scale x.digits x.scale a (sym h.0) gt))) (cases_order x.scale y.scale) in
    let digits : x.digits ≡ y.digits = eq_of_mul-eq-mul_right (10 ^ y.scale) (ten_pos y.scale) x.digits y.digits (h.0 ∙ ap (λ k. y.digits * 10 ^ k) scales) in
    let signs = same_sign x.digits y.digits x.negative y.negative c d digits h.1 in
    λ i. record { negative = signs i; digits = digits i; scale = scales i }

-- ---- a last zero goes

pub cut_zero : (m n p f : ℕ) → m % 10 ≡ 0 → 0 < f → m * p ≡ n * 10 ^ f → m / 10 * p ≡ n * 10 ^ (f - 1)
cut_zero m n p f zeros some e =
    let whole : 10 * (m / 10) ≡ m = omega arith in
    let back : suc (f - 1) ≡ f = omega arith in
    let left : 10 * (m / 10 * p) ≡ m * p = sym (mul_assoc 10 (m / 10) p) ∙ ap (λ x. x * p) whole in
    let right : n * 10 ^ f ≡ 10 * (n * 10 ^ (f - 1)) = ap (λ k. n * 10 ^ k) (sym back) ∙ ap (λ x. n * x) (pow-suc 10 (f - 1)) ∙ sym (mul_assoc n (10 ^ (f - 1)) 10) ∙ mul_comm (n * 10 ^ (f - 1)) 10 in
    eq_of_mul-eq-mul_left 10 (omega arith) (m / 10 * p) (n * 10 ^ (f - 1)) (left ∙ e ∙ right)
