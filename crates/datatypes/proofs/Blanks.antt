-- Blanks at the ends of a string, by how many they are.
use Rattle.std.proofs.Common.{◌≡◌, ℕ, suc, ◌+◌, ◌-◌, ◌≤◌, true, false, cond, not, ltb, [], ◌∷◌, reverse, length, take, drop, Some, None, Option, Bool, ◌++◌, sym, refl, ap, ◌∙◌, arith, length-drop}
use mathlib.Core.List.{reverse-append, reverse-reverse}
use Rattle.std.specs.List.{prefix_len, position_or_len}
use Rattle.std.proofs.lemmas.Bool.Decides.{nat_tests}
use Rattle.std.proofs.lemmas.List.{length-reverse, take-append-drop, take_at, take_rest, nil_from_length}
use Rattle.datatypes.specs.Blanks.{is_blank, drop_blanks, drop_end_blanks}
use Rattle.datatypes.specs.Meaning.{Bytes}

drop_blanks_is : (s : Bytes) → drop (prefix_len is_blank s) s ≡ drop_blanks s
drop_blanks_is [] = refl
drop_blanks_is (b ∷ s) =
    elim (is_blank b) as (λ k. drop (cond k (1 + prefix_len is_blank s) 0) (b ∷ s) ≡ cond k (drop_blanks s) (b ∷ s)) [
      | true ↦ let e : 1 + prefix_len is_blank s ≡ suc (prefix_len is_blank s) = omega arith in ap (λ k. drop k (b ∷ s)) e ∙ drop_blanks_is s
      | false ↦ refl
    ]

pub front : (s : Bytes) (n : ℕ) → n ≡ prefix_len is_blank s → take (length s - n) (drop n s) ≡ drop_blanks s
front s n e = take_rest s n ∙ ap (λ k. drop k s) e ∙ drop_blanks_is s

-- what stands before the last n is what stands after the first n of the reverse
take_from_reverse : (s : Bytes) (n : ℕ) → take (length s - n) s ≡ reverse (drop n (reverse s))
take_from_reverse s n =
    let r = reverse s in
    let parts : s ≡ reverse (drop n r) ++ reverse (take n r) = sym (reverse-reverse s) ∙ ap reverse (sym (take-append-drop n r)) ∙ reverse-append (take n r) (drop n r) in
    let long : length (reverse (drop n r)) ≡ length s - n = length-reverse (drop n r) ∙ length-drop n r ∙ ap (λ k. k - n) (length-reverse s) in
    ap (λ t. take (length s - n) t) parts ∙ take_at (reverse (drop n r)) (reverse (take n r)) (length s - n) long

pub back : (s : Bytes) (n : ℕ) → n ≡ prefix_len is_blank (reverse s) → take (length s - n) s ≡ drop_end_blanks s
back s n e = take_from_reverse s n ∙ ap reverse (ap (λ k. drop k (reverse s)) e ∙ drop_blanks_is (reverse s))

-- ---- the blanks that stand before the first byte that is no blank, as `position` finds it

abbrev pub is_solid : ℕ → Bool
is_solid b = not (is_blank b)

-- what `position` answers of a string's bytes
abbrev pub FirstSolidAt : Bytes → Option ℕ → Type 0
FirstSolidAt s r = r ≡ cond (ltb (position_or_len is_solid s) (length s)) (Some (position_or_len is_solid s)) None

position_or_len-solid : (s : Bytes) → position_or_len is_solid s ≡ prefix_len is_blank s
position_or_len-solid [] = refl
position_or_len-solid (b ∷ s) =
    elim (is_blank b) as (λ k. cond (not (not k)) (1 + position_or_len is_solid s) 0 ≡ cond k (1 + prefix_len is_blank s) 0) [
      | true ↦ ap (λ n. 1 + n) (position_or_len-solid s)
      | false ↦ refl
    ]

-- where `position` answers a number, it is the place m that it looks for; where it answers none, the place is past the k bytes
position-found : (t : Bool) (m n : ℕ) → Some n ≡ cond t (Some m) None → n ≡ m
position-found true m n e = cc
position-found false m n e = cc

position-missed : (m k : ℕ) → None ≡ cond (ltb m k) (Some m) None → k ≤ m
position-missed m k e = grind (arith, nat_tests)

pub blanks_before : (s : Bytes) (n : ℕ) → FirstSolidAt s (Some n) → n ≡ prefix_len is_blank s
blanks_before s n e = position-found _ _ n e ∙ position_or_len-solid s

pub all_blank : (s : Bytes) → FirstSolidAt s None → [] ≡ drop_blanks s
all_blank s e =
    let m = position_or_len is_solid s in
    let past : length s ≤ m = position-missed m (length s) e in
    sym (nil_from_length (drop m s) (omega (arith, length-drop m s))) ∙ ap (λ n. drop n s) (position_or_len-solid s) ∙ drop_blanks_is s
