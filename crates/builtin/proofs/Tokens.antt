-- A string read byte by byte as a token.
use Rattle.std.proofs.Common.{◌≡◌, ℕ, ◌+◌, ◌<◌, ◌≤◌, Bool, true, false, cond, [], ◌∷◌, ◌++◌, reverse, length, None, Option, refl, ap, ◌∙◌, append_assoc, arith, length-append}
use mathlib.Core.List.{reverse-cons, reverse-append, reverse-reverse}
use Rattle.std.specs.List.{AllByRecursion}
use Rattle.datatypes.specs.Blanks.{is_blank, drop_blanks, drop_end_blanks}
use Rattle.datatypes.specs.BuiltIn.{squeeze, collapse}
use Rattle.datatypes.specs.Meaning.{Bytes}
use Rattle.builtin.specs.Collapsed.{coming, held_bytes}

-- ---- blanks alone

drop_blanks_through : (s t : Bytes) → drop_blanks s ≡ [] → drop_blanks (s ++ t) ≡ drop_blanks t
drop_blanks_through [] t e = refl
drop_blanks_through (b ∷ s) t e =
    (elim (is_blank b) as (λ k. cond k (drop_blanks s) (b ∷ s) ≡ [] → cond k (drop_blanks (s ++ t)) (b ∷ (s ++ t)) ≡ drop_blanks t) [
      | true ↦ λ e. drop_blanks_through s t e
      | false ↦ λ e. cc
    ]) e

drop_blanks-reverse : (s : Bytes) → drop_blanks s ≡ [] → drop_blanks (reverse s) ≡ []
drop_blanks-reverse [] e = refl
drop_blanks-reverse (b ∷ s) e = ap drop_blanks (reverse-cons b s) ∙ go (is_blank b) refl (drop_blanks-reverse s) e
  where
    go : (k : Bool) → is_blank b ≡ k → (drop_blanks s ≡ [] → drop_blanks (reverse s) ≡ []) → cond k (drop_blanks s) (b ∷ s) ≡ [] → drop_blanks (reverse s ++ b ∷ []) ≡ []
    go true h more e = drop_blanks_through (reverse s) (b ∷ []) (more e) ∙ rw h
    go false h more e = cc

pub coming_none : (s : Bytes) → drop_blanks s ≡ [] → coming s ≡ []
coming_none s none = ap (λ t. squeeze (reverse t)) (drop_blanks-reverse s none)

-- ---- blanks, then a byte that is none, then anything

record Split (s : Bytes) (b : ℕ) (r : Bytes) : Type 0 where
  pub blanks : Bytes
  pub each : AllByRecursion (λ c. is_blank c ≡ true) blanks
  pub solid : is_blank b ≡ false
  pub whole : s ≡ blanks ++ b ∷ r

split : (s : Bytes) (b : ℕ) (r : Bytes) → drop_blanks s ≡ b ∷ r → Split s b r
split [] b r e = let z : ◌≡◌ {A = ℕ} 0 1 = cc in absurd (omega arith)
split (c ∷ s) b r e = go (is_blank c) refl (split s b r) e
  where
    go : (k : Bool) → is_blank c ≡ k → (drop_blanks s ≡ b ∷ r → Split s b r) → cond k (drop_blanks s) (c ∷ s) ≡ b ∷ r → Split (c ∷ s) b r
    go true h more e =
        let q = more e in
        record { blanks = c ∷ q.blanks; each = (h, q.each); solid = q.solid; whole = ap (λ t. c ∷ t) q.whole }
    go false h more e = let f : b ≡ c = cc in record { blanks = []; each = tt; solid = ap is_blank f ∙ h; whole = e }

reverse_around : (s t : Bytes) (b : ℕ) → reverse (s ++ b ∷ t) ≡ reverse t ++ b ∷ reverse s
reverse_around s t b = reverse-append s (b ∷ t) ∙ ap (λ r. r ++ reverse s) (reverse-cons b t) ∙ append_assoc (reverse t) (b ∷ []) (reverse s)

module _ (b : ℕ) (solid : is_blank b ≡ false) where
  drop_blanks_to : (s t : Bytes) → drop_blanks (s ++ b ∷ t) ≡ drop_blanks s ++ b ∷ t
  drop_blanks_to [] t = rw solid
  drop_blanks_to (c ∷ s) t =
      elim (is_blank c) as (λ k. cond k (drop_blanks (s ++ b ∷ t)) (c ∷ (s ++ b ∷ t)) ≡ cond k (drop_blanks s) (c ∷ s) ++ b ∷ t) [
        | true ↦ drop_blanks_to s t
        | false ↦ refl
      ]

  drop_end_blanks_after : (s t : Bytes) → drop_end_blanks (s ++ b ∷ t) ≡ s ++ b ∷ drop_end_blanks t
  drop_end_blanks_after s t =
      ap (λ r. reverse (drop_blanks r)) (reverse_around s t b) ∙ ap reverse (drop_blanks_to (reverse t) (reverse s)) ∙ reverse_around (drop_blanks (reverse t)) (reverse s) b ∙ ap (λ r. r ++ b ∷ drop_end_blanks t) (reverse-reverse s)

  squeeze_gap : (c : ℕ) (s t : Bytes) → is_blank c ≡ true → AllByRecursion (λ c. is_blank c ≡ true) s → squeeze (c ∷ (s ++ b ∷ t)) ≡ 0x20 ∷ b ∷ squeeze t
  squeeze_gap c [] t h each = rw (h, solid)
  squeeze_gap c (d ∷ s) t h each = squeeze_more c d (s ++ b ∷ t) h each.0 ∙ squeeze_gap d s t each.0 each.1
    where
      squeeze_more : (c d : ℕ) (s : Bytes) → is_blank c ≡ true → is_blank d ≡ true → squeeze (c ∷ d ∷ s) ≡ squeeze (d ∷ s)
      squeeze_more c d s h k = rw (h, k)

  coming_solid : (t : Bytes) → coming (b ∷ t) ≡ b ∷ coming t
  coming_solid t = ap squeeze (drop_end_blanks_after [] t) ∙ rw solid

  coming_blanks : (s t : Bytes) → 0 < length s → AllByRecursion (λ c. is_blank c ≡ true) s → coming (s ++ b ∷ t) ≡ 0x20 ∷ b ∷ coming t
  coming_blanks [] t some each = absurd (omega arith)
  coming_blanks (c ∷ s) t some each = ap squeeze (drop_end_blanks_after (c ∷ s) t) ∙ squeeze_gap c s (drop_end_blanks t) each.0 each.1

module _ (s : Bytes) (b : ℕ) (r : Bytes) (e : drop_blanks s ≡ b ∷ r) where
  pub collapse_first : collapse s ≡ b ∷ coming r
  collapse_first = ap coming e ∙ coming_solid b (split s b r e).solid r

  pub coming_gap : length r + 1 < length s → coming s ≡ 0x20 ∷ b ∷ coming r
  coming_gap more =
      let q = split s b r e in
      let some : 0 < length q.blanks = omega (arith, ap length q.whole ∙ length-append q.blanks (b ∷ r)) in
      ap coming q.whole ∙ coming_blanks b q.solid q.blanks r some q.each

  pub coming_next : length s ≤ length r + 1 → coming s ≡ b ∷ coming r
  coming_next near = let q = split s b r e in go q.blanks q.whole q.solid
    where
      go : (p : Bytes) → s ≡ p ++ b ∷ r → is_blank b ≡ false → coming s ≡ b ∷ coming r
      go [] h solid = ap coming h ∙ coming_solid b solid r
      go (c ∷ p) h solid = absurd (omega (arith, ap length h ∙ length-append (c ∷ p) (b ∷ r)))

-- ---- where no byte is held

module _ {h : Option ℕ} (s : Bytes) (none : h ≡ None) where
  pub unheld : held_bytes h ++ coming s ≡ coming s
  unheld = ap (λ o. held_bytes o ++ coming s) none
