-- Two iterators whose states show the lists that they still give, compared by `eq`.
use Rattle.std.proofs.Common.{◌≡◌, ℕ, Bool, true, false, [], ◌∷◌, ◌++◌, IfSome, Some, None, Decides, Option, eqb, eqb-true, sym, ap, ◌∙◌, MatchOption}
use mathlib.Core.List.{append_cancel_left}
use Rattle.std.specs.Iterator.{Yields, YieldsFirst, YieldsThen}
use Rattle.std.proofs.lemmas.Bool.{eqb-false}
use Rattle.std.specs.List.{AllZip}
use Rattle.std.proofs.lemmas.List.Elements.{same_from_all_zip}
use Rattle.datatypes.specs.Meaning.{Bytes}

module _ {S : Type 0} (shown : S → Bytes) where
  given : (s t : S) (xs : Bytes) → Yields (YieldsFirst shown) s xs t → shown s ≡ xs ++ shown t
  given s t [] h = ap shown h
  given s t (x ∷ xs) h = h.1 ∙ ap (λ l. x ∷ l) (given h.0 t xs h.2)

-- what is left after the bytes that two lists have in common tells whether they are equal
tells : (s t u v : Bytes) (o p : Option ℕ) (r : Bool) → YieldsFirst (λ s. s) s o u → YieldsFirst (λ s. s) t p v → MatchOption o (MatchOption p (r ≡ true) (λ _. r ≡ false)) (λ x. (r ≡ false) × IfSome p (λ y. eqb x y ≡ false)) → Decides r (s ≡ t)
tells s t u v None None r a b h = (λ _. a.0 ∙ sym b.0, λ _. h)
tells s t u v None (Some y) r a b h = (λ e. cc, λ e. cc)
tells s t u v (Some x) None r a b h = (λ e. cc, λ e. cc)
tells s t u v (Some x) (Some y) r a b h = (λ e. cc, λ e. let f : x ≡ y = cc in let g = eqb-false x y h.1 in absurd (g f))

after : (xs s t : Bytes) (r : Bool) → Decides r (s ≡ t) → Decides r (xs ++ s ≡ xs ++ t)
after xs s t r h = (λ e. ap (λ l. xs ++ l) (h.0 e), λ e. h.1 (append_cancel_left xs s t e))

module _ {S T : Type 0} (here : S → Bytes) (there : T → Bytes) (s : S) (t : T) where
  pub eq-Decides : (xs ys : Bytes) (o p : Option ℕ) (u : S) (v : T) (r : Bool) → YieldsThen (YieldsFirst here) s xs o u → YieldsThen (YieldsFirst there) t ys p v → AllZip (λ x y. eqb x y ≡ true) xs ys → MatchOption o (MatchOption p (r ≡ true) (λ _. r ≡ false)) (λ x. (r ≡ false) × IfSome p (λ y. eqb x y ≡ false)) → Decides r (here s ≡ there t)
  eq-Decides xs ys o p u v r a b h k =
      let both = after xs (here a.0) (there b.0) r (tells _ _ _ _ o p r a.2 b.2 k) in
      let e = given here s a.0 xs a.1 in
      let f = given there t b.0 ys b.1 ∙ ap (λ l. l ++ there b.0) (same_from_all_zip _ xs ys h (λ x y k. sym (eqb-true x y k))) in
      (λ g. e ∙ both.0 g ∙ sym f, λ g. both.1 (sym e ∙ g ∙ f))
