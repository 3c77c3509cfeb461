-- The first byte that is no blank, as `find` finds it.
use Rattle.std.proofs.Common.{◌≡◌, ℕ, Bool, true, false, List, [], ◌∷◌, Some, None, Option, MatchOption, Iter, Bor, ap, ◌∙◌}
use denote.Param.Members.{Mut}
use Rattle.std.proofs.iter.Yields.{fronts}
use Rattle.std.specs.Fn.{CalledAt}
use Rattle.std.specs.Iterator.{Yields, YieldsThen}
use Rattle.std.specs.List.{FoldsTo}
use Rattle.std.specs.Slice.Iter.{iter_rest}
use Rattle.std.proofs.lemmas.List.{nil_from_length}
use Rattle.datatypes.specs.Blanks.{is_blank, drop_blanks}
use Rattle.datatypes.specs.Meaning.{Bytes}

solid_first : (s t : Bytes) (b : ℕ) → s ≡ b ∷ t → is_blank b ≡ false → drop_blanks s ≡ b ∷ t
solid_first s t b e h = ap drop_blanks e ∙ rw h

blank_first : (s t : Bytes) (b : ℕ) → s ≡ b ∷ t → is_blank b ≡ true → drop_blanks s ≡ drop_blanks t
blank_first s t b e h = ap drop_blanks e ∙ rw h

module _ {F : Type 0} (g : Mut F (Bor (Bor ℕ) × Unit {0}) Bool) (misses : (x : Bor ℕ) (p q : F) → CalledAt g p x false q → is_blank x.now ≡ true) (hits : (x : Bor ℕ) (p q : F) → CalledAt g p x true q → is_blank x.now ≡ false) where
  skipped : (xs : List (Bor ℕ)) (s u : Iter ℕ) (f j : F) → Yields fronts s xs u → FoldsTo (λ p x q. CalledAt g p x false q) f xs j → drop_blanks (iter_rest s) ≡ drop_blanks (iter_rest u)
  skipped [] s u f j y h = ap (λ t. drop_blanks (iter_rest t)) y
  skipped (x ∷ xs) s u f j y h =
      blank_first (iter_rest s) (iter_rest y.0) x.now y.1 (misses x f h.0 h.1) ∙ skipped xs y.0 u h.0 j y.2 h.2

  -- where `find` asks for a byte that is no blank
  pub found : (s u : Iter ℕ) (f : F) (r : Option (Bor ℕ)) → (xs : List (Bor ℕ)) × (j : F) × YieldsThen fronts s xs r u × FoldsTo (λ p x q. CalledAt g p x false q) f xs j × MatchOption r (Unit {0}) (λ x. (h : F) × CalledAt g j x true h) → MatchOption r (drop_blanks (iter_rest s) ≡ []) (λ x. drop_blanks (iter_rest s) ≡ x.now ∷ iter_rest u)
  found s u f None e = skipped e.0 s e.2.0 f e.1 e.2.1 e.3 ∙ ap drop_blanks (nil_from_length (iter_rest e.2.0) e.2.2.0)
  found s u f (Some x) e =
      skipped e.0 s e.2.0 f e.1 e.2.1 e.3 ∙ solid_first (iter_rest e.2.0) (iter_rest u) x.now e.2.2 (hits x e.1 e.4.0 e.4.1)
