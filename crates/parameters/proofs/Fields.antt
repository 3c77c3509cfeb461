-- The fields of a line are the parts that `split` gives, and four calls of `next` tell whether they are three.
use Rattle.std.proofs.Common.{◌<◌, length, arith, ◌≡◌, ℕ, Bool, false, eqb, List, [], ◌∷◌, Some, None, Option, sym, refl, ap, ◌∙◌, Bor}
use Rattle.std.specs.List.{slice_split, onto_first}
use Rattle.std.specs.Fn.{CalledAt}
use Rattle.std.specs.Slice.Iter.{split_rest, split_done, split_callee, split_steps}
use denote.Param.Members.{Mut}
use Rattle.std.proofs.lemmas.Iterator.{YieldsList}
use Rattle.std.proofs.lemmas.Iterator.Consumers.{YieldsList-turn, YieldsList-end}
use Rattle.std.proofs.lemmas.Iterator.Splits.{YieldsList-from_slice_split}
use Rattle.datatypes.specs.Meaning.{Bytes}
use Rattle.parameters.specs.Lines.{prepend, fields_of}
use Rattle.parameters.specs.Rows.{Row, row_of}

prepend-onto_first : (b : ℕ) (ss : List Bytes) → prepend b ss ≡ onto_first b ss
prepend-onto_first b [] = refl
prepend-onto_first b (s ∷ ss) = refl

fields_of-slice_split : (s : Bytes) → fields_of s ≡ slice_split (λ b. eqb b 9) s
fields_of-slice_split [] = refl
fields_of-slice_split (b ∷ s) = rw (fields_of-slice_split s, prepend-onto_first)

-- the row that the first four fields are, where they are three and then none
abbrev pub row_from : Option (Bor Bytes) → Option (Bor Bytes) → Option (Bor Bytes) → Option (Bor Bytes) → Option Row
row_from None p q r = None
row_from (Some x) None q r = None
row_from (Some x) (Some y) None r = None
row_from (Some x) (Some y) (Some z) None = Some (record { name = x.now; left = y.now; right = z.now })
row_from (Some x) (Some y) (Some z) (Some w) = None

row_of_long : (fields : List Bytes) → 3 < length fields → row_of fields ≡ None
row_of_long [] h = absurd (omega arith)
row_of_long (a ∷ []) h = absurd (omega arith)
row_of_long (a ∷ b ∷ []) h = absurd (omega arith)
row_of_long (a ∷ b ∷ c ∷ []) h = absurd (omega arith)
row_of_long (a ∷ b ∷ c ∷ d ∷ more) h = refl

module _ {S : Type 0} (steps : S → Option (Bor Bytes) → S → Type 0) (s t u v w : S) (fields : List Bytes) (road : YieldsList steps (λ x. x.now) s fields) where
  row_of-YieldsList : (o p q r : Option (Bor Bytes)) → steps s o t → steps t p u → steps u q v → steps v r w → row_of fields ≡ row_from o p q r
  row_of-YieldsList None p q r a b c d = ap row_of (sym (YieldsList-end road [] s refl None t refl a).0)
  row_of-YieldsList (Some x) None q r a b c d = ap row_of (sym (YieldsList-end road (x ∷ []) t (t, a, refl) None u refl b).0)
  row_of-YieldsList (Some x) (Some y) None r a b c d = ap row_of (sym (YieldsList-end road (x ∷ y ∷ []) u (t, a, (u, b, refl)) None v refl c).0)
  row_of-YieldsList (Some x) (Some y) (Some z) None a b c d =
      ap row_of (sym (YieldsList-end road (x ∷ y ∷ z ∷ []) v (t, a, (u, b, (v, c, refl))) None w refl d).0)
  row_of-YieldsList (Some x) (Some y) (Some z) (Some k) a b c d =
      row_of_long fields (YieldsList-turn road (x ∷ y ∷ z ∷ []) v (t, a, (u, b, (v, c, refl))) (Some k) w k refl d).0

-- the results of four calls of `next` on the parts of a line that a closure cuts at tabs; the first three facts are the clauses `rest`, `done` and `closure` of `split`
pub row_of-split : {F : Type 0} {f : F} {g : Mut F (Bor ℕ × Unit {0}) Bool} (s t u v w : _) (o p q r : Option (Bor Bytes)) (line : Bytes) → split_rest s ≡ line → split_done s ≡ false → split_callee s ≡ f
    → split_steps g s o t → split_steps g t p u → split_steps g u q v → split_steps g v r w → ((x : ℕ) (b : Bool) (h : F) → CalledAt g f x b h → (h ≡ f) × (b ≡ eqb x 9)) → row_of (fields_of line) ≡ row_from o p q r
row_of-split {g = g} s t u v w o p q r line rest done closure a b c d tests =
    ap row_of (fields_of-slice_split line) ∙ row_of-YieldsList (split_steps g) s t u v w (slice_split (λ b. eqb b 9) line) (YieldsList-from_slice_split g (λ b. eqb b 9) line rest done closure tests) o p q r a b c d
