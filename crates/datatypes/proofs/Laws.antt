-- What follows from the laws of a library.
use Rattle.std.proofs.Common.{◌≡◌, ℕ, ◌-◌, Bool, true, false, cond, eqb, List, [], ◌∷◌, Some, sym, refl, ◌∙◌}
use Rattle.std.specs.List.{AllByRecursion}
use Rattle.datatypes.specs.declared.comparison.Comparison.TheVariants.{Same}
use Rattle.datatypes.specs.Comparison.{answer, compared}
use Rattle.datatypes.specs.Meaning.{Bytes, Datatype, LawfulType, Meaning, Lawful, no_type, type_numbered, same}

no_type-LawfulType : LawfulType no_type
no_type-LawfulType = record {
  symmetric = λ a b h. h;
  transitive = λ a b c h k. h;
  reflexive = λ a. refl;
  in_bytes = λ a h. ([], tt, h);
}

either_lawful : {d e : Datatype} (b : Bool) → LawfulType d → LawfulType e → LawfulType (cond b d e)
either_lawful true h k = h
either_lawful false h k = k

type_numbered-LawfulType : (ds : List Datatype) → AllByRecursion LawfulType ds → (t : ℕ) → LawfulType (type_numbered ds t)
type_numbered-LawfulType [] h t = no_type-LawfulType
type_numbered-LawfulType (d ∷ ds) h t = either_lawful (eqb t 1) h.0 (type_numbered-LawfulType ds h.1 (t - 1))

-- every number keeps the laws, whether it is a type or not
pub lawful_at : {m : Meaning} → Lawful m → (t : ℕ) → LawfulType (type_numbered m.types t)
lawful_at {m} h t = type_numbered-LawfulType m.types h.each t

-- strings that are same are allowed
pub same-allows : {d : Datatype} → LawfulType d → (a b : Bytes) → d.same a b ≡ true → (d.allows a ≡ true) × (d.allows b ≡ true)
same-allows h a b e =
    let back = h.symmetric a b e in
    (sym (h.reflexive a) ∙ h.transitive a b a e back, sym (h.reflexive b) ∙ h.transitive b a b back e)

-- so where two strings are same, a comparison says of both that they are allowed
pub compared_same : {m : Meaning} → Lawful m → (u n l r : Bytes) (t : ℕ) → m.type_of u n ≡ Some t → same m t l r ≡ true → answer (Some Same) ≡ compared m u n l r
compared_same {m} h u n l r t e s =
    let both = same-allows (lawful_at h t) l r s in
    rw (e, s, both.0, both.1)
