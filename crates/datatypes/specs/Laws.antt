-- A library of one type, whose strings stand for values, keeps the laws.
use Rattle.std.specs.Prelude.{◌≡◌, Bool, true, is_some, Some, None, Option, Decides, refl}
use Rattle.std.specs.Str.{bytes_eq}
use Rattle.std.proofs.Common.{arith, sym, ◌∙◌}
use Rattle.std.proofs.lemmas.Slice.Eq.{bytes_eq-Decides}
use Rattle.datatypes.specs.Meaning.{Bytes, AreBytes, LawfulType, Lawful}
use Rattle.datatypes.specs.Values.{both_equal, value_type, Equivalence, ValueType, LawfulValueType, library_of}

module _ {V : Type 0} (equal : V → V → Bool) (e : Equivalence equal) where
  both_equal_symmetric : (x y : Option V) → both_equal equal x y ≡ true → both_equal equal y x ≡ true
  both_equal_symmetric None y h = cc
  both_equal_symmetric (Some x) None h = cc
  both_equal_symmetric (Some x) (Some y) h = e.symmetric x y h

  both_equal_transitive : (x y z : Option V) → both_equal equal x y ≡ true → both_equal equal y z ≡ true → both_equal equal x z ≡ true
  both_equal_transitive None y z h k = cc
  both_equal_transitive (Some x) None z h k = cc
  both_equal_transitive (Some x) (Some y) None h k = cc
  both_equal_transitive (Some x) (Some y) (Some z) h k = e.transitive x y z h k

  both_equal_reflexive : (x : Option V) → both_equal equal x x ≡ is_some x
  both_equal_reflexive None = refl
  both_equal_reflexive (Some x) = e.reflexive x

  -- s is a string that the type allows
  pub value_type-LawfulType : (read : Bytes → Option V) (s : Bytes) → AreBytes s → is_some (read s) ≡ true → LawfulType (value_type read equal)
  value_type-LawfulType read s bytes some = record {
    symmetric = λ a b h. both_equal_symmetric (read a) (read b) h;
    transitive = λ a b c h k. both_equal_transitive (read a) (read b) (read c) h k;
    reflexive = λ a. both_equal_reflexive (read a);
    in_bytes = λ a h. (s, bytes, some);
  }

pub library_of-Lawful : {V : Type 0} (t : ValueType V) → LawfulValueType t → Lawful (library_of t)
library_of-Lawful t h = record {
  each = (value_type-LawfulType t.equal h.equivalence t.read t.example h.in_bytes h.stands, tt);
  known = λ uri name n e. grind arith;
}

-- what decides whether two values are the same one is an equivalence
pub Equivalence-from_Decides : {V : Type 0} (equal : V → V → Bool) → ((x y : V) → Decides (equal x y) (x ≡ y)) → Equivalence equal
Equivalence-from_Decides equal h = record {
  reflexive = λ x. (h x x).1 refl;
  symmetric = λ x y e. (h y x).1 (sym ((h x y).0 e));
  transitive = λ x y z e f. (h x z).1 ((h x y).0 e ∙ (h y z).0 f);
}

pub bytes_eq-Equivalence : Equivalence bytes_eq
bytes_eq-Equivalence = Equivalence-from_Decides bytes_eq bytes_eq-Decides
