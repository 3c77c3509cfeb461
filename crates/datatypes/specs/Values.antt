-- Types whose strings stand for values.
use Rattle.std.specs.Prelude.{◌≡◌, Bool, true, false, [], ◌∷◌, is_some, Some, None, Option}
use Rattle.datatypes.specs.Meaning.{Bytes, AreBytes, Datatype, Meaning}
use Rattle.datatypes.specs.Names.{only_type}

-- Two values are there, and they are equal.
abbrev pub both_equal : {V : Type 0} → (V → V → Bool) → Option V → Option V → Bool
both_equal equal None y = false
both_equal equal (Some x) None = false
both_equal equal (Some x) (Some y) = equal x y

-- The type of the strings that stand for a value: `read` gives the value of a string, if it has one, and strings are same if their values are equal.
abbrev pub value_type : {V : Type 0} → (Bytes → Option V) → (V → V → Bool) → Datatype
value_type read equal = record { allows = λ s. is_some (read s); same = λ a b. both_equal equal (read a) (read b) }

-- Such a type with its URI and its name, and a string that it allows.
pub record ValueType (V : Type 0) : Type 0 where
  pub uri : Bytes
  pub name : Bytes
  pub read : Bytes → Option V
  pub equal : V → V → Bool
  pub example : Bytes

-- A relation that is given by truth values is an equivalence.
pub record Equivalence {V : Type 0} (equal : V → V → Bool) : Type 0 where
  pub reflexive : (x : V) → equal x x ≡ true
  pub symmetric : (x y : V) → equal x y ≡ true → equal y x ≡ true
  pub transitive : (x y z : V) → equal x y ≡ true → equal y z ≡ true → equal x z ≡ true

-- Its laws: equality of values is an equivalence, and the example is a string of bytes that stands for a value.
pub record LawfulValueType {V : Type 0} (t : ValueType V) : Type 0 where
  pub equivalence : Equivalence t.equal
  pub in_bytes : AreBytes t.example
  pub stands : is_some (t.read t.example) ≡ true

-- The library that has this type and no other.
abbrev pub library_of : {V : Type 0} → ValueType V → Meaning
library_of t = record { types = value_type t.read t.equal ∷ []; type_of = only_type t.uri t.name }

-- What code reads stands for the value that is written: there is none where no value is written, and else what it means is equal to that value.
abbrev pub Reads : {V W : Type 0} → (V → V → Bool) → (W → V) → Option V → Option W → Type 0
Reads equal meant None None = Unit {0}
Reads equal meant None (Some x) = ⊥
Reads equal meant (Some v) None = ⊥
Reads equal meant (Some v) (Some x) = equal (meant x) v ≡ true
