-- What a datatype library means: the types that it has, and the laws that they keep.
use Rattle.std.specs.Prelude.{◌≡◌, ℕ, ◌-◌, ◌<◌, ◌≤◌, Bool, true, false, cond, List, [], ◌∷◌, length, Some, Option, ◌==◌}
use Rattle.std.specs.List.{AllByRecursion}

-- A string is a list of bytes. As a rule the definitions take any numbers for them; the code has none but those below 256.
abbrev pub Bytes : Type 0
Bytes = List ℕ

-- Each number of a list is a byte.
abbrev pub AreBytes : Bytes → Type 0
AreBytes s = AllByRecursion (λ b. b < 256) s

-- A type says which strings it allows, and which two strings it calls same.
pub record Datatype : Type 0 where
  pub allows : Bytes → Bool
  pub same : Bytes → Bytes → Bool

-- The meaning of a library: its types, which are numbered from 1 in this order, and the number of the type, if any, that a URI and a name stand for.
pub record Meaning : Type 0 where
  pub types : List Datatype
  pub type_of : Bytes → Bytes → Option ℕ

-- A number that is no type allows no string, and no two strings are same.
abbrev pub no_type : Datatype
no_type = record { allows = λ s. false; same = λ a b. false }

-- The type that has a number, counted from 1.
abbrev pub type_numbered : List Datatype → ℕ → Datatype
type_numbered [] t = no_type
type_numbered (d ∷ ds) t = cond (t == 1) d (type_numbered ds (t - 1))

-- Type t allows the string s.
abbrev pub allowed : Meaning → ℕ → Bytes → Bool
allowed m t s = (type_numbered m.types t).allows s

-- The strings a and b are same by type t.
abbrev pub same : Meaning → ℕ → Bytes → Bytes → Bool
same m t a b = (type_numbered m.types t).same a b

-- Type t allows some string.
abbrev pub SomeAllowed : Meaning → ℕ → Type 0
SomeAllowed m t = (s : Bytes) × AreBytes s × (allowed m t s ≡ true)

-- The laws of a type: same is an equivalence on the strings that it allows, and holds of no others; and a type that allows any list of numbers allows one of bytes.
pub record LawfulType (d : Datatype) : Type 0 where
  pub symmetric : (a b : Bytes) → d.same a b ≡ true → d.same b a ≡ true
  pub transitive : (a b c : Bytes) → d.same a b ≡ true → d.same b c ≡ true → d.same a c ≡ true
  pub reflexive : (a : Bytes) → d.same a a ≡ d.allows a
  pub in_bytes : (a : Bytes) → d.allows a ≡ true → (s : Bytes) × AreBytes s × (d.allows s ≡ true)

-- The laws of a library: each of its types keeps the laws of a type, and what a URI and a name stand for is one of its types.
pub record Lawful (m : Meaning) : Type 0 where
  pub each : AllByRecursion LawfulType m.types
  pub known : (uri name : Bytes) (t : ℕ) → m.type_of uri name ≡ Some t → (1 ≤ t) × (t ≤ length m.types)
