-- What a comparison of two strings under a type of a library answers.
use Rattle.std.specs.Prelude.{ℕ, Bool, true, cond, Some, None, Option}
use Rattle.datatypes.specs.declared.comparison.Comparison.{Comparison}
use Rattle.datatypes.specs.declared.comparison.Comparison.TheVariants.{Same, Different}
use Rattle.datatypes.specs.Meaning.{Bytes, Meaning, allowed, same}

-- An answer is a number and, where there is a type, whether the left string is allowed and whether the right one is.
pub record Answer : Type 0 where
  pub number : ℕ
  pub sides : Option (Bool × Bool)

-- Each case of what `compare` answers with its number and its values; none stands for no type.
abbrev pub answer : Option Comparison → Answer
answer None = record { number = 0; sides = None }
answer (Some Same) = record { number = 1; sides = Some (true, true) }
answer (Some (Different l r)) = record { number = 2; sides = Some (l, r) }

-- What a library says of two strings under its type t, if there is one.
abbrev pub told : Meaning → Option ℕ → Bytes → Bytes → Answer
told m None l r = record { number = 0; sides = None }
told m (Some t) l r = record { number = cond (same m t l r) 1 2; sides = Some (allowed m t l, allowed m t r) }

-- What a library says of two strings under the type that a URI and a name stand for.
abbrev pub compared : Meaning → Bytes → Bytes → Bytes → Bytes → Answer
compared m u n l r = told m (m.type_of u n) l r
