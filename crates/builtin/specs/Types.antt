-- The types of the built-in library by their numbers.
use Rattle.std.specs.Prelude.{◌≡◌, ℕ, ◌≢◌, Result, MatchResult}
use Rattle.builtin.specs.declared.types.BuiltInType.{BuiltInType}
use Rattle.builtin.specs.declared.types.BuiltInType.TheVariants.{String, Token}
use Rattle.builtin.specs.declared.types.NoType.{NoType}

-- Each type with its number.
abbrev pub number_of : BuiltInType → ℕ
number_of String = 1
number_of Token = 2

-- The type that has a number, or an error where the number is no type's.
abbrev pub Decodes : ℕ → Result BuiltInType NoType → Type 0
Decodes n r = MatchResult r (λ t. number_of t ≡ n) (λ _. (n ≢ 1) × (n ≢ 2))
