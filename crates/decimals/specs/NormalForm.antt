-- The normal form of a decimal that has been read.
use Rattle.std.specs.Prelude.{◌≡◌, ℕ, ◌%◌, Bool, true, not, ◌||◌, ◌==◌}

-- The fraction does not end in zero.
abbrev pub NoLastZero : ℕ → ℕ → Type 0
NoLastZero m f = (f == 0 || not (m % 10 == 0)) ≡ true

-- Zero is positive.
abbrev pub PositiveZero : ℕ → Bool → Type 0
PositiveZero m n = (not (m == 0) || not n) ≡ true
