-- What the functions that read a numeral promise one another.
use Rattle.std.specs.Prelude.{◌≡◌, ℕ, ◌+◌, Bool, true, false, ◌&&◌, ◌||◌, ◌∷◌, Some, None, Option, nat_le}
use Rattle.std.specs.Option.{unwrap_or}
use Rattle.decimals.specs.declared.digits.Digits.{Digits}
use Rattle.datatypes.specs.Meaning.{Bytes}
use Rattle.datatypes.specs.Numeral.{Number, is_digit, is_point, every, count, is_numeral, read_on, after_point}

-- A string s makes a numeral of n digits and p points that stand before it.
abbrev pub completes : ℕ → ℕ → Bytes → Bool
completes n p s = every (λ b. is_digit b || is_point b) s && nat_le 1 (n + count is_digit s) && nat_le (n + count is_digit s) 18 && nat_le (p + count is_point s) 1

-- How many points were read, by how many digits came after one.
abbrev pub points : Option ℕ → ℕ
points None = 0
points (Some k) = 1

-- How many digits stand after the point once s has been read too.
abbrev pub scale_with : Option ℕ → Bytes → ℕ
scale_with None s = count is_digit (after_point s)
scale_with (Some k) s = k + count is_digit s

-- One byte more: whatever follows, it makes of the byte and the digits before it what it makes of the digits after it.
abbrev pub Pushed : Digits → ℕ → Option Digits → Type 0
Pushed d b None = (s : Bytes) → completes d.count (points d.fraction) (b ∷ s) ≡ false
Pushed d b (Some e) =
    (s : Bytes) → (completes d.count (points d.fraction) (b ∷ s) ≡ completes e.count (points e.fraction) s)
    × (read_on d.magnitude (b ∷ s) ≡ read_on e.magnitude s)
    × (scale_with d.fraction (b ∷ s) ≡ scale_with e.fraction s)

-- A numeral is read whole, and nothing else is.
abbrev pub ReadsDigits : Bytes → Option Digits → Type 0
ReadsDigits s None = is_numeral s ≡ false
ReadsDigits s (Some d) =
    (is_numeral s ≡ true) × (d.magnitude ≡ read_on 0 s) × (unwrap_or d.fraction 0 ≡ count is_digit (after_point s))

-- The number that a sign and digits write.
abbrev pub number : Bool → Digits → Number
number n d = record { negative = n; digits = d.magnitude; scale = unwrap_or d.fraction 0 }
