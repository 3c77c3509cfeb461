-- Which strings are decimals, and the number that each of them writes.
use Rattle.std.specs.Prelude.{ℕ, suc, ◌+◌, ◌-◌, ◌*◌, ◌^◌, Bool, true, false, cond, ◌&&◌, ◌||◌, [], ◌∷◌, ℤ, pos, negsuc, ◌*ℤ◌, neg_ℤ, Some, None, Option, ◌==◌, nat_le}
use Rattle.datatypes.specs.Blanks.{trim}
use Rattle.datatypes.specs.Meaning.{Bytes}

abbrev pub is_digit : ℕ → Bool
is_digit b = nat_le 0x30 b && nat_le b 0x39

abbrev pub is_point : ℕ → Bool
is_point b = b == 0x2E

abbrev pub is_plus : ℕ → Bool
is_plus b = b == 0x2B

abbrev pub is_minus : ℕ → Bool
is_minus b = b == 0x2D

-- Every byte passes a test.
abbrev pub every : (ℕ → Bool) → Bytes → Bool
every p [] = true
every p (b ∷ s) = p b && every p s

-- How many bytes pass a test.
abbrev pub count : (ℕ → Bool) → Bytes → ℕ
count p [] = 0
count p (b ∷ s) = cond (p b) (suc (count p s)) (count p s)

-- Nothing but digits and points: at least one digit and at most 18, whether zeros or not, and at most one point, wherever it stands.
abbrev pub is_numeral : Bytes → Bool
is_numeral s = every (λ b. is_digit b || is_point b) s && nat_le 1 (count is_digit s) && nat_le (count is_digit s) 18 && nat_le (count is_point s) 1

-- A minus stands at the front.
abbrev pub starts_minus : Bytes → Bool
starts_minus [] = false
starts_minus (b ∷ s) = is_minus b

-- Without the plus or minus at the front, if there is one.
abbrev pub unsigned : Bytes → Bytes
unsigned [] = []
unsigned (b ∷ s) = cond (is_plus b || is_minus b) s (b ∷ s)

-- A decimal: the blanks at both ends dropped, it is an optional sign and then a numeral.
abbrev pub is_decimal : Bytes → Bool
is_decimal s = is_numeral (unsigned (trim s))

-- The digits of a string read in base ten, after those that gave the number n; other bytes are passed over.
abbrev pub read_on : ℕ → Bytes → ℕ
read_on n [] = n
read_on n (b ∷ s) = cond (is_digit b) (read_on (n * 10 + (b - 0x30)) s) (read_on n s)

-- What stands after the first point, if there is one.
abbrev pub after_point : Bytes → Bytes
after_point [] = []
after_point (b ∷ s) = cond (is_point b) s (after_point s)

-- A number: its sign, its digits read as one number, and how many of them stand after the point.
pub record Number : Type 0 where
  pub negative : Bool
  pub digits : ℕ
  pub scale : ℕ

-- The number that a decimal writes.
abbrev pub written : Bytes → Number
written s = record {
  negative = starts_minus (trim s);
  digits = read_on 0 (unsigned (trim s));
  scale = count is_digit (after_point (unsigned (trim s)));
}

-- The number that a string writes, if it is a decimal.
abbrev pub decimal_of : Bytes → Option Number
decimal_of s = cond (is_decimal s) (Some (written s)) None

-- The value of a number is the fraction numerator / 10 ^ scale.
abbrev pub numerator : Number → ℤ
numerator x = cond x.negative (neg_ℤ (pos x.digits)) (pos x.digits)

abbrev pub denominator : Number → ℤ
denominator x = pos (10 ^ x.scale)

abbrev pub same_integer : ℤ → ℤ → Bool
same_integer (pos m) (pos n) = m == n
same_integer (pos m) (negsuc n) = false
same_integer (negsuc m) (pos n) = false
same_integer (negsuc m) (negsuc n) = m == n

-- Two numbers are equal in value: a / b = c / d exactly if a · d = c · b.
abbrev pub equal_value : Number → Number → Bool
equal_value x y = same_integer (numerator x *ℤ denominator y) (numerator y *ℤ denominator x)
