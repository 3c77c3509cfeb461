-- Reading a numeral byte by byte.
use Rattle.std.proofs.Common.{◌≡◌, ℕ, ◌^◌, ◌<◌, ◌≤◌, drop, Option, unwrap_or, arith}
use native.Mathlib.Nat.{pow-le-pow_right}
use Rattle.decimals.specs.Digits.{completes, points, scale_with}
use Rattle.datatypes.specs.Meaning.{Bytes}
use Rattle.datatypes.specs.Numeral.{is_digit, count, is_numeral, read_on, after_point}

-- what few digits write is small
pub room : (m n k : ℕ) → m < 10 ^ n → n ≤ k → m < 10 ^ k
room m n k small few = omega (arith, pow-le-pow_right {n = 10} (omega arith) few)

-- the first i bytes of s have been read: they write m by n digits, of which f tells how many came after a point
pub record Going (s : Bytes) (i m n : ℕ) (f : Option ℕ) : Type 0 where
  pub few : n ≤ 18
  pub small : m < 10 ^ n
  pub part : unwrap_or f 0 ≤ n
  pub fits : completes n (points f) (drop i s) ≡ is_numeral s
  pub value : read_on m (drop i s) ≡ read_on 0 s
  pub scale : scale_with f (drop i s) ≡ count is_digit (after_point s)
