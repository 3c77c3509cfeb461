-- Blank bytes, and a string without those at its ends.
use Rattle.std.specs.Prelude.{ℕ, Bool, cond, ◌||◌, [], ◌∷◌, reverse, ◌==◌}
use Rattle.datatypes.specs.Meaning.{Bytes}

-- A blank is a space, a tab, a line feed or a carriage return.
abbrev pub is_blank : ℕ → Bool
is_blank b = b == 0x20 || b == 0x09 || b == 0x0A || b == 0x0D

-- Without the blanks at the front.
abbrev pub drop_blanks : Bytes → Bytes
drop_blanks [] = []
drop_blanks (b ∷ s) = cond (is_blank b) (drop_blanks s) (b ∷ s)

-- Without the blanks at the end.
abbrev pub drop_end_blanks : Bytes → Bytes
drop_end_blanks s = reverse (drop_blanks (reverse s))

-- Without the blanks at both ends.
abbrev pub trim : Bytes → Bytes
trim s = drop_end_blanks (drop_blanks s)
