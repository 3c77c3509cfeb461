-- The lines of a file, and the fields of a line.
use Rattle.std.specs.Prelude.{ℕ, cond, List, [], ◌∷◌, ◌==◌}
use Rattle.datatypes.specs.Meaning.{Bytes}

-- One byte more at the front of the first part; where there is no part, it is one by itself.
abbrev pub prepend : ℕ → List Bytes → List Bytes
prepend b [] = (b ∷ []) ∷ []
prepend b (s ∷ ss) = (b ∷ s) ∷ ss

-- The parts of a string that is cut at each byte c. What follows the last c is a part too; `last` says what there is where nothing follows it.
abbrev pub cut_at : ℕ → List Bytes → Bytes → List Bytes
cut_at c last [] = last
cut_at c last (b ∷ s) = cond (b == c) ([] ∷ cut_at c last s) (prepend b (cut_at c last s))

-- The lines of a file: each ends at a byte 0A, and the last may end with the file instead.
abbrev pub lines_of : Bytes → List Bytes
lines_of file = cut_at 0x0A [] file

-- The fields of a line: between two of them stands a tab, 09.
abbrev pub fields_of : Bytes → List Bytes
fields_of line = cut_at 0x09 ([] ∷ []) line

-- A line without the newline at its end, if there is one.
abbrev pub without_newline : Bytes → Bytes
without_newline [] = []
without_newline (b ∷ []) = cond (b == 0x0A) [] (b ∷ [])
without_newline (b ∷ c ∷ s) = b ∷ without_newline (c ∷ s)
