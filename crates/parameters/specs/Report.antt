-- The text that reports on a file of parameters.
use Rattle.std.specs.Prelude.{ℕ, suc, ◌+◌, Bool, true, false, cond, List, [], ◌∷◌, ◌++◌, length, Some, None, codes, decimal, Option, ◌==◌}
use Rattle.datatypes.specs.Meaning.{Bytes}
use Rattle.parameters.specs.Lines.{lines_of, fields_of}
use Rattle.parameters.specs.Rows.{Row, row_of, judged, outcome_of}

abbrev pub side : Bool → Bytes
side true = codes "allowed"
side false = codes "not allowed"

abbrev pub likeness : ℕ → Bytes
likeness n = cond (n == 1) (codes "same") (codes "different")

-- `: left allowed, right not allowed, different`, by the number of an answer and the two sides.
abbrev pub verdict : ℕ → Bool × Bool → Bytes
verdict n p = codes ": left " ++ (side p.0 ++ (codes ", right " ++ (side p.1 ++ (codes ", " ++ likeness n))))

-- `TYPE: left allowed, right allowed, same`, or `no type TYPE`.
abbrev pub row_text : Bytes → ℕ → Option (Bool × Bool) → Bytes
row_text name n None = codes "no type " ++ name
row_text name n (Some p) = name ++ verdict n p

-- The row's text, or `not three fields`.
abbrev pub found : Option Row → Bytes
found None = codes "not three fields"
found (Some r) = row_text r.name (judged r).number (judged r).sides

-- `line N: ` and what is found of the line.
abbrev pub line_text : ℕ → Bytes → Bytes
line_text n line = codes "line " ++ (decimal n ++ (codes ": " ++ (found (row_of (fields_of line)) ++ codes "\n")))

-- The lines from line n on.
abbrev pub lines_text : ℕ → List Bytes → Bytes
lines_text n [] = []
lines_text n (l ∷ ls) = line_text n l ++ lines_text (n + 1) ls

-- How many lines have an outcome.
abbrev pub tallied : ℕ → List Bytes → ℕ
tallied k [] = 0
tallied k (l ∷ ls) = cond (outcome_of l == k) (suc (tallied k ls)) (tallied k ls)

-- `N lines: S same, D different, U not compared`
abbrev pub summary_text : ℕ → ℕ → ℕ → ℕ → Bytes
summary_text n s d u =
    decimal n ++ (codes " lines: " ++ (decimal s ++ (codes " same, " ++ (decimal d ++ (codes " different, " ++ (decimal u ++ codes " not compared\n"))))))

abbrev pub summary : List Bytes → Bytes
summary ls = summary_text (length ls) (tallied 1 ls) (tallied 2 ls) (tallied 0 ls)

-- The whole report: a line for each line of the file, and the summary.
abbrev pub reported : Bytes → Bytes
reported file = lines_text 1 (lines_of file) ++ summary (lines_of file)
