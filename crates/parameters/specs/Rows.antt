-- The rows of a file of parameters, and what the datatype libraries say of each.
use Rattle.std.specs.Prelude.{ℕ, cond, List, [], ◌∷◌, Some, None, Option, ◌==◌}
use Rattle.datatypes.specs.BuiltIn.{built_in}
use Rattle.datatypes.specs.Comparison.{Answer, compared}
use Rattle.datatypes.specs.Decimals.{decimals}
use Rattle.datatypes.specs.Names.{xml_schema_datatypes}
use Rattle.datatypes.specs.Meaning.{Bytes}
use Rattle.parameters.specs.Lines.{fields_of}

-- A row: the name of a type, and the values that two systems hold.
pub record Row : Type 0 where
  pub name : Bytes
  pub left : Bytes
  pub right : Bytes

-- Three fields are a row; fewer or more are none.
abbrev pub row_of : List Bytes → Option Row
row_of [] = None
row_of (n ∷ []) = None
row_of (n ∷ l ∷ []) = None
row_of (n ∷ l ∷ r ∷ []) = Some (record { name = n; left = l; right = r })
row_of (n ∷ l ∷ r ∷ x ∷ xs) = None

-- One answer, or another where the first says that there is no type.
abbrev pub or_else : Answer → Answer → Answer
or_else a b = cond (a.number == 0) b a

-- The built-in library is asked first, and then the decimal one.
abbrev pub judged : Row → Answer
judged r =
    or_else (compared built_in [] r.name r.left r.right)
    (compared decimals xml_schema_datatypes r.name r.left r.right)

-- The outcome of a line is the number of the answer: 1 for same, 2 for different, and 0 for not compared, as a line is that is no row.
abbrev pub row_outcome : Option Row → ℕ
row_outcome None = 0
row_outcome (Some r) = (judged r).number

abbrev pub outcome_of : Bytes → ℕ
outcome_of line = row_outcome (row_of (fields_of line))
