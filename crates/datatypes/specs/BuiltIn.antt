-- The built-in library: the types `string` and `token` of the empty URI.
use Rattle.std.specs.Prelude.{Bool, false, cond, [], ◌∷◌, Some, None, codes}
use Rattle.std.specs.Str.{bytes_eq}
use Rattle.datatypes.specs.Blanks.{is_blank, trim}
use Rattle.datatypes.specs.Meaning.{Bytes, Datatype, Meaning}
use Rattle.datatypes.specs.Names.{same_name}
use Rattle.datatypes.specs.Values.{value_type}

-- A blank stands at the front.
abbrev pub starts_blank : Bytes → Bool
starts_blank [] = false
starts_blank (b ∷ s) = is_blank b

-- Each run of blanks made one byte 20: a blank goes where another follows it, and the last of a run becomes 20.
abbrev pub squeeze : Bytes → Bytes
squeeze [] = []
squeeze (b ∷ s) = cond (is_blank b) (cond (starts_blank s) (squeeze s) (0x20 ∷ squeeze s)) (b ∷ squeeze s)

-- The blanks at both ends dropped, and each inner run of them made one byte 20.
abbrev pub collapse : Bytes → Bytes
collapse s = squeeze (trim s)

-- Every string is a `string`, and stands for its bytes.
abbrev pub string : Datatype
string = value_type (λ s. Some s) bytes_eq

-- Every string is a `token`, and stands for its bytes once collapsed.
abbrev pub token : Datatype
token = value_type (λ s. Some (collapse s)) bytes_eq

-- Type 1 is `string`, type 2 is `token`.
abbrev pub built_in : Meaning
built_in = record {
  types = string ∷ token ∷ [];
  type_of = λ uri name.
      cond (same_name [] (codes "string") uri name) (Some 1) (cond (same_name [] (codes "token") uri name) (Some 2) None);
}
