-- The built-in library keeps the laws: its types are given by the values of their strings, which are compared byte by byte.
use Rattle.std.specs.Prelude.{[], Some, refl}
use Rattle.std.specs.Str.{bytes_eq}
use Rattle.std.proofs.Common.{arith}
use Rattle.datatypes.specs.BuiltIn.{collapse, built_in}
use Rattle.datatypes.specs.Laws.{value_type-LawfulType, bytes_eq-Equivalence}
use Rattle.datatypes.specs.Meaning.{Lawful}

pub built_in-Lawful : Lawful built_in
built_in-Lawful = record {
  each = (value_type-LawfulType bytes_eq bytes_eq-Equivalence (λ s. Some s) [] tt refl, (value_type-LawfulType bytes_eq bytes_eq-Equivalence (λ s. Some (collapse s)) [] tt refl, tt));
  known = λ uri name t e. grind arith;
}
