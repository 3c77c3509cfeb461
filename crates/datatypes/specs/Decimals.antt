-- The decimal library: the type `decimal` of XML Schema's URI.
use Rattle.std.specs.Prelude.{codes}
use Rattle.datatypes.specs.Meaning.{Meaning}
use Rattle.datatypes.specs.Names.{xml_schema_datatypes}
use Rattle.datatypes.specs.Numeral.{Number, decimal_of, equal_value}
use Rattle.datatypes.specs.Values.{ValueType, library_of}

-- A `decimal` is a string that writes a number, and two are same if their numbers are equal in value.
abbrev pub decimal : ValueType Number
decimal = record {
  uri = xml_schema_datatypes;
  name = codes "decimal";
  read = decimal_of;
  equal = equal_value;
  example = codes "0";
}

-- Type 1 is `decimal`.
abbrev pub decimals : Meaning
decimals = library_of decimal
