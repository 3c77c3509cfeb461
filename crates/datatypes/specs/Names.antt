-- URIs and names of types.
use Rattle.std.specs.Prelude.{ℕ, Bool, cond, ◌&&◌, Some, None, codes, Option}
use Rattle.std.specs.Str.{bytes_eq}
use Rattle.datatypes.specs.Meaning.{Bytes}

-- The URI of the datatypes of XML Schema.
abbrev pub xml_schema_datatypes : Bytes
xml_schema_datatypes = codes "http://www.w3.org/2001/XMLSchema-datatypes"

-- A URI and a name are the two that a type has.
abbrev pub same_name : Bytes → Bytes → Bytes → Bytes → Bool
same_name own_uri own_name uri name = bytes_eq uri own_uri && bytes_eq name own_name

-- In a library of one type, its URI and name stand for type 1, and others for none.
abbrev pub only_type : Bytes → Bytes → Bytes → Bytes → Option ℕ
only_type own_uri own_name uri name = cond (same_name own_uri own_name uri name) (Some 1) None
