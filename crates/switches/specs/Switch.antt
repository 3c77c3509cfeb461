-- The library of this example: the type `switch` of the URI `urn:example:switches`.
use Rattle.std.specs.Prelude.{ℕ, Bool, true, false, cond, ◌||◌, [], ◌∷◌, Some, None, codes, Option, ◌==◌}
use Rattle.datatypes.specs.Blanks.{trim}
use Rattle.datatypes.specs.Meaning.{Bytes, Meaning}
use Rattle.datatypes.specs.Values.{ValueType, library_of}

-- The letter Y and the digit 1 stand for on, N and 0 for off.
abbrev pub letter_value : ℕ → Option Bool
letter_value b = cond (b == 0x59 || b == 0x31) (Some true) (cond (b == 0x4E || b == 0x30) (Some false) None)

abbrev pub word_value : Bytes → Option Bool
word_value [] = None
word_value (b ∷ []) = letter_value b
word_value (b ∷ c ∷ s) = None

-- The value of a string: the blanks at both ends dropped, it is one such byte.
abbrev pub switch_of : Bytes → Option Bool
switch_of s = word_value (trim s)

abbrev pub equal_switches : Bool → Bool → Bool
equal_switches true y = y
equal_switches false true = false
equal_switches false false = true

-- A `switch` is a string that stands for on or off, and two are same if they stand for the same.
abbrev pub switch : ValueType Bool
switch = record {
  uri = codes "urn:example:switches";
  name = codes "switch";
  read = switch_of;
  equal = equal_switches;
  example = codes "0";
}

-- Type 1 is `switch`.
abbrev pub switches : Meaning
switches = library_of switch
