-- What a `Decimal` holds.
use Rattle.datatypes.specs.Numeral.{Number}
use Rattle.decimals.specs.declared.decimal.Decimal.{Decimal}

-- The number that a `Decimal` holds.
abbrev pub held : Decimal → Number
held d = record { negative = d.negative; digits = d.magnitude; scale = d.fraction }
