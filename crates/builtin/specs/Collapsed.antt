-- The bytes of a token, one at a time: what the functions that find them promise one another.
use Rattle.std.specs.Prelude.{◌≡◌, ℕ, [], ◌∷◌, ◌++◌, Some, None, Option}
use Rattle.std.specs.Borrow.{Bor}
use Rattle.datatypes.specs.Blanks.{drop_blanks, drop_end_blanks}
use Rattle.datatypes.specs.BuiltIn.{squeeze}
use Rattle.datatypes.specs.Meaning.{Bytes}
use Rattle.builtin.specs.declared.token.Collapsed.{Collapsed}

-- What the rest of a string gives after a byte that is no blank: its end blanks dropped, and each run of blanks before them one byte 20.
abbrev pub coming : Bytes → Bytes
coming s = squeeze (drop_end_blanks s)

-- The byte that is held, if any.
abbrev pub held_bytes : Option ℕ → Bytes
held_bytes None = []
held_bytes (Some b) = b ∷ []

-- The bytes to come.
abbrev pub ahead : Collapsed → Bytes
ahead c = held_bytes c.held ++ coming c.rest.now

-- The first byte that is no blank, and what stands after it.
abbrev pub FirstSolid : Bytes → Option (ℕ × Bor Bytes) → Type 0
FirstSolid s None = drop_blanks s ≡ []
FirstSolid s (Some p) = drop_blanks s ≡ p.0 ∷ p.1.now
