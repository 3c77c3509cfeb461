-- The type of switches keeps the laws, since two switches are equal if and only if they are the same one.
use Rattle.std.specs.Prelude.{◌≡◌, Bool, true, false, Decides, refl}
use Rattle.std.proofs.Common.{arith}
use Rattle.datatypes.specs.Laws.{Equivalence-from_Decides, library_of-Lawful}
use Rattle.datatypes.specs.Meaning.{Lawful}
use Rattle.datatypes.specs.Values.{Equivalence, LawfulValueType}
use Rattle.switches.specs.Switch.{equal_switches, switch, switches}

pub equal_switches-Decides : (x y : Bool) → Decides (equal_switches x y) (x ≡ y)
equal_switches-Decides true true = (λ e. refl, λ e. refl)
equal_switches-Decides true false = (λ e. cc, λ e. cc)
equal_switches-Decides false true = (λ e. cc, λ e. cc)
equal_switches-Decides false false = (λ e. refl, λ e. refl)

pub equal_switches-Equivalence : Equivalence equal_switches
equal_switches-Equivalence = Equivalence-from_Decides equal_switches equal_switches-Decides

pub switch-Lawful : LawfulValueType switch
switch-Lawful = record { equivalence = equal_switches-Equivalence; in_bytes = (omega arith, tt); stands = refl }

-- so the library does
pub switches-Lawful : Lawful switches
switches-Lawful = library_of-Lawful switch switch-Lawful
