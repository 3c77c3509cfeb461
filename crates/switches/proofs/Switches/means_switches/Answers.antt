use Rattle.switches.specs.Laws.{switches-Lawful}
use Rattle.switches.proofs.Switches.means_switches.Goals as goal

pub returns-clause-lawful : goal.returns-clause-lawful
returns-clause-lawful c = switches-Lawful
