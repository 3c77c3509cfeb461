use Rattle.decimals.specs.Laws.{decimals-Lawful}
use Rattle.decimals.proofs.Decimals.means_decimals.Goals as goal

pub returns-clause-lawful : goal.returns-clause-lawful
returns-clause-lawful c = decimals-Lawful
