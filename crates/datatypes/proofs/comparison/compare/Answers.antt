use Rattle.std.proofs.Common.{sym}
use Rattle.datatypes.proofs.Laws.{compared_same}
use Rattle.datatypes.proofs.comparison.compare.Goals as goal

-- What is same is allowed, so the sides need not be asked.
pub returns-then-same : goal.returns-then-same
returns-then-same g c =
    compared_same (g.met.L.DatatypeLibrary.lawful c.args.library.now) c.args.type_name.uri.now c.args.type_name.name.now c.args.left.now c.args.right.now c.in_ok-datatype.datatype (sym c.in_ok-datatype.ensures) (sym c.if-same.ensures)
