use Rattle.std.proofs.Common.{sym}
use Rattle.builtin.proofs.Tokens.{collapse_first}
use Rattle.builtin.proofs.token.Collapsed.new.Goals as goal

pub returns-in-Some : goal.returns-in-Some
returns-in-Some c = sym (collapse_first c.args.s.now c.in-Some.b c.in-Some.rest.now c.in-Some.ensures)
