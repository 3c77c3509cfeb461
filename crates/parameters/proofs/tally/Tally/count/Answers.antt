use Rattle.std.proofs.Common.{◌≡◌, refl, arith, rules}
use Rattle.parameters.specs.Rows.{outcome_of}
use Rattle.parameters.proofs.Reports.{Counts-append}
use Rattle.parameters.proofs.tally.Tally.count.Goals as goal

pub returns-in-Some-Same : goal.returns-in-Some-Same
returns-in-Some-Same c = λ ls line h o.
    let e : 1 ≡ outcome_of line = search rules in
    Counts-append c.args.self.now _ ls line 1 h e refl refl (omega arith) (omega arith)

pub returns-in-Some-Different : goal.returns-in-Some-Different
returns-in-Some-Different c = λ ls line h o.
    let e : 2 ≡ outcome_of line = search rules in
    Counts-append c.args.self.now _ ls line 2 h e refl (omega arith) refl (omega arith)

pub returns-in-None : goal.returns-in-None
returns-in-None c = λ ls line h o.
    let e : 0 ≡ outcome_of line = search rules in
    Counts-append c.args.self.now _ ls line 0 h e refl (omega arith) (omega arith) refl
