use Rattle.std.proofs.Common.{◌≡◌, ◌∷◌, None, length, sym, ap, ◌∙◌, arith, rules}
use Rattle.std.proofs.iter.Next.{firm}
use Rattle.builtin.proofs.Tokens.{unheld, coming_none, coming_gap, coming_next}
use Rattle.builtin.proofs.token.CollapsedIterator.next.Goals as goal

pub returns-in_err-b-clause-steps : goal.returns-in_err-b-clause-steps
returns-in_err-b-clause-steps c =
    let s = c.args.self.now.rest.now in
    let was : c.args.self.now.held ≡ None = sym c.take.ensures.value ∙ c.in_default.is in
    let now : c.take.new.self ≡ None = c.take.ensures.after in
    let ended = coming_none s c.in_err-b.ensures in
    simp c.from_residual.ensures (unheld s was ∙ ended, unheld s now ∙ ended)

pub returns-then-after_blanks-clause-steps : goal.returns-then-after_blanks-clause-steps
returns-then-after_blanks-clause-steps c =
    let s = c.args.self.now.rest.now in
    let was : c.args.self.now.held ≡ None = sym c.take.ensures.value ∙ c.in_default.is in
    unheld s was ∙ coming_gap s c.in_ok-b.b c.in_ok-b.rest.now c.in_ok-b.ensures c.if-after_blanks.true

pub returns-then-after_blanks-clause-goes : goal.returns-then-after_blanks-clause-goes
returns-then-after_blanks-clause-goes c =
    firm (tt, tt, omega (arith, ap length (returns-then-after_blanks-clause-steps c))) (λ h. search rules)

pub returns-clause-steps : goal.returns-clause-steps
returns-clause-steps c =
    let s = c.args.self.now.rest.now in
    let b = c.in_ok-b.b in
    let r = c.in_ok-b.rest.now in
    let was : c.args.self.now.held ≡ None = sym c.take.ensures.value ∙ c.in_default.is in
    let now : c.take.new.self ≡ None = c.take.ensures.after in
    unheld s was ∙ coming_next s b r c.in_ok-b.ensures c.if-after_blanks.false ∙ ap (λ t. b ∷ t) (sym (unheld r now))

pub returns-clause-goes : goal.returns-clause-goes
returns-clause-goes c =
    firm (tt, tt, omega (arith, ap length (returns-clause-steps c))) (λ h. search rules)
