use Rattle.std.proofs.Common.{rules, ap, sym, ◌∙◌, ◌∷◌, tests}
use Rattle.datatypes.specs.Blanks.{drop_blanks}
use Rattle.builtin.proofs.First.{found}
use Rattle.builtin.proofs.token.first_solid.Goals as goal

pub returns-in_err-b : goal.returns-in_err-b
returns-in_err-b c =
    let e = found _ (λ x p q k. search (rules, tests)) (λ x p q k. search (rules, tests)) c.iter-bytes.result c.find.new.self _ c.find.result c.find.ensures.ran in
    let f = rw c.in_err-b.was at e in
    rw (c.from_residual.ensures, ← c.iter-bytes.ensures.rest) f

pub returns : goal.returns
returns c =
    let e = found _ (λ x p q k. search (rules, tests)) (λ x p q k. search (rules, tests)) c.iter-bytes.result c.find.new.self _ c.find.result c.find.ensures.ran in
    let f = rw c.in_ok-b.was at e in
    ap drop_blanks (sym c.iter-bytes.ensures.rest) ∙ f ∙ ap (λ t. c.in_ok-b.b.now ∷ t) (sym c.as_slice.ensures.value)
