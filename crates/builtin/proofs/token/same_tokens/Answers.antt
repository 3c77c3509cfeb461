use Rattle.std.proofs.Common.{ap, ◌∙◌, ap₂}
use Rattle.std.specs.Str.{bytes_eq}
use Rattle.std.proofs.lemmas.Slice.Eq.{bytes_eq-Decides}
use Rattle.std.proofs.lemmas.Bool.Decides.{same_from_decides}
use Rattle.builtin.specs.Collapsed.{ahead}
use Rattle.builtin.proofs.Shown.{eq-Decides}
use Rattle.builtin.proofs.token.same_tokens.Goals as goal

pub returns : goal.returns
returns c =
    let h = c.eq.ensures.ran in
    let told = eq-Decides ahead ahead c.new.result h.0 h.1 h.2 h.3 h.4 h.5 h.6 c.eq.result h.8 h.9 h.10 h.11 in
    same_from_decides c.eq.result (bytes_eq (ahead c.new.result) (ahead h.0)) told (bytes_eq-Decides _ _) ∙ ap₂ bytes_eq c.new.ensures (ap ahead h.7 ∙ c.new-2.ensures)
