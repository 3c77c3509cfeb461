use Rattle.std.proofs.Common.{◌≡◌, ◌++◌, ◌∷◌, [], Some, None, Option, ap, sym, ◌∙◌, Bor, MatchOption}
use Rattle.std.specs.Option.{unwrap_or}
use Rattle.std.proofs.lemmas.Bool.Decides.{Decides-eqb}
use Rattle.std.proofs.lemmas.Slice.Eq.{strip_suffix_is}
use Rattle.datatypes.specs.Meaning.{Bytes}
use Rattle.parameters.specs.Lines.{without_newline}
use Rattle.parameters.proofs.Lines.{without_newline_ended, without_newline_unended}
use Rattle.parameters.proofs.reporting.trim_newline.Goals as goal

trimmed : (line : Bor Bytes) (o : Option (Bor Bytes)) → MatchOption o ((front : Bytes) → line.now ≡ front ++ 10 ∷ [] → ⊥) (λ x. line.now ≡ x.now ++ 10 ∷ []) → (unwrap_or o line).now ≡ without_newline line.now
trimmed line None h = sym (without_newline_unended line.now h)
trimmed line (Some x) h = sym (ap without_newline h ∙ without_newline_ended x.now)

pub returns : goal.returns
returns c = ap (λ l. l.now) c.unwrap_or.ensures ∙ trimmed c.args.line c.strip_suffix.result (strip_suffix_is Decides-eqb c.args.line.now (10 ∷ []) c.strip_suffix.result c.strip_suffix.ensures.cases)
