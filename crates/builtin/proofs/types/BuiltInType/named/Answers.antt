use Rattle.std.proofs.Common.{rules, ◌≡◌, codes}
use Rattle.std.proofs.lemmas.Slice.Eq.{text_from_reads}
use Rattle.builtin.proofs.types.BuiltInType.named.Goals as goal

pub returns-in-empty-string : goal.returns-in-empty-string
returns-in-empty-string c =
    let u : c.args.type_name.uri.now ≡ codes "" = text_from_reads _ _ (search rules) tt in
    let n : c.args.type_name.name.now ≡ codes "string" = text_from_reads _ _ (search rules) (search rules) in
    rw (u, n)
