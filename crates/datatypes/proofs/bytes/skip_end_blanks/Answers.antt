use Rattle.std.proofs.Common.{reverse, rules, tests, ap}
use Rattle.std.proofs.lemmas.Iterator.Adapters.{YieldsList-from_rev_slice}
use Rattle.std.proofs.lemmas.Iterator.Search.{position_from_yields_List}
use Rattle.datatypes.proofs.Blanks.{is_solid, back, blanks_before, all_blank}
use Rattle.datatypes.proofs.bytes.skip_end_blanks.Goals as goal

pub returns-in-Some : goal.returns-in-Some
returns-in-Some c =
    let s = c.args.s.now in
    let n = c.in-Some.blanks in
    back s n (blanks_before (reverse s) n (position_from_yields_List is_solid _ _ _ c.in-Some.ensures.ran (YieldsList-from_rev_slice s (cc)) (λ x b q k. search (rules, tests))))

pub returns-in-None : goal.returns-in-None
returns-in-None c =
    let s = c.args.s.now in
    ap reverse (all_blank (reverse s) (position_from_yields_List is_solid _ _ _ c.in-None.ensures.ran (YieldsList-from_rev_slice s (cc)) (λ x b q k. search (rules, tests))))
