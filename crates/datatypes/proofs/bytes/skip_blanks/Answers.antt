use Rattle.std.proofs.Common.{rules, tests}
use Rattle.std.proofs.lemmas.Iterator.{YieldsList-from_slice}
use Rattle.std.proofs.lemmas.Iterator.Search.{position_from_yields_List}
use Rattle.datatypes.proofs.Blanks.{is_solid, front, blanks_before, all_blank}
use Rattle.datatypes.proofs.bytes.skip_blanks.Goals as goal

pub returns-in-Some : goal.returns-in-Some
returns-in-Some c =
    let s = c.args.s.now in
    let n = c.in-Some.blanks in
    front s n (blanks_before s n (position_from_yields_List is_solid _ _ _ c.in-Some.ensures.ran (YieldsList-from_slice s (cc)) (λ x b q k. search (rules, tests))))

pub returns-in-None : goal.returns-in-None
returns-in-None c =
    let s = c.args.s.now in
    all_blank s (position_from_yields_List is_solid _ _ _ c.in-None.ensures.ran (YieldsList-from_slice s (cc)) (λ x b q k. search (rules, tests)))
