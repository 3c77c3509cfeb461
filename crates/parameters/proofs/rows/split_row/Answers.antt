use Rattle.std.proofs.Common.{◌≡◌, Some, None, sym, rules, tests}
use Rattle.parameters.proofs.Fields.{row_of-split}
use Rattle.parameters.proofs.rows.split_row.Goals.{in_default-via-in-Some+in-Some+in-Some+in_default, in_default-via-in-Some+in-Some+in_default, in_default-via-in-Some+in_default, in_default-via-in_default}
use Rattle.parameters.proofs.rows.split_row.Goals as goal

pub returns-in-Some-Some-Some-None : goal.returns-in-Some-Some-Some-None
returns-in-Some-Some-Some-None c =
    let split = c.split-fields.ensures in
    let row = row_of-split _ _ _ _ _ _ _ _ _ c.args.line.now split.rest split.done split.closure c.next.ensures.steps c.next-2.ensures.steps c.next-3.ensures.steps c.next-4.ensures.steps (λ x b q k. search (rules, tests)) in
    let h = c.in-Some-Some-Some-None in
    let none : c.next-4.result ≡ None = h.is-3 in
    sym (rw (h.is-0, h.is-1, h.is-2, none) at row)

pub returns-in_default : goal.returns-in_default
returns-in_default c =
    let split = c.split-fields.ensures in
    let row = row_of-split _ _ _ _ _ _ _ _ _ c.args.line.now split.rest split.done split.closure c.next.ensures.steps c.next-2.ensures.steps c.next-3.ensures.steps c.next-4.ensures.steps (λ x b q k. search (rules, tests)) in
    elim c.in_default.branch [
      | in_default-via-in-Some+in-Some+in-Some+in_default w ↦
          let h = w.in_default in
          let some : c.next-4.result ≡ Some h.field-0-3 = h.is-3 in
          sym (rw (h.is-0, h.is-1, h.is-2, some) at row)
      | in_default-via-in-Some+in-Some+in_default w ↦ let h = w.in_default in sym (rw (h.is-0, h.is-1, h.is-2) at row)
      | in_default-via-in-Some+in_default w ↦ let h = w.in_default in sym (rw (h.is-0, h.is-1) at row)
      | in_default-via-in_default w ↦ let h = w.in_default in sym (rw h.is-0 at row)
    ]
