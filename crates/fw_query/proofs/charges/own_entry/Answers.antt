use Rattle.std.proofs.Common.{rules, ◌∙◌, ap, nat_cmp, sym, Some}
use Rattle.std.specs.Cmp.Lexicographic.{slice_cmp}
use Rattle.std.proofs.lemmas.Fn.{always_returns_same}
use Rattle.fw_allocate.proofs.Rising.{none_at, searchable, tied_texts}
use Rattle.fw_query.proofs.FindFacts.{entry_absent, entry_there, group_of_entry, rising_groups}
use Rattle.fw_query.proofs.charges.own_entry.Goals as goal

pub returns-in-Ok : goal.returns-in-Ok
returns-in-Ok c =
    let tied = c.in-Ok.ensures.position (λ entry. slice_cmp nat_cmp entry.group c.args.group.now) (always_returns_same _ _ _ (λ a r f k. search rules)) in
    let one = c.index-entries-place.result in
    ap Some c.index-entries-place.is
    ∙ sym (entry_there c.args.entries.now c.args.group.now c.in-Ok.place one (rising_groups c.args.entries.now c.requires) c.in-Ok.ensures.bound (tied_texts _ _ (tied one)))

pub returns-in-Err : goal.returns-in-Err
returns-in-Err c =
    let point = c.in-Err.ensures.position (λ entry. slice_cmp nat_cmp entry.group c.args.group.now) (always_returns_same _ _ _ (λ a r f k. search rules))
    (searchable group_of_entry c.args.entries.now c.args.group.now (rising_groups c.args.entries.now c.requires)) in
    entry_absent c.args.entries.now c.args.group.now (none_at group_of_entry c.args.entries.now c.args.group.now c.in-Err.field-0 point)
