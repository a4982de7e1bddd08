use Rattle.std.proofs.Common.{◌≡◌, ℕ, List, [], ◌++◌, take, ap, ◌∙◌}
use Rattle.fw_entry.specs.Entry.{EntryValue}
use Rattle.fw_group.specs.Items.{entries_of, importers_of}
use Rattle.fw_group.specs.HandView.{items_of}
use Rattle.fw_group.proofs.Items.{parted, none_joined}
use Rattle.fw_group.proofs.hand.Hand.fill.Goals as goal

pub returns-clause-filled : goal.returns-clause-filled
returns-clause-filled c =
    let first = take c.args.count c.args.items.now.items in
    let none = none_joined c.self.inside.importers.items c.self.inside.entries.items c.self.invariant (c.self.view_is ∙ c.requires.empty) in
    let importers : c.move_front.new.importers.items ≡ importers_of first =
    c.move_front.ensures.importers ∙ ap (λ (l : List ℕ). l ++ importers_of first) (c.in_ok-reserve.ensures.items ∙ none.0) in
    let entries : c.move_front.new.entries.items ≡ entries_of first =
    c.move_front.ensures.entries ∙ ap (λ (l : List EntryValue). l ++ entries_of first) (c.in_ok-reserve-2.ensures.items ∙ none.1) in
    ((λ j. items_of (importers j) (entries j)) ∙ parted first, c.move_front.ensures.rest)
