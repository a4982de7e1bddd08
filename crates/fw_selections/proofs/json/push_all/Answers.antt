use Rattle.std.proofs.Common.{◌∙◌, ◌++◌, ap, append_assoc, subst, sym}
use Rattle.std.specs.Prelude.{string_bytes}
use Rattle.fw_selections.specs.JsonMembers.{later_members, members_line}
use Rattle.fw_selections.specs.JsonText.{ArePeriods, columns_of, selection_members}
use Rattle.fw_selections.specs.Shown.{is_chosen}
use Rattle.fw_selections.proofs.JsonWritten.{selections_later}
use Rattle.fw_selections.proofs.json.push_all.Goals as goal

pub returns : goal.returns
returns c =
    let sheet = c.args.sheet.now in
    let selections = c.args.selections.now in
    let chosen = is_chosen c.args.chosen in
    let old = string_bytes c.args.text.now in
    let members = selection_members (columns_of sheet) chosen selections.whole in
    let periods = c.in_ok-push_periods.ensures in
    record {
      periods = periods.members;
      are_periods = subst (λ parts. ArePeriods (columns_of sheet) chosen sheet.step parts periods.members) c.as_slice.ensures.value periods.are_periods;
      wrote = periods.wrote
          ∙ ap (λ t. t ++ later_members periods.members) c.in_ok-push_selection.ensures
          ∙ append_assoc old (members_line members) (later_members periods.members)
          ∙ ap (λ t. old ++ t) (sym (selections_later (columns_of sheet) chosen selections.whole periods.members));
    }
