use Rattle.std.proofs.Common.{◌∙◌, ◌++◌, ◌∷◌, [], ap}
use Rattle.std.specs.Prelude.{codes}
use Rattle.fw_selections.specs.JsonMembers.{members_line}
use Rattle.fw_selections.specs.JsonText.{asked_members, columns_of, selection_members}
use Rattle.fw_selections.proofs.JsonWritten.{text_written}
use Rattle.fw_selections.proofs.json.json_text.Goals as goal

pub returns : goal.returns
returns c =
    let sheet = c.args.sheet.now in
    let selections = c.args.selections.now in
    let head = c.in_ok-push_head.ensures in
    let shown = c.in_ok-push_selections.ensures in
    let all = members_line (selection_members (columns_of sheet) shown.chosen selections.whole ++ shown.all.periods) in
    record {
      chosen = shown.chosen;
      are_chosen = shown.are_chosen;
      hours = head.hours;
      are_hours = head.are_hours;
      periods = shown.all.periods;
      are_periods = shown.all.are_periods;
      text_is = c.in_ok-push_str.ensures.bytes
          ∙ ap (λ t. t ++ codes "}\n") (shown.all.wrote ∙ ap (λ t. t ++ all) (head.wrote ∙ ap (λ t. t ++ 123 ∷ (members_line (asked_members sheet ++ head.hours) ++ 44 ∷ [])) c.new-text.ensures.bytes))
          ∙ text_written sheet shown.chosen selections.whole head.hours shown.all.periods;
    }
