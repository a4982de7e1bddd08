use Rattle.std.proofs.Common.{◌∙◌, ◌++◌, ◌∷◌, [], ap, refl}
use Rattle.std.specs.Prelude.{string_bytes}
use Rattle.fw_selections.specs.JsonMembers.{members_line}
use Rattle.fw_selections.specs.JsonText.{columns_of, object_of, selection_members}
use Rattle.fw_selections.specs.Shown.{is_chosen}
use Rattle.fw_selections.proofs.JsonWritten.{part_written}
use Rattle.fw_selections.proofs.json.push_part.Goals as goal

pub returns : goal.returns
returns c =
    let part = c.args.part.now in
    let old = string_bytes c.args.text.now in
    let hours = c.in_ok-push_hours.ensures in
    let columns = columns_of c.args.sheet.now in
    let chosen = is_chosen c.args.chosen in
    let members = selection_members columns chosen part.selection in
    record {
      object = object_of (hours.members ++ members);
      is_part = record { hours = hours.members; are_hours = hours.are_hours; object_is = refl };
      wrote = c.in_ok-push_str-3.ensures.bytes
          ∙ ap (λ t. t ++ 125 ∷ []) (c.in_ok-push_selection.ensures
          ∙ ap (λ t. t ++ members_line members) (c.in_ok-push_str-2.ensures.bytes
          ∙ ap (λ t. t ++ 44 ∷ []) (hours.wrote ∙ ap (λ t. t ++ members_line hours.members) c.in_ok-push_str.ensures.bytes)))
          ∙ part_written old part.period hours.members columns chosen part.selection hours.are_hours;
    }
