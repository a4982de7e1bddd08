use Rattle.std.proofs.Common.{◌∙◌, ◌++◌, ◌∷◌, [], ap, map}
use Rattle.std.specs.Prelude.{codes, string_bytes}
use Rattle.serde_json.specs.Written.{compact_text}
use Rattle.fw_selections.specs.JsonMembers.{listed, members_line}
use Rattle.fw_selections.specs.JsonText.{costs_members, columns_of, keyed_rows, row_object}
use Rattle.fw_selections.specs.Shown.{costs_of, is_chosen}
use Rattle.fw_selections.proofs.JsonWritten.{selection_written}
use Rattle.fw_selections.proofs.json.push_selection.Goals as goal

pub returns : goal.returns
returns c =
    let columns = columns_of c.args.sheet.now in
    let chosen = is_chosen c.args.chosen in
    let groups = c.args.selection.now in
    let old = string_bytes c.args.text.now in
    let rows = listed (map (λ row. compact_text (row_object columns row)) (keyed_rows columns.keys chosen groups)) in
    c.in_ok-push_str-3.ensures.bytes
    ∙ ap (λ t. t ++ 125 ∷ []) (c.in_ok-push_costs.ensures
    ∙ ap (λ x. string_bytes c.push_str-2.new.self ++ members_line (costs_members columns.tag x)) c.in_ok-all.ensures
    ∙ ap (λ t. t ++ members_line (costs_members columns.tag (costs_of groups))) (c.in_ok-push_str-2.ensures.bytes
    ∙ ap (λ t. t ++ codes "],\"total\":{") (c.in_ok-push_groups.ensures ∙ ap (λ t. t ++ rows) c.in_ok-push_str.ensures.bytes)))
    ∙ selection_written old columns chosen groups
