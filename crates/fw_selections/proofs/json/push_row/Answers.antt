use Rattle.std.proofs.Common.{◌∙◌, ◌++◌, ◌∷◌, [], ap}
use Rattle.std.specs.Prelude.{codes, string_bytes}
use Rattle.fw_selections.specs.JsonMembers.{members_line}
use Rattle.fw_selections.specs.JsonText.{costs_members, key_members, columns_of}
use Rattle.fw_selections.specs.Shown.{row_value}
use Rattle.fw_selections.proofs.JsonWritten.{row_written}
use Rattle.fw_selections.proofs.json.push_row.Goals as goal

pub returns : goal.returns
returns c =
    let row = row_value c.args.row.now in
    let columns = columns_of c.args.sheet.now in
    let old = string_bytes c.args.text.now in
    let kind = c.kind_of.result.now in
    c.in_ok-push_str-5.ensures.bytes
    ∙ ap (λ t. t ++ 125 ∷ []) (c.in_ok-push_costs.ensures
    ∙ ap (λ t. t ++ members_line (costs_members columns.tag row.costs)) (c.in_ok-push_str-4.ensures.bytes
    ∙ ap (λ t. t ++ codes "\",") (c.in_ok-push_str-3.ensures.bytes
    ∙ ap (λ t. t ++ kind) (c.in_ok-push_str-2.ensures.bytes
    ∙ ap (λ t. t ++ codes "},\"kind\":\"") (c.in_ok-push_keys.ensures ∙ ap (λ t. t ++ members_line (key_members columns.keys row.texts)) c.in_ok-push_str.ensures.bytes)))))
    ∙ row_written old kind columns row c.kind_of.ensures
