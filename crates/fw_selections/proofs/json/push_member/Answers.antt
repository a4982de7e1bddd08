use Rattle.std.proofs.Common.{◌∙◌, ◌++◌, ◌∷◌, [], ap}
use Rattle.std.specs.Prelude.{string_bytes}
use Rattle.fw_selections.proofs.JsonWritten.{member_written}
use Rattle.fw_selections.proofs.json.push_member.Goals as goal

pub returns : goal.returns
returns c =
    let old = string_bytes c.args.text.now in
    let name = c.as_str.result.now in
    let value = c.as_str-2.result.now in
    c.in_ok-push_str-3.ensures.bytes
    ∙ ap (λ t. t ++ value) (c.in_ok-push_str-2.ensures.bytes ∙ ap (λ t. t ++ 58 ∷ []) c.in_ok-push_str.ensures.bytes)
    ∙ member_written old name value c.args.name.now c.args.value.now (c.as_str.ensures.value ∙ c.in_ok-name.ensures) (c.as_str-2.ensures.value ∙ c.in_ok-value.ensures)
