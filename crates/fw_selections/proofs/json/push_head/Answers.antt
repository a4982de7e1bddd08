use Rattle.std.proofs.Common.{◌∙◌, ◌++◌, ◌∷◌, [], ap, map}
use Rattle.std.specs.Prelude.{codes, string_bytes}
use Rattle.serde_json.specs.Data.{string}
use Rattle.serde_json.specs.Written.{compact_text}
use Rattle.fw_selections.specs.JsonMembers.{listed, members_line}
use Rattle.fw_selections.proofs.JsonWritten.{head_written}
use Rattle.fw_selections.proofs.json.push_head.Goals as goal

pub returns : goal.returns
returns c =
    let sheet = c.args.sheet.now in
    let old = string_bytes c.args.text.now in
    let names = listed (map (λ key. compact_text (string key.name.now)) sheet.keys.now) in
    let currency = c.as_str.result.now in
    let hours = c.in_ok-push_hours.ensures in
    record {
      hours = hours.members;
      are_hours = hours.are_hours;
      wrote = c.in_ok-push_str-5.ensures.bytes
          ∙ ap (λ t. t ++ 44 ∷ []) (hours.wrote
          ∙ ap (λ t. t ++ members_line hours.members) (c.in_ok-push_str-4.ensures.bytes
          ∙ ap (λ t. t ++ 44 ∷ []) (c.in_ok-push_str-3.ensures.bytes
          ∙ ap (λ t. t ++ currency) (c.in_ok-push_str-2.ensures.bytes
          ∙ ap (λ t. t ++ codes "],\"currency\":") (c.in_ok-push_names.ensures ∙ ap (λ t. t ++ names) c.in_ok-push_str.ensures.bytes)))))
          ∙ head_written old currency sheet.keys.now sheet.currency.now sheet.hours hours.members (c.as_str.ensures.value ∙ c.in_ok-currency.ensures) hours.are_hours;
    }
