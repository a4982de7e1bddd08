use Rattle.std.proofs.Common.{◌∙◌, ◌++◌, ap}
use Rattle.std.specs.Prelude.{string_bytes}
use Rattle.std.proofs.lemmas.List.{take_more}
use Rattle.serde_json.specs.Data.{string}
use Rattle.serde_json.specs.Written.{compact_text}
use Rattle.fw_selections.proofs.JsonFacts.{listed_more}
use Rattle.fw_selections.proofs.json.push_names.Goals as goal

pub loop-place-preserved : goal.loop-place-preserved
loop-place-preserved c =
    let keys = c.args.keys.now in
    let i = c.loop-place.place in
    listed_more (λ key. compact_text (string key.name.now)) keys i _ (string_bytes c.args.text.now) (string_bytes c.loop-place.text) (string_bytes c.push_comma.new.text) (string_bytes c.push_str.new.self)
    (take_more keys i _ c.loop-place-test.true) c.loop-place.invariant c.in_ok-push_comma.ensures
    (c.in_ok-push_str.ensures.bytes ∙ ap (λ t. string_bytes c.push_comma.new.text ++ t) (c.as_str.ensures.value ∙ c.in_ok-name.ensures))
