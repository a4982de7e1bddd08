use Rattle.std.proofs.Common.{◌∙◌, ◌++◌, ap, arith}
use Rattle.std.specs.Prelude.{string_bytes}
use Rattle.std.proofs.lemmas.List.{take_all}
use Rattle.fw_selections.specs.JsonMembers.{members_line}
use Rattle.fw_selections.specs.JsonText.{key_members}
use Rattle.fw_selections.specs.Shown.{row_value}
use Rattle.fw_selections.proofs.JsonFacts.{key_written, keys_long, names_of}
use Rattle.fw_selections.proofs.json.push_keys.Goals as goal

pub loop-place-preserved : goal.loop-place-preserved
loop-place-preserved c =
    let keys = c.args.keys.now in
    let texts = (row_value c.args.row.now).texts in
    let i = c.loop-place.place in
    key_written keys texts i _ (string_bytes c.args.text.now) (string_bytes c.loop-place.text) (string_bytes c.push_comma.new.text) (string_bytes c.push_member.new.text) c.text_at.result.now
    c.loop-place-test.true c.loop-place.invariant c.in_ok-push_comma.ensures c.in_ok-push_member.ensures c.text_at.ensures

pub returns : goal.returns
returns c =
    let keys = c.args.keys.now in
    let texts = (row_value c.args.row.now).texts in
    let all = key_members (names_of keys) texts in
    c.loop-place.invariant ∙ ap (λ ms. string_bytes c.args.text.now ++ members_line ms) (take_all c.loop-place.place all (omega (arith, keys_long keys texts)))
