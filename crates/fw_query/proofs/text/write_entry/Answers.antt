use Rattle.std.proofs.Common.{◌≡◌, ◌∙◌, ap, rules}
use Rattle.std.proofs.lemmas.Int.{to_z-of_z}
use mir.Val.{SFits}
use mir.Syntax.{w128}
use Rattle.fw_money.specs.Writing.{text_of}
use Rattle.fw_query.specs.Texts.{fields_of}
use Rattle.fw_query.proofs.text.write_entry.Goals as goal

pub returns : goal.returns
unfolding fields_of
returns c =
    let billed_fits : SFits w128 c.billed.result = search rules in
    let direct_fits : SFits w128 c.direct.result = search rules in
    let charged_fits : SFits w128 c.charged.result = search rules in
    let group : c.as_bytes.result.now ≡ c.args.entry.now.group = c.as_bytes.ensures.value ∙ c.group.ensures in
    let billed : c.as_bytes-2.result.now ≡ text_of c.args.entry.now.billed
    = c.as_bytes-2.ensures.value ∙ c.in_ok-billed.ensures ∙ ap text_of (to_z-of_z w128 _ billed_fits ∙ c.billed.ensures) in
    let direct : c.as_bytes-3.result.now ≡ text_of c.args.entry.now.direct
    = c.as_bytes-3.ensures.value ∙ c.in_ok-direct.ensures ∙ ap text_of (to_z-of_z w128 _ direct_fits ∙ c.direct.ensures) in
    let charged : c.as_bytes-4.result.now ≡ text_of c.args.entry.now.charged
    = c.as_bytes-4.ensures.value ∙ c.in_ok-charged.ensures ∙ ap text_of (to_z-of_z w128 _ charged_fits ∙ c.charged.ensures) in
    rw (group, billed, direct, charged) at c.write_record.ensures
