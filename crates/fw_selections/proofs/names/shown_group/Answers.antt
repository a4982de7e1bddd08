use Rattle.std.proofs.Common.{◌∙◌, [], ap, arith, map}
use Rattle.std.specs.Prelude.{string_bytes}
use Rattle.std.specs.List.{zip}
use Rattle.std.proofs.lemmas.List.{length-map, take_all}
use Rattle.std.proofs.lemmas.Slice.Zip.{length-zip}
use Rattle.fw_selections.proofs.NameFacts.{part_more}
use Rattle.fw_selections.proofs.names.shown_group.Goals as goal

pub loop-place-init : goal.loop-place-init
loop-place-init c = ([], tt, c.new-name.ensures.bytes)

pub loop-place-preserved : goal.loop-place-preserved
loop-place-preserved c =
    let (parts, each, was) = c.loop-place.invariant in
    let text = c.index-texts-place.result in
    let below = c.loop-place-test.true in
    let inside = c.min-place-end.ensures in
    part_more c.args.keys.now c.args.texts.now c.loop-place.place _ text (string_bytes c.loop-place.name) (string_bytes c.push_between.new.name) (string_bytes c.push_part.new.name) c.as_str.result.now
    (omega (arith, below, inside)) (omega (arith, below, inside)) parts each was c.in_ok-push_between.ensures c.in_ok-push_part.ensures (c.as_str.ensures.value ∙ ap string_bytes c.index-texts-place.is)

pub returns : goal.returns
returns c =
    let (parts, each, was) = c.loop-place.invariant in
    let pairs = zip c.args.keys.now (map string_bytes c.args.texts.now) in
    let ended = c.loop-place-test.false in
    let all = take_all c.loop-place.place pairs (omega (arith, ended, c.min-place-end.ensures, length-zip c.args.keys.now (map string_bytes c.args.texts.now), length-map c.args.texts.now string_bytes)) in
    record { parts = parts; each = rw all at each; name_is = was }
