use Rattle.std.proofs.Common.{◌∙◌, ◌∷◌, [], ◌++◌, ap, arith, append-nil, sym, take}
use Rattle.std.specs.Prelude.{string_bytes}
use Rattle.std.proofs.lemmas.List.{take_all, take_more}
use Rattle.fw_selections.specs.JsonText.{columns_of}
use Rattle.fw_selections.specs.Shown.{is_chosen}
use Rattle.fw_selections.proofs.JsonWritten.{parts_more}
use Rattle.fw_selections.proofs.json.push_parts.Goals as goal

pub loop-place-init : goal.loop-place-init
loop-place-init c = record { objects = []; each = tt; wrote = sym (append-nil (string_bytes c.args.text.now)) }

pub loop-place-preserved : goal.loop-place-preserved
loop-place-preserved c =
    let parts = c.args.parts.now in
    let i = c.loop-place.place in
    let part = c.index-parts-place.result in
    parts_more (string_bytes c.args.text.now) (string_bytes c.loop-place.text) (string_bytes c.push_comma.new.text) (string_bytes c.push_part.new.text) (columns_of c.args.sheet.now) (is_chosen c.args.chosen) parts i part
    (take_more parts i part c.loop-place-test.true ∙ ap (λ p. take i parts ++ p ∷ []) (sym c.index-parts-place.is)) c.loop-place.invariant c.in_ok-push_comma.ensures c.in_ok-push_part.ensures

pub returns : goal.returns
returns c = rw (take_all c.loop-place.place c.args.parts.now (omega (arith, c.loop-place-test.false))) at c.loop-place.invariant
