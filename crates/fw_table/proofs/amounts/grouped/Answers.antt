use Rattle.std.proofs.Common.{add-one, refl, string_bytes, ◌∙◌, ap}
use Rattle.fw_table.specs.Amounts.{grouped}
use Rattle.fw_table.proofs.AmountFacts.{grouped_on, grouped_end}
use Rattle.fw_table.proofs.amounts.grouped.Goals as goal

pub loop-place-init : goal.loop-place-init
loop-place-init c = rw c.new-text.ensures.bytes refl

pub loop-place-preserved : goal.loop-place-preserved
loop-place-preserved c =
    rw (add-one c.loop-place.place)
    (grouped_on (string_bytes c.loop-place.text) (string_bytes c.push_digit.new.text) c.as_bytes-bytes.result.now c.loop-place.place 0
    c.loop-place-test.true c.loop-place.invariant c.in_ok-push_digit.ensures)

pub returns : goal.returns
returns c =
    grouped_end (string_bytes c.loop-place.text) c.as_bytes-bytes.result.now c.loop-place.place c.loop-place-test.false c.loop-place.invariant
    ∙ ap grouped c.as_bytes-bytes.ensures.value
