use Rattle.std.proofs.Common.{◌≡◌, ◌+◌, ◌-◌, ◌∙◌, ◌∷◌, [], length, length-append, ap, arith}
use Rattle.std.proofs.lemmas.Result.{err_from_is_err_and}
use Rattle.std.specs.Prelude.{map, string_bytes}
use Rattle.fw_bytes.specs.Reading.{times}
use Rattle.fw_bytes.proofs.Loop.{goes_on, ends, is_done}
use Rattle.fw_column_bytes.specs.Reading.{tag_places_at}
use Rattle.fw_column_bytes.proofs.SpelledFacts.{none_spelled}
use Rattle.fw_column_bytes.proofs.WholeFacts.{no_front}
use Rattle.fw_column_bytes.proofs.fields.row_lists_after.Goals as goal

pub loop-init : goal.loop-init
loop-init c =
    let names = map string_bytes c.args.names.now in
    let all : c.args.count - 0 ≡ c.args.count = omega arith in
    let none = no_front (times (tag_places_at names) c.args.count c.args.bytes.now) in
    rw (c.new-column.ensures, c.new-spelled.ensures) (record { read = rw all none; few = omega arith; known = none_spelled names })

pub returns-in_err-code : goal.returns-in_err-code
returns-in_err-code c =
    let p = err_from_is_err_and c.from_residual.result c.from_residual.ensures.1 in
    rw (p.1, p.2) (ends (tag_places_at (map string_bytes c.args.names.now)) c.in_err-code.field-0.0 c.loop.column c.args.count c.loop.counter c.loop.rest.now (times (tag_places_at (map string_bytes c.args.names.now)) c.args.count c.args.bytes.now) c.loop-test.true c.in_err-code.ensures.fault c.loop.invariant.read)

pub loop-preserved : goal.loop-preserved
loop-preserved c =
    let next = c.in_ok-code.ensures.read in
    let size : length c.row_list_into.new.column ≡ length c.loop.column + 1 = ap length next.more ∙ length-append c.loop.column (next.list ∷ []) in
    record {
      read = rw next.more (goes_on (tag_places_at (map string_bytes c.args.names.now)) c.loop.column c.args.count c.loop.counter c.loop.rest.now next.list c.in_ok-code.after.now (times (tag_places_at (map string_bytes c.args.names.now)) c.args.count c.args.bytes.now) c.loop-test.true next.read c.loop.invariant.read);
      few = omega (arith, size, c.loop.invariant.few);
      known = c.in_ok-code.ensures.spelled;
    }

pub returns : goal.returns
returns c = is_done (tag_places_at (map string_bytes c.args.names.now)) c.loop.column c.args.count c.loop.counter c.loop.rest.now (times (tag_places_at (map string_bytes c.args.names.now)) c.args.count c.args.bytes.now) c.loop-test.false c.loop.invariant.read
