use Rattle.std.proofs.Common.{◌≡◌, ◌∙◌, ◌+◌, ap, sym, arith}
use Rattle.std.specs.Prelude.{slice_get}
use Rattle.fw_posted.specs.Rows.{segment_rows}
use Rattle.fw_stored_rows.proofs.RowFacts.{same_at}
use Rattle.fw_stored_rows.proofs.stored.lent_row.Goals as goal

pub returns : goal.returns
returns c =
    let all = segment_rows c.args.segments.now in
    let rows = c.row_in-row.result.0.now in
    let row = c.row_in-row.result.1 in
    let run = c.row_in-row.ensures.rows 1 (omega (arith, c.row_in-row.ensures.within)) in
    let same : slice_get rows (row + 0) ≡ slice_get all (c.args.place + 0) = same_at rows all row c.args.place 0 1 (omega arith) run in
    let here : row + 0 ≡ row = omega arith in
    let there : c.args.place + 0 ≡ c.args.place = omega arith in
    sym (ap (slice_get all) there) ∙ sym same ∙ ap (slice_get rows) here ∙ c.lent.ensures
