use Rattle.std.proofs.Common.{◌≡◌, ◌∙◌, refl, Some, slice_get, map, ap, sym, subst, arith}
use Rattle.std.specs.Prelude.{option_map}
use Rattle.std.proofs.lemmas.Option.{get_or_from_slice_get, slice_get-map, slice_get_read, slice_get_within}
use Rattle.fw_segment.specs.Heads.{IsHead}
use Rattle.fw_segment.specs.HeadView.{head_view}
use Rattle.fw_segment.proofs.Replay.{no_row_counts, row_counts_next}
use Rattle.fw_segment.proofs.states.rows_said.Goals as goal
use Rattle.fw_segment.proofs.states.rows_said.Goals.{After-head-item}

pub loop-head-init : goal.loop-head-init
loop-head-init c = (sym no_row_counts, omega arith)

there : (c : After-head-item) → slice_get (map head_view c.args.heads.now) c.loop-head.head-index ≡ Some (head_view c.head-item.result)
there c =
    slice_get-map head_view c.args.heads.now c.loop-head.head-index
    ∙ ap (option_map head_view) (slice_get_read c.args.heads.now _ c.loop-head.head-index c.head-item.result refl c.loop-head-test.true c.head-item.is)

pub rows-requires : goal.rows-requires
rows-requires c =
    let at = (goal.at.rows-requires c).After-head-item in
    let heads = map head_view c.args.heads.now in
    let one = head_view c.head-item.result in
    subst IsHead (get_or_from_slice_get heads c.loop-head.head-index one one (there at)) (c.requires c.loop-head.head-index one (slice_get_within heads c.loop-head.head-index one (there at)))

pub loop-head-preserved : goal.loop-head-preserved
loop-head-preserved c =
    let at = (goal.at.loop-head-preserved c).After-head-item in
    let more = row_counts_next (map head_view c.args.heads.now) c.loop-head.head-index (head_view c.head-item.result) (there at) in
    (omega (arith, more, c.rows.ensures.count, c.loop-head.invariant.0), omega (arith, c.rows.ensures.few, c.loop-head.invariant.1))
