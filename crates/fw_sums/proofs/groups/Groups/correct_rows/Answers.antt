use Rattle.std.proofs.Common.{◌≡◌, ◌+◌, ◌++◌, arith, refl, take}
use Rattle.std.proofs.lemmas.List.{take_all}
use Rattle.std.proofs.lemmas.List.FromFn.{length-enumerate_from}
use Rattle.std.specs.List.{enumerate_from, flat_map}
use Rattle.std.specs.Prelude.{slice_index}
use Rattle.fw_amortise.proofs.Stepping.{flat_mapped_more, place_at}
use Rattle.fw_sums.specs.Corrections.{corrections}
use Rattle.fw_sums.proofs.CorrectionFacts.{corrections_by}
use Rattle.fw_sums.proofs.groups.Groups.correct_rows.Goals as goal

pub correct_row-requires : goal.correct_row-requires
correct_row-requires c = (_, c.loop-place.invariant c.requires.counts.0 c.requires.counts.1)

pub loop-place-preserved : goal.loop-place-preserved
loop-place-preserved c = λ costs counts.
    let rows = c.args.rows.now in
    let i = c.loop-place.place in
    let row = c.index-rows-place.result in
    let by = corrections_by c.args.key.now (slice_index c.args.left.now) in
    let more : (costs ++ flat_map by (take i (enumerate_from 0 rows))) ++ by (i, row) ≡ costs ++ flat_map by (take (i + 1) (enumerate_from 0 rows)) =
    flat_mapped_more by (enumerate_from 0 rows) i (i, row) costs _ _ (omega (arith, c.loop-place-test.true, length-enumerate_from 0 rows)) (place_at rows i row c.loop-place-test.true c.index-rows-place.is) refl refl in
    rw (← more) (c.in_ok-correct_row.ensures _ (c.loop-place.invariant costs counts))

pub returns : goal.returns
unfolding corrections
returns c = λ costs counts.
    let whole : take c.loop-place.place (enumerate_from 0 c.args.rows.now) ≡ enumerate_from 0 c.args.rows.now = take_all _ _ (omega (arith, c.loop-place-test.false, length-enumerate_from 0 c.args.rows.now)) in
    rw whole at (c.loop-place.invariant costs counts)
