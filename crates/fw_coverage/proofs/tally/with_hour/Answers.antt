use Rattle.std.proofs.Common.{◌≡◌, ◌∙◌, Bor, ap, map}
use Rattle.std.specs.Prelude.{slice_index}
use Rattle.std.proofs.lemmas.Result.{IfOk-weaker}
use Rattle.fw_charge.specs.Charge.{Charge}
use Rattle.fw_cover.specs.Hour.{hour_cover}
use Rattle.fw_coverage.specs.Tallies.{AreAfter, after_hour}
use Rattle.fw_coverage.proofs.TallyFacts.{unused_is}
use Rattle.fw_coverage.proofs.tally.with_hour.Goals as goal

pub returns : goal.returns
returns c =
    let cs = c.args.roster.now.commitments in
    let rows = c.args.rows.now in
    let hour = c.args.hour in
    let read : map (λ (r : Bor Charge). r.now) c.as_slice.result.now ≡ rows = ap (map (λ (r : Bor Charge). r.now)) c.as_slice.ensures.value ∙ c.in_ok-rows.ensures in
    let read_again : map (λ (r : Bor Charge). r.now) c.as_slice-2.result.now ≡ rows = ap (map (λ (r : Bor Charge). r.now)) c.as_slice-2.ensures.value ∙ c.in_ok-rows.ensures in
    let taken : c.in_ok-cover.cover.taken.items ≡ hour_cover cs rows hour = c.in_ok-cover.ensures.taken ∙ ap (λ l. hour_cover cs l hour) read in
    let left = unused_is cs rows hour c.in_ok-cover.cover.taken.items c.in_ok-cover.cover.unused.items taken c.in_ok-cover.ensures.unused in
    IfOk-weaker c.with_lines.result
    (λ after. after.items ≡ map (after_hour hour (slice_index c.as_slice-3.result.now) c.as_slice-4.result.now) c.args.tallies.now)
    (λ after. AreAfter cs rows hour c.args.tallies.now after.items)
    (λ after is. record {
      lines = c.in_ok-lines.lines.items;
      are_lines = rw read_again at c.in_ok-lines.ensures;
      new_are =
          is
          ∙ (λ j. map (after_hour hour (slice_index (c.as_slice-3.ensures.value j)) (c.as_slice-4.ensures.value j)) c.args.tallies.now)
          ∙ (λ j. map (after_hour hour (λ p. left p j) c.in_ok-lines.lines.items) c.args.tallies.now);
    })
    c.with_lines.ensures
