use Rattle.std.proofs.Common.{◌∙◌, ◌+◌, ap}
use Rattle.std.specs.Prelude.{slice_index}
use Rattle.fw_coverage.specs.Coverage.{in_term}
use Rattle.fw_coverage.specs.Tallies.{after_hour, line_sums, with_sums}
use Rattle.fw_coverage.proofs.tally.Tally.after_hour.Goals as goal

pub returns : goal.returns
unfolding after_hour
returns c =
    let inside = c.self.inside in
    let hour = c.args.hour in
    let own = inside.commitment.now in
    (λ j. record {
      place = inside.place;
      commitment = own;
      capacity = (c.in_ok-total.ensures ∙ ap (λ n. inside.capacity + n) (c.in_term-capacity.ensures ∙ ap (in_term own hour) c.capacity_of.ensures)) j;
      unused = (c.in_ok-total-2.ensures ∙ ap (λ n. inside.unused + n) c.in_term-unused.ensures) j;
      sums = (c.in_ok-with.ensures ∙ ap (with_sums inside.sums) (c.in_ok-sums.ensures ∙ ap (λ id. line_sums id c.args.lines.now) c.id.ensures.value)) j;
    })
    ∙ ap (after_hour hour (slice_index c.args.unused.now) c.args.lines.now) c.self.view_is
