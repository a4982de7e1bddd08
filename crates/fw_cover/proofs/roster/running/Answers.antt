use Rattle.std.proofs.Common.{ℕ, ap, filter, map, rules, sym, ◌∙◌}
use Rattle.std.proofs.lemmas.Fn.{filter_same}
use Rattle.fw_terms.specs.Commitment.{CommitmentValue}
use Rattle.fw_cover.specs.PlacedView.{placed_of}
use Rattle.fw_cover.specs.RosterView.{roster_order, runs_between}
use Rattle.fw_cover.proofs.Index.{filter_map_of}
use Rattle.fw_cover.proofs.roster.running.Goals as goal

pub returns : goal.returns
unfolding roster_order
returns c =
    let runs = λ (d : ℕ × CommitmentValue). runs_between c.args.from c.args.to d.1 in
    ap (map placed_of) (filter_same _ _ _ (λ x b f' k. search rules) _ _ c.retain.ensures.filtered)
    ∙ (sym (filter_map_of placed_of runs c.in_ok-placed.placed.items) ∙ ap (filter runs) c.in_ok-placed.ensures)
