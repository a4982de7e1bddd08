use Rattle.std.proofs.Common.{◌≡◌, ◌∙◌, ◌≤◌, length, drop, sym, ap, arith, length-drop}
use Rattle.std.proofs.lemmas.List.{take_all}
use Rattle.fw_posted.specs.Rows.{segment_rows}
use Rattle.fw_snapshot.specs.Building.{Built, left_rows}
use Rattle.fw_snapshot.specs.BuilderView.{state_so_far}
use Rattle.fw_snapshot.specs.Heads.{entries_of}
use Rattle.fw_snapshot.specs.History.{History}
use Rattle.fw_snapshot.specs.Posts.{counts_of}
use Rattle.fw_snapshot.proofs.BuilderFacts.{taken_rows}
use Rattle.fw_snapshot.proofs.MergedState.{keeps_other_segments}
use Rattle.fw_snapshot.proofs.state.building.StateBuilder.with_posted.Goals as goal
use Rattle.fw_snapshot.proofs.state.building.StateBuilder.with_posted.Goals.{After-self}

-- all rows are taken
all : (c : After-self) → length (segment_rows c.self.inside.posted.segments) ≤ c.self.inside.rows
all c =
    let none : length (drop c.self.inside.rows (segment_rows c.self.inside.posted.segments)) ≡ 0 = ap (λ (b : Built). length (left_rows b)) c.self.view_is ∙ c.requires.taken in
    let left = length-drop c.self.inside.rows (segment_rows c.self.inside.posted.segments) in
    omega (arith, none, left)

same : (c : After-self) → segment_rows c.args.posted.segments ≡ segment_rows (state_so_far c.self.inside).posted.segments
same c =
    ap (λ segments. segment_rows segments) (c.requires.rows ∙ ap (λ (b : Built). b.segments) (sym c.self.view_is))
    ∙ sym (take_all c.self.inside.rows (segment_rows c.self.inside.posted.segments) (all c))
    ∙ sym (taken_rows c.self.inside)

counts : (c : After-self) → c.args.posted.counts ≡ (state_so_far c.self.inside).posted.counts
counts c = c.requires.counts ∙ ap (λ (b : Built). counts_of b.history.entries) (sym c.self.view_is) ∙ sym c.self.invariant.state.counts

pub invariant_of-result : goal.invariant_of-result
invariant_of-result c =
    let at = (goal.at.invariant_of-result c).After-self in
    keeps_other_segments (state_so_far c.self.inside) c.args.posted c.self.invariant.state (same at) (counts at)

pub returns : goal.returns
returns c =
    let at = (goal.at.returns c).After-self in
    let b = c.self.inside in
    ap (λ rows. let h : History = record { currency = b.currency; entries = entries_of b.parts.heads rows } in h) (same at)
    ∙ ap (λ (v : Built). v.history) c.self.view_is
