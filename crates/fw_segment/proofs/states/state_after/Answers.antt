use Rattle.std.proofs.Common.{◌≡◌, ◌-◌, ◌∷◌, ◌∙◌, ℕ, List, [], Ok, length, length-drop, drop, map, All, sym, ap, subst, arith}
use Rattle.std.specs.Vec.Iter.{into_iter_items}
use Rattle.std.proofs.lemmas.List.{nil_from_length}
use Rattle.std.proofs.lemmas.List.Elements.{All-head, All-tail}
use Rattle.fw_snapshot.specs.Building.{Built, left_rows, with_next}
use Rattle.fw_snapshot.specs.Heads.{HeadValue, row_count, row_counts}
use Rattle.fw_snapshot.specs.History.{History}
use Rattle.fw_snapshot.proofs.HeadFacts.{row_counts_cons}
use Rattle.fw_segment.specs.Heads.{head, IsHead}
use Rattle.fw_segment.specs.HeadView.{head_view}
use Rattle.fw_segment.specs.States.{continued}
use Rattle.fw_segment.specs.declared.heads.ReadHead.{ReadHead}
use Rattle.fw_segment.proofs.Replay.{continued_end, continued_off, continued_on, left_next, no_row_counts}
use Rattle.fw_segment.proofs.states.state_after.Goals as goal
use Rattle.fw_segment.proofs.states.state_after.Goals.{After-encoded_len-len}

pub encoded_len-len-requires : goal.encoded_len-len-requires
encoded_len-len-requires c = All-head IsHead _ _ (subst (All IsHead) (ap (map head_view) c.in-Some.ensures.steps.0) c.loop-head.invariant.2)

pub add-requires-clause-head : goal.add-requires-clause-head
add-requires-clause-head c = All-head IsHead _ _ (subst (All IsHead) (ap (map head_view) c.in-Some.ensures.steps.0) c.loop-head.invariant.2)

-- the heads that are left are this one and the others
abbrev others : (c : After-encoded_len-len) → List HeadValue
others c = map head_view (into_iter_items c.next.new.self)

left_are : (c : After-encoded_len-len) → map head_view (into_iter_items c.loop-head.head-iterator) ≡ head_view c.in-Some.head ∷ others c
left_are c = ap (map head_view) c.in-Some.ensures.steps.0

so_far : (c : After-encoded_len-len) → continued c.args.left c.args.builder.history (map head_view c.args.heads.items) (left_rows c.args.builder) ≡ continued c.loop-head.left c.loop-head.builder.history (head_view c.in-Some.head ∷ others c) (left_rows c.loop-head.builder)
so_far c = c.loop-head.invariant.0 ∙ ap (λ hs. continued c.loop-head.left c.loop-head.builder.history hs (left_rows c.loop-head.builder)) (left_are c)

pub add-requires-clause-enough : goal.add-requires-clause-enough
add-requires-clause-enough c =
    let at = (goal.at.add-requires-clause-enough c).After-encoded_len-len in
    let counts = ap row_counts (left_are at) in
    let more = row_counts_cons (head_view c.in-Some.head) (others at) in
    let all = c.loop-head.invariant.1 in
    omega (arith, counts, more, all)

pub returns-then-not-branch : goal.returns-then-not-branch
returns-then-not-branch c =
    let at = (goal.at.returns-then-not-branch c).After-encoded_len-len in
    let never = sym c.in_ok-add.ensures.answer ∙ c.if-not-branch.true in
    so_far at ∙ continued_off c.loop-head.left c.loop-head.builder.history (head_view c.in-Some.head) (others at) (left_rows c.loop-head.builder) never

pub loop-head-preserved : goal.loop-head-preserved
loop-head-preserved c =
    let at = (goal.at.loop-head-preserved c).After-encoded_len-len in
    let g = head_view c.in-Some.head in
    let b = c.loop-head.builder in
    let hs = others at in
    let goes = sym c.in_ok-add.ensures.answer ∙ c.if-not-branch.false in
    let new : c.add.new.builder ≡ with_next b g = c.in_ok-add.ensures.added c.if-not-branch.false in
    let shorter : c.saturating_sub-left.result ≡ c.loop-head.left - length (head g) = c.saturating_sub-left.ensures ∙ ap (λ (n : ℕ). c.loop-head.left - n) c.encoded_len-len.ensures in
    let behind = left_next b g in
    let was = c.loop-head.invariant.3 in
    let one = ap (λ (xs : List ReadHead). length xs) c.in-Some.ensures.steps.0 in
    let gone = c.in-Some.ensures.steps.1 in
    let counts = ap row_counts (left_are at) in
    let more = row_counts_cons g hs in
    let all = c.loop-head.invariant.1 in
    let rest = ap length behind in
    let dropped = length-drop (row_count g.content) (left_rows b) in
    let now = ap (λ (v : Built). length (left_rows v)) new in (
      so_far at
          ∙ continued_on c.loop-head.left b.history g hs (left_rows b) goes
          ∙ ap (λ n. continued n (with_next b g).history hs (drop (row_count g.content) (left_rows b))) (sym shorter)
          ∙ ap (λ rows. continued c.saturating_sub-left.result (with_next b g).history hs rows) (sym behind)
          ∙ ap (λ (v : Built). continued c.saturating_sub-left.result v.history hs (left_rows v)) (sym new),
      omega (arith, now, rest, dropped, counts, more, all),
      All-tail IsHead g hs (subst (All IsHead) (left_are at) c.loop-head.invariant.2),
      omega arith,
    )

pub finish-requires : goal.finish-requires
finish-requires c =
    let none : into_iter_items c.loop-head.head-iterator ≡ [] = nil_from_length _ (sym c.loop-head.invariant.3 ∙ c.in-None.ensures.steps.0) in
    c.loop-head.invariant.1 ∙ ap (λ (items : List ReadHead). row_counts (map head_view items)) none ∙ no_row_counts

pub returns : goal.returns
returns c =
    let none : into_iter_items c.loop-head.head-iterator ≡ [] = nil_from_length _ (sym c.loop-head.invariant.3 ∙ c.in-None.ensures.steps.0) in
    c.loop-head.invariant.0
    ∙ ap (λ (items : List ReadHead). continued c.loop-head.left c.loop-head.builder.history (map head_view items) (left_rows c.loop-head.builder)) none
    ∙ continued_end c.loop-head.left c.loop-head.builder.history (left_rows c.loop-head.builder)
    ∙ ap (λ (h : History). Ok h) (sym c.in_ok-finish.ensures)
