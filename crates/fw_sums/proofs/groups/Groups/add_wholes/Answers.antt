use Rattle.std.proofs.Common.{◌≡◌, ◌∙◌, ◌++◌, ap, refl, sym, take}
use Rattle.std.proofs.lemmas.Bool.{and_parts, leb-true}
use Rattle.fw_sums.specs.Hours.{all_rows, lent}
use Rattle.fw_sums.proofs.WholeFacts.{divided_none, divided_other, divided_whole, divided_without, lent_more, next_first, next_rows, whole_here, whole_range}
use Rattle.fw_sums.proofs.groups.Groups.add_wholes.Goals as goal
use Rattle.fw_sums.proofs.groups.Groups.add_wholes.Goals.{in-Some-of_rows+in_ok-add_groups-in-Some-of_rows, in_default-of_rows, in_default-2+in_ok-push-in_default-2}

pub loop-segment-init : goal.loop-segment-init
loop-segment-init c = record { divided = λ key are. rw c.new-others.ensures.items (divided_none key c.args.from c.args.to c.args.self.now c.requires.none); at = refl }

pub add_groups-requires-clause-counts : goal.add_groups-requires-clause-counts
add_groups-requires-clause-counts c = let so_far = c.loop-segment.invariant.divided c.requires.wholes.0 c.requires.wholes.1 in (so_far.costs, so_far.counts)

pub add_groups-requires-clause-others : goal.add_groups-requires-clause-others
add_groups-requires-clause-others c =
    let own = whole_here c.args.segments.now c.loop-segment.segment-index c.segment-item.result c.loop-segment-test.true c.segment-item.is c.loop-segment.first c.len-len.result c.loop-segment.invariant.at c.len-len.ensures.count
    c.requires.wholes.0 c.args.wholes.now c.in-Some-of_rows.whole.now c.requires.wholes.1 c.in-Some-of_rows.ensures.0 c.in-Some-of_rows.ensures.1 in
    (_, own.counts)

pub loop-segment-preserved : goal.loop-segment-preserved
loop-segment-preserved c =
    let segments = c.args.segments.now in
    let wholes = c.args.wholes.now in
    let from = c.args.from in
    let to = c.args.to in
    let i = c.loop-segment.segment-index in
    let s = c.segment-item.result in
    let below = c.loop-segment-test.true in
    let is = c.segment-item.is in
    let first = c.loop-segment.first in
    let len = c.len-len.result in
    let at = c.loop-segment.invariant.at in
    let long = c.len-len.ensures.count in
    let before = all_rows (take i (lent segments)) in
    let others = all_rows (lent c.loop-segment.others.items) in
    let next = next_rows segments i s below is in
    let behind = next_first segments i s below is first len at long c.in-Some.behind c.in-Some.ensures.1 in
    elim c.match-of_rows.branch [
      | in-Some-of_rows+in_ok-add_groups-in-Some-of_rows w ↦ rw (w.self-is, w.others-is, w.first-is) (record {
        divided = λ key are.
            let whole = w.in-Some-of_rows.whole.now in
            let own = whole_here segments i s below is first len at long key wholes whole are w.in-Some-of_rows.ensures.0 w.in-Some-of_rows.ensures.1 in
            let within = and_parts _ _ (sym w.is_within.ensures ∙ w.if-is_within.true) in
            let all = whole_range key from to whole.from whole.to s.now (leb-true _ _ within.0) (leb-true _ _ within.1) own.between in
            rw next (divided_whole key from to before s.now others c.loop-segment.self (c.loop-segment.invariant.divided key are) w.add_groups.new.self whole.sums all own.counts w.in_ok-add_groups-in-Some-of_rows.ensures);
        at = behind;
      })
      | in_default-of_rows w ↦ rw (w.self-is, w.others-is, w.first-is) (record {
        divided = λ key are. rw next (divided_without key from to before s.now others c.loop-segment.self (c.loop-segment.invariant.divided key are) ((rw w.if-is_outside.true at w.is_outside.ensures) key));
        at = behind;
      })
      | in_default-2+in_ok-push-in_default-2 w ↦ rw (w.self-is, w.others-is, w.first-is) (record {
        divided = λ key are.
            let more : all_rows (lent w.push.new.self.items) ≡ others ++ s.now = ap (λ l. all_rows (lent l)) w.in_ok-push-in_default-2.ensures.items ∙ lent_more c.loop-segment.others.items s in
            rw (next, more) (divided_other key from to before s.now others c.loop-segment.self (c.loop-segment.invariant.divided key are));
        at = behind;
      })
    ]
