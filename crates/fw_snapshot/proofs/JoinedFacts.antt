-- Of segments that are joined no two neighbours have room in one.
use Rattle.std.proofs.Common.{◌≡◌, ◌∙◌, ◌+◌, ◌<◌, ◌≤◌, ◌++◌, List, [], ◌∷◌, length, take, drop, nat_le, sym, ap, subst, arith, length-append}
use Rattle.std.proofs.lemmas.Bool.{leb-false}
use Rattle.fw_charge.specs.Charge.{Charge}
use Rattle.fw_posted.specs.Rows.{segment_rows}
use Rattle.fw_posted.specs.Merging.{joined_to, merged, merged_from}
use Rattle.fw_posted.specs.Posted.{PostedValue}
use Rattle.fw_posted.proofs.MergeFacts.{merged_from_split, rows_merged, two_ways}
use Rattle.fw_row_table.specs.Table.{most_column_rows}
use Rattle.fw_snapshot.specs.Joined.{AreFull}
use Rattle.fw_snapshot.specs.JoinedView.{KeepsJoined}
use Rattle.fw_snapshot.specs.StateView.{state_view, KeepsState}
use Rattle.fw_snapshot.specs.declared.state.State.TheInside.{Inside}
use Rattle.fw_snapshot.proofs.Following.{kept_few, kept_rows}
use Rattle.fw_snapshot.proofs.MergedState.{keeps_other_segments}

-- rows before segments of which they have no room with the first
full_before : (rows first : List Charge) (others segments : List (List Charge)) → segments ≡ first ∷ others → most_column_rows < length rows + length first → AreFull segments → AreFull (rows ∷ segments)
unfolding AreFull
full_before rows first others segments is over full =
    let all : AreFull (first ∷ others) = subst (λ (l : List (List Charge)). AreFull l) is full in
    let made : AreFull (rows ∷ first ∷ others) = (over, all) in
    subst (λ (l : List (List Charge)). AreFull (rows ∷ l)) (sym is) made

full_from : (rows : List Charge) (segments : List (List Charge)) → AreFull (merged_from rows segments)
unfolding merged_from AreFull
full_from rows [] = tt
full_from rows (s ∷ rest) = two_ways (nat_le (length rows + length s) most_column_rows)
    (λ fits. rw fits (full_from (rows ++ s) rest))
    (λ over.
    let more : List Charge = segment_rows (take (joined_to (length s) rest) rest) in
    let past : most_column_rows < length rows + length (s ++ more) = omega (arith, leb-false _ _ over, length-append s more) in
    rw over (full_before rows (s ++ more) (merged (drop (joined_to (length s) rest) rest)) (merged_from s rest) (merged_from_split s rest) past (full_from s rest)))

pub full_merged : (segments : List (List Charge)) → AreFull (merged segments)
unfolding merged AreFull
full_merged [] = tt
full_merged (s ∷ rest) = full_from s rest

-- ---- a state whose segments were joined

module _ (s : Inside) (posted : PostedValue) (keeps : KeepsState s) (is : posted ≡ record { segments = merged s.posted.segments; counts = s.posted.counts }) where
  pub same_rows : segment_rows posted.segments ≡ segment_rows s.posted.segments
  same_rows = ap (λ (p : PostedValue). segment_rows p.segments) is ∙ rows_merged s.posted.segments

  pub joined_state : KeepsState (record s { posted = posted })
  joined_state = keeps_other_segments s posted keeps same_rows (ap (λ (p : PostedValue). p.counts) is)

  pub joined_segments : (segments : List (List Charge)) → segments ≡ posted.segments → length posted.segments ≤ length (segment_rows posted.segments) → KeepsJoined (record { state = state_view (record s { posted = posted }); segments = segments })
  joined_segments segments same fewer =
      let few = kept_few (record s { posted = posted }) joined_state in
      let long = ap (λ (l : List (List Charge)). length l) same in
      record {
        rows = ap segment_rows same ∙ kept_rows (record s { posted = posted }) joined_state;
        few = omega (arith, long, few, fewer);
        full = subst (λ (l : List (List Charge)). AreFull l) (sym (same ∙ ap (λ (p : PostedValue). p.segments) is)) (full_merged s.posted.segments);
      }
