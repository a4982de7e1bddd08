-- The history that a state stands for, and what its parts keep.
use Rattle.std.specs.Prelude.{◌≡◌, ℕ, List, length, All}
use Rattle.fw_entry.specs.Entry.{EntryValue}
use Rattle.fw_entry.specs.Spelling.{IsEntry}
use Rattle.fw_persistent.specs.Counts.{count_of}
use Rattle.fw_snapshot.specs.History.{History, committed_of, commitments_of, policy_of}
use Rattle.fw_snapshot.specs.Judging.{IsLegal}
use Rattle.fw_snapshot.specs.Uses.{posts_with, withdrawn_with, commitments_with}
use Rattle.fw_posted.specs.Rows.{segment_rows}
use Rattle.fw_snapshot.specs.Posts.{counts_of, spans_at, spans_from}
use Rattle.fw_snapshot.specs.Heads.{entries_of, row_counts}
use Rattle.fw_snapshot.specs.Held.{held_commitments, held_policy}
use Rattle.fw_snapshot.specs.declared.state.State.TheInside.{Inside}

-- the entries: their heads, and the rows of the posts among them
abbrev pub state_entries : Inside → List EntryValue
state_entries s = entries_of s.heads (segment_rows s.posted.segments)

abbrev pub state_view : Inside → History
state_view s = record { currency = s.currency; entries = state_entries s }

-- each entry is a whole one that was accepted, and each segment has a row. What is kept beside the entries is what they come to, so that an entry is
-- judged without reading one of them
pub record KeepsState (s : Inside) : Type 0 where
  pub legal : IsLegal (state_entries s)
  pub each : All IsEntry (state_entries s)
  pub rows : length (segment_rows s.posted.segments) ≡ row_counts s.heads
  pub counts : s.posted.counts ≡ counts_of (state_entries s)
  pub commitments : held_commitments s.commitments ≡ commitments_of (state_entries s)
  pub policy : held_policy s.policy ≡ policy_of (state_entries s)
  pub origins : (origin : List ℕ) → spans_at origin s.origins ≡ spans_from 0 origin (state_entries s)
  pub registered : (id : List ℕ) → count_of id s.registered ≡ commitments_with id (committed_of (state_entries s))
  pub carried : (id : List ℕ) → count_of id s.carried ≡ posts_with id (state_entries s)
  pub withdrawn : (id : List ℕ) → count_of id s.withdrawn ≡ withdrawn_with id (state_entries s)
