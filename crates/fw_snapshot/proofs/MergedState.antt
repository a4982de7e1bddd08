-- A state keeps what it keeps when its rows are cut into segments in another way.
use Rattle.std.proofs.Common.{◌≡◌, ◌∙◌, length, sym, ap, subst, All}
use Rattle.fw_entry.specs.Spelling.{IsEntry}
use Rattle.fw_posted.specs.Rows.{segment_rows}
use Rattle.fw_snapshot.specs.Heads.{entries_of}
use Rattle.fw_posted.specs.Posted.{PostedValue}
use Rattle.fw_snapshot.specs.History.{committed_of, commitments_of, policy_of}
use Rattle.fw_snapshot.specs.Posts.{counts_of, spans_from}
use Rattle.fw_snapshot.specs.Judging.{IsLegal}
use Rattle.fw_snapshot.specs.StateView.{KeepsState}
use Rattle.fw_snapshot.specs.Uses.{posts_with, withdrawn_with, commitments_with}
use Rattle.fw_snapshot.specs.declared.state.State.TheInside.{Inside}

pub keeps_other_segments : (s : Inside) (posted : PostedValue) → KeepsState s → segment_rows posted.segments ≡ segment_rows s.posted.segments → posted.counts ≡ s.posted.counts → KeepsState (record s { posted = posted })
keeps_other_segments s posted keeps same counts =
    let back : segment_rows s.posted.segments ≡ segment_rows posted.segments = sym same in
    record {
      legal = subst (λ rows. IsLegal (entries_of s.heads rows)) back keeps.legal;
      each = subst (λ rows. All IsEntry (entries_of s.heads rows)) back keeps.each;
      rows = ap length same ∙ keeps.rows;
      counts = counts ∙ keeps.counts ∙ ap (λ rows. counts_of (entries_of s.heads rows)) back;
      commitments = keeps.commitments ∙ ap (λ rows. commitments_of (entries_of s.heads rows)) back;
      policy = keeps.policy ∙ ap (λ rows. policy_of (entries_of s.heads rows)) back;
      origins = λ origin. keeps.origins origin ∙ ap (λ rows. spans_from 0 origin (entries_of s.heads rows)) back;
      registered = λ id. keeps.registered id ∙ ap (λ rows. commitments_with id (committed_of (entries_of s.heads rows))) back;
      carried = λ id. keeps.carried id ∙ ap (λ rows. posts_with id (entries_of s.heads rows)) back;
      withdrawn = λ id. keeps.withdrawn id ∙ ap (λ rows. withdrawn_with id (entries_of s.heads rows)) back;
    }
