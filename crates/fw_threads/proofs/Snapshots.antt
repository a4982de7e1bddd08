-- A snapshot may go to another thread, and be shared with one.
use denote.RattleType.{RattleType}
use denote.Param.Send.{IsSend, IsSync, sendable}
use Rattle.std.proofs.Crossing.{crosses, Arc-send, Arc-sync}
use Rattle.fw_persistent.proofs.branches.Branch.TheLaws.TheKnot as branch-knot
use Rattle.fw_persistent.proofs.items.Row.TheLaws.TheKnot as row-knot
use Rattle.fw_persistent.proofs.items.Tree.TheLaws.TheKnot as tree-knot
use Rattle.fw_persistent.proofs.branches.Entry.TheSendSync as entry
use Rattle.fw_persistent.specs.contracts.branches.Branch as Branch
use Rattle.fw_persistent.specs.contracts.items.Row as Row
use Rattle.fw_persistent.specs.contracts.items.Tree as Tree
use Rattle.fw_persistent.specs.contracts.counters.Counters as Counters
use Rattle.fw_persistent.specs.contracts.map.Map as Map
use Rattle.fw_persistent.specs.contracts.sequence.Sequence as Sequence
use Rattle.fw_charge.proofs.currency.Currency.TheSendSync as currency
use Rattle.fw_columns.proofs.columns.Columns.TheSendSync as columns
use Rattle.fw_columns.specs.contracts.columns.Columns as Columns
use Rattle.fw_posted.proofs.left.Left.TheSendSync as left
use Rattle.fw_posted.specs.contracts.gone.Gone as Gone
use Rattle.fw_posted.specs.contracts.part.Part as Part
use Rattle.fw_posted.specs.contracts.posted.PostedRows as PostedRows
use Rattle.fw_terms.proofs.commitment.Commitment.TheSendSync as commitment
use Rattle.fw_terms.proofs.policy.Policy.TheSendSync as policy
use Rattle.fw_snapshot.proofs.head.Head.TheSendSync as head
use Rattle.fw_snapshot.specs.contracts.head.Head as Head
use Rattle.fw_snapshot.specs.contracts.posts.Span as Span
use Rattle.fw_snapshot.specs.contracts.state.State as State
use Rattle.fw_snapshot.specs.contracts.snapshot.Snapshot as Snapshot

module _ (V : RattleType) (s : IsSend V) (y : IsSync V) where
  branch_send : IsSend (Branch.the_field V).row
  branch_send = branch-knot.both_send-Branch V Arc-send Arc-sync (entry.the_field_send V s) (entry.the_field_sync V y) (search sendable) (search sendable)

  branch_sync : IsSync (Branch.the_field V).row
  branch_sync = branch-knot.both_sync-Branch V Arc-send Arc-sync (entry.the_field_send V s) (entry.the_field_sync V y) (search sendable) (search sendable)

  map_send : IsSend (Map.the_field V).row
  map_send = search (branch_send, sendable) depth 20

  map_sync : IsSync (Map.the_field V).row
  map_sync = search (branch_sync, sendable) depth 20

counters_send : IsSend Counters.the_row
counters_send = search (branch_send, sendable) depth 20

counters_sync : IsSync Counters.the_row
counters_sync = search (branch_sync, sendable) depth 20

module _ (T : RattleType) (s : IsSend T) (y : IsSync T) where
  tree_send : IsSend (Tree.the_field T).row
  tree_send = tree-knot.both_send-Tree T s y Arc-send Arc-sync

  tree_sync : IsSync (Tree.the_field T).row
  tree_sync = tree-knot.both_sync-Tree T s y Arc-send Arc-sync

  row_send : IsSend (Row.the_field T).row
  row_send = row-knot.both_send-Row T Arc-send Arc-sync (search sendable) (search sendable) (search (tree_send, tree_sync, Arc-send, sendable) depth 10) (search (tree_send, tree_sync, Arc-sync, sendable) depth 10)

  row_sync : IsSync (Row.the_field T).row
  row_sync = row-knot.both_sync-Row T Arc-send Arc-sync (search sendable) (search sendable) (search (tree_send, tree_sync, Arc-send, sendable) depth 10) (search (tree_send, tree_sync, Arc-sync, sendable) depth 10)

  sequence_send : IsSend (Sequence.the_row T)
  sequence_send = search (row_send, sendable) depth 20

  sequence_sync : IsSync (Sequence.the_row T)
  sequence_sync = search (row_sync, sendable) depth 20

heads_send : IsSend (Sequence.the_row Head.the_row)
heads_send = sequence_send Head.the_row head.the_send head.the_sync

heads_sync : IsSync (Sequence.the_row Head.the_row)
heads_sync = sequence_sync Head.the_row head.the_send head.the_sync

segments_send : IsSend (Sequence.the_row Columns.the_row)
segments_send = sequence_send Columns.the_row columns.the_send columns.the_sync

segments_sync : IsSync (Sequence.the_row Columns.the_row)
segments_sync = sequence_sync Columns.the_row columns.the_send columns.the_sync

gone_send : IsSend (Sequence.the_row Gone.the_row)
gone_send = sequence_send Gone.the_row (search sendable depth 20) (search sendable depth 20)

gone_sync : IsSync (Sequence.the_row Gone.the_row)
gone_sync = sequence_sync Gone.the_row (search sendable depth 20) (search sendable depth 20)

part_send : IsSend Part.the_row
part_send = search (gone_send, left.the_send, left.the_sync, Arc-send, crosses, sendable) depth 20

part_sync : IsSync Part.the_row
part_sync = search (gone_sync, left.the_send, left.the_sync, Arc-sync, crosses, sendable) depth 20

parts_send : IsSend (Sequence.the_row Part.the_row)
parts_send = sequence_send Part.the_row part_send part_sync

parts_sync : IsSync (Sequence.the_row Part.the_row)
parts_sync = sequence_sync Part.the_row part_send part_sync

posted_send : IsSend PostedRows.the_row
posted_send = search (segments_send, parts_send, sendable) depth 20

posted_sync : IsSync PostedRows.the_row
posted_sync = search (segments_sync, parts_sync, sendable) depth 20

spans_send : IsSend (Sequence.the_row Span.the_row)
spans_send = sequence_send Span.the_row (search sendable depth 20) (search sendable depth 20)

spans_sync : IsSync (Sequence.the_row Span.the_row)
spans_sync = sequence_sync Span.the_row (search sendable depth 20) (search sendable depth 20)

origins_send : IsSend (Map.the_field (Sequence.the_row Span.the_row)).row
origins_send = map_send (Sequence.the_row Span.the_row) spans_send spans_sync

origins_sync : IsSync (Map.the_field (Sequence.the_row Span.the_row)).row
origins_sync = map_sync (Sequence.the_row Span.the_row) spans_send spans_sync

state_send : IsSend State.the_row
state_send = search (counters_send, heads_send, posted_send, origins_send, currency.the_send, commitment.the_send, commitment.the_sync, policy.the_send, policy.the_sync, crosses, sendable) depth 20

state_sync : IsSync State.the_row
state_sync = search (counters_sync, heads_sync, posted_sync, origins_sync, currency.the_sync, commitment.the_send, commitment.the_sync, policy.the_send, policy.the_sync, crosses, sendable) depth 20

pub snapshot_send : IsSend Snapshot.the_row
snapshot_send = search (state_send, state_sync, Arc-send, sendable) depth 20

pub snapshot_sync : IsSync Snapshot.the_row
snapshot_sync = search (state_send, state_sync, Arc-sync, sendable) depth 20
