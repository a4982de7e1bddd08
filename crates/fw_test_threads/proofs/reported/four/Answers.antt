use mathlib.Core.List.{[], ◌∷◌}
use denote.Builtin.{u8}
use denote.Exit.{no}
use denote.Param.{param}
use denote.Param.Send.{sendable, shr_send}
use denote.Ref.{ShrRef}
use Rattle.fw_test_threads.specs.contracts.seats.Posting as Posting
use Rattle.fw_threads.proofs.Captures.{closure_send}
use Rattle.fw_test_threads.proofs.Sent.{posting_sync}
use Rattle.fw_test_threads.proofs.reported.four.Goals as goal

pub join-requires-send-F : goal.join-requires-send-F
join-requires-send-F g c κs within = closure_send 1 _ no _ (ShrRef _ _ (param 1 g.row.R) ∷ ShrRef _ _ (Posting.the_row (param 0 g.row.J) g.J.Naming) ∷ u8 ∷ [])
    (shr_send _ _ _ c.type_bounds.sync-R, (shr_send _ _ _ (posting_sync (param 0 g.row.J) g.J.Naming), (search sendable, tt)))
