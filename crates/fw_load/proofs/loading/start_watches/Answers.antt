use mathlib.Core.List.{[], ◌∷◌}
use denote.Exit.{no}
use denote.Param.{param}
use denote.Param.Send.{shr_send, shr_slice_send}
use denote.Ref.{ShrRef}
use denote.Slice.{ShrSlice}
use Rattle.fw_threads.specs.contracts.analyst.Analyst as Analyst
use Rattle.fw_group.specs.contracts.answer.Answer as Answer
use Rattle.fw_threads.specs.contracts.published.Published as Published
use Rattle.fw_load.specs.contracts.board.Place as Place
use Rattle.fw_threads.proofs.Captures.{closure_send}
use Rattle.fw_threads.proofs.Sent.{analyst_send}
use Rattle.fw_load.proofs.Sent.{place_sync}
use Rattle.fw_load.proofs.loading.start_watches.Goals as goal

pub spawn-requires-send-F : goal.spawn-requires-send-F
spawn-requires-send-F g c κs within = closure_send 1 _ no _ (ShrRef _ _ (param 2 g.row.R) ∷ Analyst.the_row (param 1 g.row.J) g.J.Naming ∷ ShrSlice _ _ (Place.the_row (Answer.the_row (Published.the_row (param 1 g.row.J) g.J.Naming))) ∷ [])
    (shr_send _ _ _ c.type_bounds.sync-R, (analyst_send (param 1 g.row.J) g.J.Naming, (shr_slice_send _ _ _ (place_sync (param 1 g.row.J) g.J.Naming), tt)))
