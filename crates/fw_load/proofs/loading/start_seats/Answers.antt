use mathlib.Core.List.{[], ◌∷◌}
use denote.Exit.{no}
use denote.Param.{param}
use Rattle.fw_load.specs.contracts.seat.Seat as Seat
use Rattle.fw_threads.proofs.Captures.{closure_send}
use Rattle.fw_load.proofs.Sent.{seat_send}
use Rattle.fw_load.proofs.loading.start_seats.Goals as goal

pub spawn-requires-send-F : goal.spawn-requires-send-F
spawn-requires-send-F g c κs within = closure_send 1 _ no _ (Seat.the_row _ (param 1 g.row.J) (param 2 g.row.R) g.J.Naming ∷ [])
    (seat_send _ (param 1 g.row.J) (param 2 g.row.R) g.J.Naming c.type_bounds.sync-R, tt)
