-- What the tests share among threads may go to other threads.
use mathlib.Core.List.{List, ◌∷◌}
use mir.Syntax.{Sym, Ty}
use denote.Exit.{no}
use denote.RattleType.{RattleType}
use denote.Param.{param, arg}
use denote.Param.Send.{IsSend, IsSync, AllSend, sendable, struct_send, struct_sync, recorded_send, recorded_sync, shr_send}
use denote.Ref.{NamedLft}
use denote.Struct.Declared.{shape}
use denote.Struct.Tuple.{TupleAt, type_at}
use Rattle.std.proofs.Crossing.{crosses, Vec-send}
use Rattle.core.proofs.sync.Sent.{Mutex-sync}
use Rattle.fw_disk.specs.declared.volume.Volume as Volume
use Rattle.fw_threads.specs.contracts.importer.Importer as Importer
use Rattle.fw_threads.specs.declared.naming.Naming as Naming
use Rattle.fw_threads.proofs.Captures.{closure_send}
use Rattle.fw_threads.proofs.Sent.{analyst_send, flusher_send, importer_send}
use Rattle.fw_test_threads.specs.contracts.seats.Posting as Posting
use Rattle.fw_test_threads.specs.contracts.seats.Seats as Seats
use Rattle.fw_test_threads.specs.contracts.ends.Held as Held

module _ (J : RattleType) (g : Naming.Ghosts J.Denot) where
  pub seats_sync : IsSync (Seats.the_row J g)
  seats_sync = recorded_sync _ _ _ (Seats.the_type J g).to_one (struct_sync (shape (Seats.the_type J g))
      (search sendable, (Mutex-sync _ (Vec-send (Importer.the_row J g) (importer_send J g)), (search (analyst_send J g, crosses, sendable) depth 20, (search (crosses, sendable) depth 20, tt)))))

  pub posting_sync : IsSync (Posting.the_row J g)
  posting_sync = recorded_sync _ _ _ (Posting.the_type J g).to_one (struct_sync (shape (Posting.the_type J g))
      (search sendable, (Mutex-sync _ (Vec-send (Importer.the_row J g) (importer_send J g)), (search (crosses, sendable) depth 20, tt))))

module _ (κ : NamedLft) (J V R : RattleType) (g : Naming.Ghosts J.Denot) (v : Volume.Ghosts V.Denot) (s : IsSend V) (y : IsSync R) where
  pub held_send : IsSend (Held.the_row κ J V R g v)
  held_send = recorded_send _ _ _ (Held.the_type κ J V R g v).to_one (struct_send (shape (Held.the_type κ J V R g v))
      (flusher_send J g V v s, (shr_send _ _ _ y, tt)))

  -- a closure that captured the flusher, and then others
  pub held_closure_send : (δ : Ty) (ν : Sym) (Ts : List RattleType) → AllSend (shape (type_at ν Ts)).fields → IsSend (param 1 (arg δ no (TupleAt ν (Held.the_row κ J V R g v ∷ Ts))))
  held_closure_send δ ν Ts others = closure_send 1 δ no ν (Held.the_row κ J V R g v ∷ Ts) (held_send, others)
