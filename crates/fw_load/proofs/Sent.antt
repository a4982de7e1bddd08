-- Seats and places may go to other threads.
use denote.RattleType.{RattleType}
use denote.Param.Send.{IsSend, IsSync, sendable, struct_send, recorded_send, shr_send}
use denote.Ref.{NamedLft}
use denote.Struct.Declared.{shape}
use Rattle.std.proofs.Crossing.{crosses}
use Rattle.fw_charge.proofs.currency.Currency.TheSendSync as currency
use Rattle.fw_group.proofs.answer.Answer.TheSendSync as answer
use Rattle.fw_group.specs.contracts.answer.Answer as Answer
use Rattle.fw_threads.specs.contracts.published.Published as Published
use Rattle.fw_threads.specs.declared.naming.Naming as Naming
use Rattle.fw_load.specs.contracts.board.Place as Place
use Rattle.fw_load.specs.contracts.seat.Seat as Seat
use Rattle.fw_load.proofs.board.Place.TheSendSync as place
use Rattle.fw_threads.proofs.Sent.{importer_send, published_send}

module _ (J : RattleType) (g : Naming.Ghosts J.Denot) where
  answer_send : IsSend (Answer.the_row (Published.the_row J g))
  answer_send = answer.the_send (Published.the_row J g) (published_send J g)

  pub place_sync : IsSync (Place.the_row (Answer.the_row (Published.the_row J g)))
  place_sync = search (place.the_sync, answer_send, crosses, sendable) depth 20

module _ (κ : NamedLft) (J R : RattleType) (g : Naming.Ghosts J.Denot) (y : IsSync R) where
  pub seat_send : IsSend (Seat.the_row κ J R g)
  seat_send = recorded_send _ _ _ (Seat.the_type κ J R g).to_one (struct_send (shape (Seat.the_type κ J R g))
      (shr_send _ _ _ y, (search sendable, (importer_send J g, (shr_send _ _ _ (place_sync J g), (search (currency.the_send, sendable), (search sendable, (search sendable, (search (crosses, sendable) depth 10, tt)))))))))
