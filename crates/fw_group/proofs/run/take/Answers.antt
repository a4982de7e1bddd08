use Rattle.std.proofs.Common.{◌≡◌, inl, inr}
use Rattle.fw_group.proofs.Items.{none_or_some}
use Rattle.fw_group.proofs.run.take.Goals as goal

pub returns-clause-ok : goal.returns-clause-ok
returns-clause-ok c =
    let d = c.args.desk.now in
    elim (none_or_some d.hand) [
      | inl none ↦
          let h = c.in_ok-count.ensures.moved none in
          inl (none, h.0, (λ j. record { inbox = h.2 j; hand = h.1 j; importers = d.importers; analysts = d.analysts }))
      | inr some ↦
          let h = c.in_ok-count.ensures.in_hand some in
          let none : c.in_ok-count.count ≡ 0 = cc in
          inr (some, none, (λ j. record { inbox = h.2 j; hand = h.1 j; importers = d.importers; analysts = d.analysts }))
    ]
