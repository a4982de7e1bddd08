use Rattle.std.proofs.Common.{◌≡◌, ◌+◌, sym, ◌∙◌, ap}
use Rattle.fw_growing.proofs.Adding.{adds_moves}
use Rattle.fw_growing.proofs.growing.Beginning.add.Goals as goal

pub compare_exchange-found-requires : goal.compare_exchange-found-requires
compare_exchange-found-requires g c =
    let head = c.growing.invariant in
    let book = ap (λ b. b.of) c.self.view_is ∙ (sym c.requires ∙ sym c.growing.view_is) in
    let offer = c.plain-offer.ensures in
    let pen = c.no_pen-pen.ensures in
    let one : c.in-Some.next ≡ c.self.inside.count + 1 = c.in-Some.ensures.1 in (
      ap (λ w. w.tracked) head,
      book,
      pen.0 ∙ book,
      offer.0,
      rw (ap (λ w. w.key) head, pen.1, offer.1, offer.3) (adds_moves c.self.inside.seen.log c.args.element.now c.self.inside.count c.in-Some.next one (sym c.self.invariant)),
    )
