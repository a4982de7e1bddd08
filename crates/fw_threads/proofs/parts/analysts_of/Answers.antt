use Rattle.std.proofs.Common.{◌≡◌, [], ◌∷◌, length, All, length-append, ap, sym, subst, ◌∙◌, arith}
use Rattle.std.proofs.lemmas.List.Elements.{All-push}
use Rattle.fw_snapshot.specs.History.{History}
use Rattle.fw_threads.specs.Fronts.{Marked}
use Rattle.fw_threads.proofs.Shown.{admits}
use Rattle.fw_threads.proofs.parts.analysts_of.Goals as goal

pub loop-preserved : goal.loop-preserved
loop-preserved g c =
    let P : History → Type 0 = λ h. h ≡ c.args.mark.now.front in
    let i = c.loop.invariant in
    let new = c.push_reserved.ensures.items in
    let is : P c.new.result = c.new.ensures ∙ ap (λ (m : Marked). m.front) c.again.ensures in (
      omega (arith, i.0, ap length new, length-append c.loop.all.items (c.new.result ∷ [])),
      omega (arith, i.1, c.push_reserved.ensures.capacity),
      subst (All P) (sym new) (All-push P c.loop.all.items c.new.result i.2 is),
    )

pub reader-requires : goal.reader-requires
reader-requires g c = admits g.J.Naming.fronts
