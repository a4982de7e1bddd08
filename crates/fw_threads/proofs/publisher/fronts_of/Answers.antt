use Rattle.std.proofs.Common.{◌≡◌, [], ◌∷◌, ◌++◌, length, All, Option, length-append, ap, sym, subst, ◌∙◌, arith}
use Rattle.std.specs.Option.{option_to_list}
use Rattle.std.proofs.lemmas.List.Elements.{All-push}
use Rattle.fw_snapshot.specs.History.{History}
use Rattle.fw_group.proofs.Answering.{all_front, all_last}
use Rattle.fw_threads.proofs.publisher.fronts_of.Goals as goal

pub loop-preserved : goal.loop-preserved
loop-preserved g c =
    let P : History → Type 0 = λ h. h ≡ c.args.mark.now.front in
    let i = c.loop.invariant in
    let left = c.pop.new.self.items in
    let copy = c.unwrap-copy.result in
    let new = c.push_reserved.ensures.items in
    let had : c.loop.copies.items ≡ left ++ copy ∷ [] = c.pop.ensures.items ∙ ap (λ (o : Option History). left ++ option_to_list o) c.unwrap-copy.ensures in
    let each : All P (left ++ copy ∷ []) = subst (All P) had i.copies in
    let is : P c.new.result = c.new.ensures ∙ all_last P left copy each in
    record {
      left = omega (arith, i.left, ap length had, length-append left (copy ∷ []));
      made = omega (arith, i.made, ap length new, length-append c.loop.fronts.items (c.new.result ∷ []));
      room = omega (arith, i.room, c.push_reserved.ensures.capacity);
      copies = all_front P left copy each;
      fronts = subst (All P) (sym new) (All-push P c.loop.fronts.items c.new.result i.fronts is);
    }
