use Rattle.std.proofs.Common.{◌≡◌, ◌∙◌, ◌<◌, false, ℕ, Some, ap, arith, length, refl, replicate, rules, subst, sym, true}
use Rattle.std.specs.Prelude.{not, slice_get}
use Rattle.std.specs.List.{list_any}
use Rattle.fw_posted.specs.Gone.{is_in}
use Rattle.fw_posted.specs.Kept.{kept_marks}
use Rattle.fw_posted.specs.Parts.{PartValue}
use Rattle.fw_posted.specs.PartView.{KeepsPart, part_value}
use Rattle.fw_posted.specs.declared.gone.Gone.{Gone}
use Rattle.fw_posted.specs.declared.left.Left.{Left}
use Rattle.fw_posted.specs.declared.part.Part.TheInside.{Inside}
use Rattle.fw_posted.proofs.GoneFacts.{counted_never, counted_yet, mark_left, mark_now, mark_whole, marks_long}
use Rattle.fw_posted.proofs.part.Part.counts.Goals as goal
use Rattle.fw_posted.proofs.part.Part.counts.Goals.{in-None, in-Some}

-- the row is one of the segment's
within : (p : Inside) (v : PartValue) (place : ℕ) → KeepsPart p → part_value p ≡ v → place < length v.marks → place < p.len
within p v place keeps is inside = omega (arith, inside, marks_long p keeps, ap (λ (w : PartValue). length w.marks) is)

pub index-requires : goal.index-requires
index-requires c =
    let p = c.self.inside in
    let here = within p c.args.self.now c.args.place c.self.invariant c.self.view_is c.requires in
    let marks = ap (λ l. length (kept_marks (replicate p.len true) l)) c.in-Some.is in
    let there : c.args.place < length c.deref.result.now.counts.items = omega (arith, here, marks, c.self.invariant.marks, ap (λ (l : Left). length l.counts.items) c.deref.ensures) in
    search rules

pub returns-then-counted : goal.returns-then-counted
returns-then-counted c =
    let p = c.self.inside in
    let place = c.args.place in
    let here = within p c.args.self.now place c.self.invariant c.self.view_is c.requires in
    let was : slice_get (kept_marks (replicate p.len true) p.left) place ≡ Some c.match-self.counted =
    elim c.match-self.branch [
      | in-None w ↦ mark_whole p place w.in-None.is here ∙ ap Some (sym w.counted-is)
      | in-Some w ↦ mark_left p place w.in-Some.left w.deref.result.now w.index.result.now c.self.invariant w.in-Some.is w.deref.ensures here w.index.ensures ∙ ap Some (sym w.counted-is)
    ] in
    sym (ap (λ (v : PartValue). slice_get v.marks place) c.self.view_is)
    ∙ mark_now p place true c.self.invariant here (was ∙ ap Some c.if-counted.true)
    ∙ counted_yet (list_any (λ (g : Gone). is_in g place) p.gone)
    ∙ ap (λ b. Some (not b)) (sym c.is_gone.ensures)

pub returns-else-counted : goal.returns-else-counted
returns-else-counted c =
    let p = c.self.inside in
    let place = c.args.place in
    let here = within p c.args.self.now place c.self.invariant c.self.view_is c.requires in
    let was : slice_get (kept_marks (replicate p.len true) p.left) place ≡ Some c.match-self.counted =
    elim c.match-self.branch [
      | in-None w ↦ mark_whole p place w.in-None.is here ∙ ap Some (sym w.counted-is)
      | in-Some w ↦ mark_left p place w.in-Some.left w.deref.result.now w.index.result.now c.self.invariant w.in-Some.is w.deref.ensures here w.index.ensures ∙ ap Some (sym w.counted-is)
    ] in
    sym (ap (λ (v : PartValue). slice_get v.marks place) c.self.view_is)
    ∙ mark_now p place false c.self.invariant here (was ∙ ap Some c.if-counted.false)
    ∙ counted_never (list_any (λ (g : Gone). is_in g place) p.gone)
    ∙ ap Some (sym c.if-counted.false)
