use Rattle.std.proofs.Common.{◌≡◌, ◌∙◌, ◌+◌, ◌≤◌, ℕ, ap, arith, drop, length, replicate, sym, true}
use Rattle.std.proofs.lemmas.List.{take_at}
use Rattle.std.proofs.lemmas.List.Elements.{All-nil, All-push}
use Rattle.fw_posted.specs.Gone.{without_all}
use Rattle.fw_posted.specs.Kept.{kept_marks, kept_rows, left_of}
use Rattle.fw_posted.specs.Marks.{without}
use Rattle.fw_posted.specs.Parts.{PartValue}
use Rattle.fw_posted.specs.PartView.{KeepsPart, kept_since, part_value}
use Rattle.fw_posted.specs.declared.gone.Gone.{Gone}
use Rattle.fw_posted.specs.declared.left.Left.{Left}
use Rattle.fw_posted.specs.declared.part.Part.TheInside.{Inside}
use Rattle.fw_posted.proofs.GoneFacts.{all_push, marks_long, since_push}
use Rattle.fw_posted.proofs.MarkFacts.{length-without}
use Rattle.fw_posted.proofs.part.Part.without.Goals as goal
use Rattle.fw_posted.proofs.part.Part.without.Goals.{After-new-2}

-- the range is one of the segment's
inside : (p : Inside) (v : PartValue) (from count : ℕ) → KeepsPart p → part_value p ≡ v → from + count ≤ length v.marks → from + count ≤ p.len
inside p v from count keeps is fits = omega (arith, fits, marks_long p keeps, ap (λ (w : PartValue). length w.marks) is)

pub invariant_of-result : goal.invariant_of-result
invariant_of-result c =
    let p = c.self.inside in
    record {
      marks = ap length (c.in_ok-left.ensures.marks (replicate p.len true)) ∙ c.self.invariant.marks;
      gone = rw c.in_ok-gone.ensures (All-push (λ (g : Gone). g.from + g.count ≤ p.len) p.gone (record { from = c.args.from; count = c.args.count }) c.self.invariant.gone
          (inside p c.args.self.now c.args.from c.args.count c.self.invariant c.self.view_is c.requires));
    }

pub returns-then-len-lt-MOST_GONE-clause-marks : goal.returns-then-len-lt-MOST_GONE-clause-marks
returns-then-len-lt-MOST_GONE-clause-marks c =
    let p = c.self.inside in
    ap (λ g. without_all g (kept_marks (replicate p.len true) c.in_ok-left.left)) c.in_ok-gone.ensures
    ∙ all_push p.gone (record { from = c.args.from; count = c.args.count }) (kept_marks (replicate p.len true) c.in_ok-left.left)
    ∙ ap (λ l. without c.args.from c.args.count (without_all p.gone l)) (c.in_ok-left.ensures.marks (replicate p.len true))
    ∙ ap (λ (v : PartValue). without c.args.from c.args.count v.marks) c.self.view_is

pub returns-then-len-lt-MOST_GONE-clause-left : goal.returns-then-len-lt-MOST_GONE-clause-left
returns-then-len-lt-MOST_GONE-clause-left c =
    ap (λ g. kept_since g (kept_rows c.in_ok-left.left)) c.in_ok-gone.ensures
    ∙ since_push c.self.inside.gone (record { from = c.args.from; count = c.args.count }) (kept_rows c.in_ok-left.left)

-- the marks that are written down
written : (c : After-new-2) → c.in_ok-new.field-0.value.counts.items ≡ without c.args.from c.args.count c.args.self.now.marks
written c =
    let now : c.withdraw.new.marks ≡ without c.args.from c.args.count c.args.self.now.marks =
    c.withdraw.ensures ∙ ap (without c.args.from c.args.count) (c.deref_mut.ensures.value ∙ c.in_ok-counts.ensures) in
    let long : length c.withdraw.new.marks ≡ c.in_ok-counts.counts.len =
    omega (arith, c.deref_mut.ensures.len, ap length c.withdraw.ensures, ap length (c.deref_mut.ensures.value ∙ c.in_ok-counts.ensures), c.requires, length-without c.args.from c.args.count c.args.self.now.marks c.requires, ap length now) in
    ap (λ (l : Left). l.counts.items) c.in_ok-new.ensures.ok
    ∙ take_at c.withdraw.new.marks (drop (length c.withdraw.new.marks) c.in_ok-counts.counts.items) c.in_ok-counts.counts.len long
    ∙ now

pub invariant_of-result-2 : goal.invariant_of-result-2
invariant_of-result-2 c =
    let p = c.self.inside in
    record {
      marks = ap length (written c) ∙ length-without c.args.from c.args.count c.args.self.now.marks c.requires
          ∙ sym (ap (λ (v : PartValue). length v.marks) c.self.view_is) ∙ marks_long p c.self.invariant;
      gone = rw c.new-2.ensures (All-nil (λ (g : Gone). g.from + g.count ≤ p.len));
    }

pub returns-clause-marks : goal.returns-clause-marks
unfolding without_all
returns-clause-marks c = rw c.new-2.ensures (written c)

pub returns-clause-left : goal.returns-clause-left
unfolding kept_since
returns-clause-left c = rw c.new-2.ensures (ap left_of c.in_ok-new.ensures.ok)
