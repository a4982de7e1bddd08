use Rattle.std.proofs.Common.{◌≡◌, ◌∙◌, ◌+◌, ◌≤◌, ap, arith, length, refl, subst, sym, take}
use Rattle.std.proofs.lemmas.List.{take_all}
use Rattle.std.proofs.lemmas.List.Elements.{All-get_or}
use Rattle.std.proofs.lemmas.Option.{get_or_from_slice_get, slice_get_within}
use Rattle.fw_posted.specs.Gone.{without_all}
use Rattle.fw_posted.specs.Marks.{without}
use Rattle.fw_posted.specs.declared.gone.Gone.{Gone}
use Rattle.fw_posted.proofs.GoneFacts.{all_push}
use Rattle.fw_posted.proofs.MarkFacts.{length-without, take_next}
use Rattle.fw_posted.proofs.gone.withdraw_all.Goals as goal
use Rattle.fw_posted.proofs.gone.withdraw_all.Goals.{After-get-range}

-- the range is one of the marks'
inside : (c : After-get-range) → c.get-range.result.now.from + c.get-range.result.now.count ≤ length c.args.marks.now
inside c =
    let gone = c.args.gone.now in
    let at = c.loop-at.at in
    let range = c.get-range.result.now in
    let Inside : Gone → Type 0 = λ g. g.from + g.count ≤ length c.args.marks.now in
    subst Inside (get_or_from_slice_get gone at range range c.get-range.ensures) (All-get_or Inside gone at range (slice_get_within gone at range c.get-range.ensures) c.requires)

pub loop-at-init : goal.loop-at-init
unfolding without_all
loop-at-init c = record { marks = refl; long = refl }

pub withdraw-requires : goal.withdraw-requires
withdraw-requires c = let fits = inside ((goal.at.withdraw-requires c).After-get-range) in omega (arith, fits, c.loop-at.invariant.long)

pub loop-at-preserved : goal.loop-at-preserved
loop-at-preserved c =
    let fits = inside ((goal.at.loop-at-preserved c).After-get-range) in
    let gone = c.args.gone.now in
    let at = c.loop-at.at in
    let range = c.get-range.result.now in
    record {
      marks = c.withdraw.ensures
          ∙ ap (without range.from range.count) c.loop-at.invariant.marks
          ∙ sym (ap (λ l. without_all l c.args.marks.now) (take_next gone at range c.get-range.ensures) ∙ all_push (take at gone) range c.args.marks.now);
      long = ap length c.withdraw.ensures
          ∙ length-without range.from range.count c.loop-at.marks (omega (arith, fits, c.loop-at.invariant.long))
          ∙ c.loop-at.invariant.long;
    }

pub returns : goal.returns
returns c =
    c.loop-at.invariant.marks ∙ ap (λ l. without_all l c.args.marks.now) (take_all c.loop-at.at c.args.gone.now (omega (arith, c.len-at-end.ensures, c.loop-at-test.false)))
