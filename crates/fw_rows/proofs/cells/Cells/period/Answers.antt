use Rattle.std.proofs.Common.{refl, inl, inr, arith}
use Rattle.fw_rules.specs.Table.{FirstBroken, NoneBroken}
use Rattle.fw_rows.specs.Parts.{texts_of}
use Rattle.fw_rows.specs.declared.column.Column.TheVariants as column
use Rattle.fw_rows.proofs.WordFacts.{second-one}
use Rattle.fw_rows.specs.Rules.{period_rules}
use Rattle.fw_rows.proofs.cells.Cells.period.Goals as goal

pub returns-in_default : goal.returns-in_default
unfolding FirstBroken period_rules
returns-in_default c = inl ((λ h. c.in_default.ensures.value h.0.0 (rw c.text.ensures h.0.1)), refl)

pub returns-in_default-second_of : goal.returns-in_default-second_of
unfolding FirstBroken period_rules
returns-in_default-second_of c = inl ((λ h. c.in_default-second_of.ensures.value h.1.0 (rw c.text-2.ensures h.1.1)), refl)

pub returns-then-end-start : goal.returns-then-end-start
unfolding FirstBroken period_rules
returns-then-end-start c =
    let s = c.in-Some.start in
    let t = c.in-Some-second_of.end in
    let start = rw c.text.ensures at c.in-Some.ensures.value in
    let end = rw c.text-2.ensures at c.in-Some-second_of.ensures.value in
    inr ((λ none. none ((s, start), (t, end))), inl ((s, t, start, end, c.if-end-start.true), refl))

pub returns : goal.returns
unfolding NoneBroken period_rules
returns c =
    let at = texts_of c.args.self.now in
    let s = c.in-Some.start in
    let t = c.in-Some-second_of.end in
    let start = rw c.text.ensures at c.in-Some.ensures.value in
    let end = rw c.text-2.ensures at c.in-Some-second_of.ensures.value in
    let ordered = c.if-end-start.false in (
      (
        λ none. none ((s, start), (t, end)),
        (
          λ h. let one = second-one (at column.ChargePeriodStart) s h.0 start h.2 in let two = second-one (at column.ChargePeriodEnd) t h.1 end h.3 in omega (arith, ordered, one, two, h.4),
          tt,
        ),
      ),
      record { start = start; end = end; ordered = ordered; dated = c.in-Some-second_of.ensures.in_range },
    )
