use Rattle.std.proofs.Common.{◌≡◌, ◌∙◌, ◌<◌, ◌++◌, ◌∷◌, [], ap, append-nil, arith, subst, sym}
use Rattle.fw_charge.specs.Tags.{group_of}
use Rattle.fw_cover.specs.Hour.{quantity_of}
use Rattle.fw_amortise.proofs.Accounting.{measured_of}
use Rattle.fw_sums.specs.Corrections.{correction_of, cost_lost, row_lost}
use Rattle.fw_sums.specs.Sums.{Counts}
use Rattle.fw_sums.proofs.CorrectionFacts.{is_lost, never_lost, none_lost}
use Rattle.fw_sums.proofs.groups.Groups.correct_row.Goals as goal
use Rattle.fw_sums.proofs.groups.Groups.correct_row.Goals.{else-left-quantity_of-via-then-left-quantity_of+else-is_eligible, else-left-quantity_of-via-else-left-quantity_of}

pub cost_lost-requires-clause-cost : goal.cost_lost-requires-clause-cost
cost_lost-requires-clause-cost c = rw c.billed.ensures (measured_of c.args.row.now (sym c.is_eligible.ensures ∙ c.if-is_eligible.true)).billed

pub cost_lost-requires-then-is_eligible-clause-cost : goal.cost_lost-requires-then-is_eligible-clause-cost
cost_lost-requires-then-is_eligible-clause-cost c = rw c.effective.ensures (measured_of c.args.row.now (sym c.is_eligible.ensures ∙ c.if-is_eligible.true)).effective

pub returns-in_ok-add : goal.returns-in_ok-add
returns-in_ok-add c = λ costs counts.
    let row = c.args.row.now in
    let left = c.args.left in
    let less : left < quantity_of row = (let t = c.if-left-quantity_of.true in let q = c.quantity_of.ensures.value in omega (arith, t, q)) in
    let group : c.group.result.now ≡ group_of c.args.key.now row.tags = c.group.ensures ∙ ap (group_of c.args.key.now) c.tags.ensures.value in
    let billed : c.cost_lost.result ≡ cost_lost row row.billed left = c.cost_lost.ensures ∙ ap (λ z. cost_lost row z left) c.billed.ensures in
    let effective : c.cost_lost-then-is_eligible.result ≡ cost_lost row row.effective left = c.cost_lost-then-is_eligible.ensures ∙ ap (λ z. cost_lost row z left) c.effective.ensures in
    let lost : row_lost c.args.key.now row left ∷ [] ≡ correction_of c.args.key.now row left = is_lost c.args.key.now row left less (sym c.is_eligible.ensures ∙ c.if-is_eligible.true) in
    subst (λ l. Counts c.add.new.self (costs ++ l)) ((λ j. record { group = group j; billed = billed j; effective = effective j } ∷ []) ∙ lost) (c.in_ok-add.ensures costs counts)

pub returns-else-left-quantity_of : goal.returns-else-left-quantity_of
returns-else-left-quantity_of c = λ costs counts.
    let none : correction_of c.args.key.now c.args.row.now c.args.left ≡ [] =
    elim c.else-left-quantity_of.branch [
      | else-left-quantity_of-via-then-left-quantity_of+else-is_eligible w ↦ never_lost c.args.key.now c.args.row.now c.args.left (sym w.is_eligible.ensures ∙ w.if-is_eligible.false)
      | else-left-quantity_of-via-else-left-quantity_of w ↦ none_lost c.args.key.now c.args.row.now c.args.left (let t = w.if-left-quantity_of.false in let q = c.quantity_of.ensures.value in omega (arith, t, q))
    ] in
    subst (Counts c.args.self.now) (sym (ap (λ l. costs ++ l) none ∙ append-nil costs)) counts
