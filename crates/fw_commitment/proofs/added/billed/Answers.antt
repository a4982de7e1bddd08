use Rattle.std.proofs.Common.{◌≤ℤ◌, pos, arith, codes, rules, w64}
use Rattle.std.proofs.lemmas.Int.{ints}
use mir.Val.{SFits}
use Rattle.fw_toml.specs.Tree.{stated}
use Rattle.fw_commitment.specs.Fields.{HasAmount}
use Rattle.fw_commitment.specs.Added.{IsNotNegative}
use Rattle.fw_commitment.specs.declared.fault.CommitmentField.TheVariants as field
use Rattle.fw_commitment.proofs.RuleFacts.{field-fits, field-missing, field-over}
use Rattle.fw_commitment.proofs.ValueFacts.{amount-not}
use Rattle.fw_commitment.proofs.added.billed.Goals as goal

pub returns-in_default : goal.returns-in_default
returns-in_default c = λ _.
    let ms = stated c.args.table.now in let name = codes "billed" in
    field-missing field.Billed (HasAmount ms name) IsNotNegative (rw c.name.ensures at c.in_default.ensures)

pub returns-then-count-lt0 : goal.returns-then-count-lt0
returns-then-count-lt0 c = λ _.
    let ms = stated c.args.table.now in let name = codes "billed" in
    let n = c.in-Some.billed in
    let has : HasAmount ms name n = rw c.name.ensures at c.in-Some.ensures in
    let fits : SFits w64 c.count.result = search rules in
    let same = c.count.ensures.value in
    let low : ¬ IsNotNegative n = λ above. let test = c.if-count-lt0.true in grind (arith, ints) in
    field-over field.Billed (HasAmount ms name) IsNotNegative n has (amount-not IsNotNegative ms name n has low)

pub returns : goal.returns
returns c =
    let ms = stated c.args.table.now in let name = codes "billed" in
    let n = c.in-Some.billed in
    let has : HasAmount ms name n = rw c.name.ensures at c.in-Some.ensures in
    let fits : SFits w64 c.count.result = search rules in
    let same = c.count.ensures.value in
    let above : pos 0 ≤ℤ n = let test = c.if-count-lt0.false in grind (arith, ints) in
    (field-fits field.Billed (HasAmount ms name) IsNotNegative n has above, (has, above))
