use Rattle.std.proofs.Common.{◌<ℤ◌, pos, arith, codes, rules, w64}
use Rattle.std.proofs.lemmas.Int.{ints}
use mir.Val.{SFits}
use Rattle.fw_toml.specs.Tree.{stated}
use Rattle.fw_commitment.specs.Fields.{HasAmount}
use Rattle.fw_commitment.specs.Rules.{IsAboveZero}
use Rattle.fw_commitment.proofs.RuleFacts.{field-fits, field-missing, field-over}
use Rattle.fw_commitment.proofs.ValueFacts.{amount-not}
use Rattle.fw_commitment.specs.declared.fault.CommitmentField.TheVariants as field
use Rattle.fw_commitment.proofs.id_and_term.capacity.Goals as goal

pub returns-in_default : goal.returns-in_default
returns-in_default c = λ _.
    let ms = stated c.args.table.now in let name = codes "capacity" in
    field-missing field.Capacity (HasAmount ms name) IsAboveZero (rw c.name.ensures at c.in_default.ensures)

pub returns-then-count-le0 : goal.returns-then-count-le0
returns-then-count-le0 c = λ _.
    let ms = stated c.args.table.now in let name = codes "capacity" in
    let n = c.in-Some.capacity in
    let has : HasAmount ms name n = rw c.name.ensures at c.in-Some.ensures in
    let fits : SFits w64 c.count.result = search rules in
    let same = c.count.ensures.value in
    let low : ¬ IsAboveZero n = λ above. let test = c.if-count-le0.true in grind (arith, ints) in
    field-over field.Capacity (HasAmount ms name) IsAboveZero n has (amount-not IsAboveZero ms name n has low)

pub returns : goal.returns
returns c =
    let ms = stated c.args.table.now in let name = codes "capacity" in
    let n = c.in-Some.capacity in
    let has : HasAmount ms name n = rw c.name.ensures at c.in-Some.ensures in
    let fits : SFits w64 c.count.result = search rules in
    let same = c.count.ensures.value in
    let above : pos 0 <ℤ n = let test = c.if-count-le0.false in grind (arith, ints) in
    (field-fits field.Capacity (HasAmount ms name) IsAboveZero n has above, (has, above))
