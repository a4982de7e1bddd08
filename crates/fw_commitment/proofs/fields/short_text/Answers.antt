use Rattle.fw_charge.specs.Charge.{IsShortText}
use Rattle.fw_toml.specs.Tree.{stated}
use Rattle.fw_commitment.specs.FieldNames.{name_of}
use Rattle.fw_commitment.specs.Fields.{HasText}
use Rattle.fw_commitment.proofs.RuleFacts.{field-fits, field-missing, field-over}
use Rattle.fw_commitment.proofs.ValueFacts.{text-none, text-not}
use Rattle.fw_commitment.proofs.fields.short_text.Goals as goal

pub returns-in_default : goal.returns-in_default
returns-in_default c = λ _.
    let ms = stated c.args.table.now in let name = name_of c.args.field in
    field-missing c.args.field (HasText ms name) IsShortText (text-none ms name (rw c.name.ensures at c.in_default.ensures))

pub returns-then-not-is_short_text : goal.returns-then-not-is_short_text
returns-then-not-is_short_text c = λ _.
    let ms = stated c.args.table.now in let name = name_of c.args.field in
    let t = c.in-Some.text.now in
    let has : HasText ms name t = rw c.name.ensures at c.in-Some.ensures in
    let long : ¬ IsShortText t = λ short. let same = c.if-not-is_short_text.ensures.1 short in absurd (cc) in
    field-over c.args.field (HasText ms name) IsShortText t has (text-not IsShortText ms name t has long)

pub returns : goal.returns
returns c =
    let ms = stated c.args.table.now in let name = name_of c.args.field in
    let t = c.in-Some.text.now in
    let has : HasText ms name t = rw c.name.ensures at c.in-Some.ensures in
    let short = c.is_short_text.ensures.0 c.if-not-is_short_text.false in
    (field-fits c.args.field (HasText ms name) IsShortText t has short, (has, short))
