use Rattle.std.proofs.Common.{codes, subst}
use Rattle.fw_charge.specs.Codes.{kind_word}
use Rattle.fw_toml.specs.Tree.{stated, at}
use Rattle.fw_commitment.specs.Fields.{HasKind, HasText}
use Rattle.fw_commitment.proofs.RuleFacts.{alone-fits, alone-missing}
use Rattle.fw_commitment.proofs.ValueFacts.{text-none, text-one}
use Rattle.fw_commitment.specs.declared.fault.CommitmentField.TheVariants as field
use Rattle.fw_commitment.proofs.id_and_term.kind.Goals as goal

pub returns-in_default : goal.returns-in_default
returns-in_default c = λ _.
    let ms = stated c.args.table.now in
    let none = text-none ms (codes "category") (rw c.name.ensures at c.in_default.ensures) in
    alone-missing field.Category (HasKind ms) (λ kind has. none (kind_word kind) has)

pub returns-in-Some-from_word : goal.returns-in-Some-from_word
returns-in-Some-from_word c =
    let ms = stated c.args.table.now in
    let kind = c.in-Some-from_word.kind in
    let word : HasText ms (codes "category") c.in-Some.word.now = rw c.name.ensures at c.in-Some.ensures in
    let has : HasKind ms kind = subst (HasText ms (codes "category")) c.in-Some-from_word.ensures word in
    (alone-fits field.Category (HasKind ms) kind has, has)

pub returns-in-None : goal.returns-in-None
returns-in-None c = λ _.
    let ms = stated c.args.table.now in
    let word : HasText ms (codes "category") c.in-Some.word.now = rw c.name.ensures at c.in-Some.ensures in
    alone-missing field.Category (HasKind ms) (λ kind has. c.in-None.ensures kind (text-one (at ms (codes "category")) c.in-Some.word.now (kind_word kind) word has))
