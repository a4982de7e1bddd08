use Rattle.std.proofs.Common.{sym}
use Rattle.std.proofs.lemmas.Result.{err_from_is_err_and}
use Rattle.fw_charge.specs.declared.discount.DiscountKind.TheVariants as kind
use Rattle.fw_toml.specs.Tree.{stated}
use Rattle.fw_commitment.specs.Fields.{HasKind}
use Rattle.fw_commitment.specs.Rules.{unit_rules, skus_rules}
use Rattle.fw_commitment.proofs.RuleFacts.{fault-here, fault-later, none-append}
use Rattle.fw_commitment.proofs.KindFacts.{usage-fault, spend-fault, usage-none, spend-none}
use Rattle.fw_commitment.proofs.terms.terms.Goals as goal

pub returns-in_err-unit-in-Usage : goal.returns-in_err-unit-in-Usage
returns-in_err-unit-in-Usage c =
    let ms = stated c.args.table.now in
    let p = err_from_is_err_and c.from_residual.result c.from_residual.ensures.1 in
    let f = c.in_err-unit-in-Usage.field-0.0 in
    let usage : HasKind ms kind.Usage = rw c.in-Usage.is at c.requires in
    rw (p.1, p.2) (usage-fault ms f usage (fault-here (unit_rules ms) (skus_rules ms) f c.in_err-unit-in-Usage.ensures))

pub returns-in_err-skus-in-Usage : goal.returns-in_err-skus-in-Usage
returns-in_err-skus-in-Usage c =
    let ms = stated c.args.table.now in
    let p = err_from_is_err_and c.from_residual-in_err-skus-in-Usage.result c.from_residual-in_err-skus-in-Usage.ensures.1 in
    let f = c.in_err-skus-in-Usage.field-0.0 in
    let usage : HasKind ms kind.Usage = rw c.in-Usage.is at c.requires in
    rw (p.1, p.2) (usage-fault ms f usage (fault-later (unit_rules ms) (skus_rules ms) f c.in_ok-unit-in-Usage.ensures.0 c.in_err-skus-in-Usage.ensures))

pub returns-in_err-rates-in-Spend : goal.returns-in_err-rates-in-Spend
returns-in_err-rates-in-Spend c =
    let ms = stated c.args.table.now in
    let p = err_from_is_err_and c.from_residual-in_err-rates-in-Spend.result c.from_residual-in_err-rates-in-Spend.ensures.1 in
    let spend : HasKind ms kind.Spend = rw c.in-Spend.is at c.requires in
    rw (p.1, p.2) (spend-fault ms c.in_err-rates-in-Spend.field-0.0 spend c.in_err-rates-in-Spend.ensures)

pub returns-in_ok-unit-in-Usage-2 : goal.returns-in_ok-unit-in-Usage-2
returns-in_ok-unit-in-Usage-2 c =
    let ms = stated c.args.table.now in
    let usage : HasKind ms kind.Usage = rw c.in-Usage.is at c.requires in
    let unit = c.in_ok-unit-in-Usage.ensures in
    let skus = c.in_ok-skus-in-Usage.ensures in
    let copied = c.in_ok-unit-in-Usage-2.ensures.ok in
    (usage-none ms usage (none-append (unit_rules ms) (skus_rules ms) unit.0 skus.0), ((rw copied unit.1.0, skus.1.0), (rw copied unit.1.1, skus.1.1), sym c.in-Usage.is))

pub returns-in_ok-rates-in-Spend : goal.returns-in_ok-rates-in-Spend
returns-in_ok-rates-in-Spend c =
    let ms = stated c.args.table.now in
    let spend : HasKind ms kind.Spend = rw c.in-Spend.is at c.requires in
    let rates = c.in_ok-rates-in-Spend.ensures in
    (spend-none ms spend rates.0, (rates.1.0, rates.1.1, sym c.in-Spend.is))
