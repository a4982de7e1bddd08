use Rattle.std.proofs.Common.{below_more, arith, refl, subst, sym}
use Rattle.fw_toml.specs.Tree.{HasOnly, stated}
use Rattle.fw_policy.specs.Policy.{rule_fields}
use Rattle.fw_policy.proofs.SearchFacts.{at_place, all_of, not_all}
use Rattle.fw_policy.proofs.rule.have_rule_fields.Goals as goal

pub loop-table-preserved : goal.loop-table-preserved
loop-table-preserved c =
    let here = c.has_rule_fields.ensures.0 c.if-not-has_rule_fields.false in
    below_more _ _ c.loop-table.invariant (at_place (λ t. HasOnly rule_fields (stated t.now)) c.args.tables.now c.loop-table.table-index c.table-item.result c.loop-table-test.true c.table-item.is here)

pub returns-then-not-has_rule_fields : goal.returns-then-not-has_rule_fields
returns-then-not-has_rule_fields c = (
  λ e. absurd (cc),
  λ all. absurd (not_all (HasOnly rule_fields) (λ t. stated t.now) c.args.tables.now c.loop-table.table-index c.table-item.result c.loop-table-test.true
      (λ only. let found = c.has_rule_fields.ensures.1 (subst (λ t. HasOnly rule_fields (stated t.now)) (sym c.table-item.is) only) in let not_ = c.if-not-has_rule_fields.true in cc) all),
)

pub returns : goal.returns
returns c = (λ e. all_of (HasOnly rule_fields) (λ t. stated t.now) c.args.tables.now c.loop-table.table-index (omega arith) c.loop-table.invariant, λ all. refl)
