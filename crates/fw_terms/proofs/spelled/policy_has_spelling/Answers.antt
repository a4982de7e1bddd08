use Rattle.fw_terms.specs.Spelling.{IsRuleUtf8}
use Rattle.fw_terms.proofs.Items.{one_more, of_all}
use Rattle.fw_terms.proofs.spelled.policy_has_spelling.Goals as goal

pub loop-rule-preserved : goal.loop-rule-preserved
loop-rule-preserved c =
    let same = c.rules-rule-items.ensures.value in
    one_more IsRuleUtf8 c.args.one.now.rules c.loop-rule.rule-index c.rule-item.result (rw same at c.loop-rule-test.true) (rw same at c.rule-item.is) c.rule_is_utf8.ensures c.loop-rule.invariant

pub returns : goal.returns
returns c =
    let same = c.rules-rule-items.ensures.value in
    record {
      limits = c.key-key.ensures.in_limits;
      key = rw c.key-key.ensures.value at c.key-key.utf8;
      rules = of_all IsRuleUtf8 c.args.one.now.rules c.loop-rule.rule-index (rw same at c.loop-rule-test.false) c.loop-rule.invariant;
    }
