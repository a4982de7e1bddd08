use Rattle.std.proofs.lemmas.Result.{err_from_is_err_and}
use Rattle.toml.specs.View.{view}
use Rattle.fw_toml.specs.Tree.{stated}
use Rattle.fw_policy.proofs.RuleFacts.{neither, both, to_fault, to_given, proportion_given, proportion_fault}
use Rattle.fw_policy.proofs.rule.give_of.Goals as goal
use Rattle.fw_policy.proofs.rule.give_of.Goals.{in_default-via-in-Some+in_default, in_default-via-in-None+in_default}

pub returns-in_default : goal.returns-in_default
returns-in_default c = elim c.in_default.branch [
  | in_default-via-in-Some+in_default w ↦ both (stated c.args.table.now) (view w.in_default.field-0-0.now) (view w.in_default.field-0-1.now) w.in_default.ensures w.in_default.ensures'
  | in_default-via-in-None+in_default w ↦ neither (stated c.args.table.now) w.in_default.ensures w.in_default.ensures'
]

pub returns-then-is_true : goal.returns-then-is_true
returns-then-is_true c = proportion_given (stated c.args.table.now) (view c.in-None-Some.proportion.now) c.in-None-Some.ensures c.in-None-Some.ensures' (c.is_true.ensures.0 c.if-is_true.true)

pub returns-else-is_true : goal.returns-else-is_true
returns-else-is_true c = proportion_fault (stated c.args.table.now) (view c.in-None-Some.proportion.now) c.in-None-Some.ensures c.in-None-Some.ensures'
    (λ h. let found = c.is_true.ensures.1 h in let not_ = c.if-is_true.false in cc)

pub returns-in_ok-targets_of-in-Some-None : goal.returns-in_ok-targets_of-in-Some-None
returns-in_ok-targets_of-in-Some-None c = to_given (stated c.args.table.now) (view c.in-Some-None.to.now) c.in_ok-targets_of-in-Some-None.field-0.items c.in-Some-None.ensures c.in-Some-None.ensures' c.in_ok-targets_of-in-Some-None.ensures

pub returns-in_err-targets_of-in-Some-None : goal.returns-in_err-targets_of-in-Some-None
returns-in_err-targets_of-in-Some-None c =
    let p = err_from_is_err_and c.from_residual.result c.from_residual.ensures.1 in
    rw (p.1, p.2) (to_fault (stated c.args.table.now) (view c.in-Some-None.to.now) (c.in_err-targets_of-in-Some-None).field-0.0 c.in-Some-None.ensures c.in-Some-None.ensures' c.in_err-targets_of-in-Some-None.ensures)
