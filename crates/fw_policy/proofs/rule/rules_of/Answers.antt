use Rattle.std.proofs.Common.{◌∷◌, ◌∙◌, ◌+◌, map, drop, ap, sym}
use Rattle.std.proofs.lemmas.List.{drop_more, drop_all}
use Rattle.std.proofs.lemmas.Result.{err_from_is_err_and}
use Rattle.fw_toml.specs.Tree.{stated}
use Rattle.fw_policy.proofs.RuleFacts.{read-start, read-more, read-fault, read-all}
use Rattle.fw_policy.proofs.rule.rules_of.Goals as goal

pub loop-table-init : goal.loop-table-init
loop-table-init c = rw c.new-rules.ensures.items (read-start (map (λ t. stated t.now) c.args.tables.now))

pub returns-in_err-rule_of : goal.returns-in_err-rule_of
returns-in_err-rule_of c =
    let ts = c.args.tables.now in let i = c.loop-table.table-index in
    let p = err_from_is_err_and c.from_residual.result c.from_residual.ensures.1 in
    let next = drop_more ts i c.table-item.result c.loop-table-test.true ∙ ap (λ t. t ∷ drop (i + 1) ts) (sym c.table-item.is) in
    rw (p.1, p.2) (read-fault (map (λ t. stated t.now) ts) c.loop-table.rules.items (map (λ t. stated t.now) (drop i ts)) (map (λ t. stated t.now) (drop (i + 1) ts)) (stated c.table-item.result.now) c.in_err-rule_of.field-0.0 c.loop-table.invariant
    (ap (map (λ t. stated t.now)) next) c.in_err-rule_of.ensures)

pub loop-table-preserved : goal.loop-table-preserved
loop-table-preserved c =
    let ts = c.args.tables.now in let i = c.loop-table.table-index in
    let next = drop_more ts i c.table-item.result c.loop-table-test.true ∙ ap (λ t. t ∷ drop (i + 1) ts) (sym c.table-item.is) in
    rw c.in_ok-push.ensures.items (read-more (map (λ t. stated t.now) ts) c.loop-table.rules.items (map (λ t. stated t.now) (drop i ts)) (map (λ t. stated t.now) (drop (i + 1) ts)) (stated c.table-item.result.now) c.in_ok-rule_of.field-0 c.loop-table.invariant
    (ap (map (λ t. stated t.now)) next) c.in_ok-rule_of.ensures)

pub returns : goal.returns
returns c =
    let ts = c.args.tables.now in let i = c.loop-table.table-index in
    read-all (map (λ t. stated t.now) ts) c.loop-table.rules.items (map (λ t. stated t.now) (drop i ts)) c.loop-table.invariant (ap (map (λ t. stated t.now)) (drop_all i ts c.loop-table-test.false))
