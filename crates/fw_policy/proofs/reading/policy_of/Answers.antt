use Rattle.std.proofs.Common.{map, ap, inl, Err}
use Rattle.std.proofs.lemmas.Result.{err_from_is_err_and}
use Rattle.std.specs.List.{Any, Contains}
use Rattle.fw_terms.specs.Texts.{HasTwice}
use Rattle.fw_terms.specs.Policy.{froms, targets_of}
use Rattle.fw_toml.specs.Tree.{stated}
use Rattle.fw_policy.proofs.PolicyFacts.{key_fault, array_fault, rules_fault, unknown_fault, double_fault, target_fault, policy_is, policy_kept, HasTables, HasRules, HasAll}
use Rattle.fw_policy.proofs.reading.policy_of.Goals as goal

pub returns-in_err-key : goal.returns-in_err-key
returns-in_err-key c =
    let p = err_from_is_err_and c.from_residual.result c.from_residual.ensures.1 in
    rw (p.1, p.2) (key_fault (stated c.args.table.now) c.in_err-key.field-0.0 c.in_err-key.ensures)

pub returns-in_err-tables : goal.returns-in_err-tables
returns-in_err-tables c =
    let p = err_from_is_err_and c.from_residual-in_err-tables.result c.from_residual-in_err-tables.ensures.1 in
    rw (p.1, p.2) (array_fault (stated c.args.table.now) c.in_ok-key.key.now c.in_err-tables.field-0.0 c.in_ok-key.ensures c.in_err-tables.ensures)

pub returns-in_err-rules : goal.returns-in_err-rules
returns-in_err-rules c =
    let ms = stated c.args.table.now in let tables = map (λ t. stated t.now) c.in_ok-tables.tables.items in
    let has : HasTables ms c.in_ok-key.key.now tables = record { is_key = c.in_ok-key.ensures; are_tables = c.in_ok-tables.ensures } in
    let p = err_from_is_err_and c.from_residual-in_err-rules.result c.from_residual-in_err-rules.ensures.1 in
    let bad = rw c.deref.ensures.value at c.in_err-rules.ensures in
    rw (p.1, p.2) (rules_fault ms c.in_ok-key.key.now tables c.in_err-rules.field-0.0 has bad)

pub returns-then-not-has_only_known : goal.returns-then-not-has_only_known
returns-then-not-has_only_known c =
    let ms = stated c.args.table.now in let tables = map (λ t. stated t.now) c.in_ok-tables.tables.items in let rules = c.in_ok-rules.rules.items in
    let has : HasRules ms c.in_ok-key.key.now tables rules = record { has = record { is_key = c.in_ok-key.ensures; are_tables = c.in_ok-tables.ensures }; are_rules = rw c.deref.ensures.value at c.in_ok-rules.ensures } in
    let known = rw c.deref-2.ensures.value at c.has_only_known.ensures in
    unknown_fault ms c.in_ok-key.key.now tables rules has (λ h. let found = known.1 h in let not_ = c.if-not-has_only_known.true in cc)

pub returns-then-has_double_from : goal.returns-then-has_double_from
returns-then-has_double_from c =
    let ms = stated c.args.table.now in let tables = map (λ t. stated t.now) c.in_ok-tables.tables.items in let rules = c.in_ok-rules.rules.items in
    let has : HasRules ms c.in_ok-key.key.now tables rules = record { has = record { is_key = c.in_ok-key.ensures; are_tables = c.in_ok-tables.ensures }; are_rules = rw c.deref.ensures.value at c.in_ok-rules.ensures } in
    let known = (rw c.deref-2.ensures.value at c.has_only_known.ensures).0 c.if-not-has_only_known.false in
    let all : HasAll ms c.in_ok-key.key.now tables rules = record { has = has; only = known.0; each = known.1 } in
    double_fault ms c.in_ok-key.key.now tables rules all ((rw c.deref-3.ensures.value at c.has_double_from.ensures.meaning).0 c.if-has_double_from.true)

pub returns-then-has_target_from : goal.returns-then-has_target_from
returns-then-has_target_from c =
    let ms = stated c.args.table.now in let tables = map (λ t. stated t.now) c.in_ok-tables.tables.items in let rules = c.in_ok-rules.rules.items in
    let has : HasRules ms c.in_ok-key.key.now tables rules = record { has = record { is_key = c.in_ok-key.ensures; are_tables = c.in_ok-tables.ensures }; are_rules = rw c.deref.ensures.value at c.in_ok-rules.ensures } in
    let known = (rw c.deref-2.ensures.value at c.has_only_known.ensures).0 c.if-not-has_only_known.false in
    let all : HasAll ms c.in_ok-key.key.now tables rules = record { has = has; only = known.0; each = known.1 } in
    let once : ¬ HasTwice (froms rules) = λ h. let found = (rw c.deref-3.ensures.value at c.has_double_from.ensures.meaning).1 h in let not_ = c.if-has_double_from.false in cc in
    target_fault ms c.in_ok-key.key.now tables rules all once ((rw c.deref-4.ensures.value at c.has_target_from.ensures.meaning).0 c.if-has_target_from.true)

pub returns-in_err-from_str : goal.returns-in_err-from_str
returns-in_err-from_str c =
    let p = err_from_is_err_and c.from_residual-in_err-from_str.result c.from_residual-in_err-from_str.ensures.1 in
    rw p.1 (inl (ap (λ f. Err f) p.2))

pub of_fields-requires : goal.of_fields-requires
of_fields-requires c =
    let ms = stated c.args.table.now in let tables = map (λ t. stated t.now) c.in_ok-tables.tables.items in let rules = c.in_ok-rules.rules.items in
    let has : HasRules ms c.in_ok-key.key.now tables rules = record { has = record { is_key = c.in_ok-key.ensures; are_tables = c.in_ok-tables.ensures }; are_rules = rw c.deref.ensures.value at c.in_ok-rules.ensures } in
    let once : ¬ HasTwice (froms rules) = λ h. let found = (rw c.deref-3.ensures.value at c.has_double_from.ensures.meaning).1 h in let not_ = c.if-has_double_from.false in cc in
    let apart : ¬ Any (λ g. Contains (froms rules) g) (targets_of rules) = λ h. let found = (rw c.deref-4.ensures.value at c.has_target_from.ensures.meaning).1 h in let not_ = c.if-has_target_from.false in cc in
    rw c.in_ok-from_str.ensures.ok (policy_kept ms c.in_ok-key.key.now tables rules has once apart)

pub returns : goal.returns
returns c =
    let ms = stated c.args.table.now in let tables = map (λ t. stated t.now) c.in_ok-tables.tables.items in let rules = c.in_ok-rules.rules.items in
    let has : HasRules ms c.in_ok-key.key.now tables rules = record { has = record { is_key = c.in_ok-key.ensures; are_tables = c.in_ok-tables.ensures }; are_rules = rw c.deref.ensures.value at c.in_ok-rules.ensures } in
    let known = (rw c.deref-2.ensures.value at c.has_only_known.ensures).0 c.if-not-has_only_known.false in
    let all : HasAll ms c.in_ok-key.key.now tables rules = record { has = has; only = known.0; each = known.1 } in
    let once : ¬ HasTwice (froms rules) = λ h. let found = (rw c.deref-3.ensures.value at c.has_double_from.ensures.meaning).1 h in let not_ = c.if-has_double_from.false in cc in
    let apart : ¬ Any (λ g. Contains (froms rules) g) (targets_of rules) = λ h. let found = (rw c.deref-4.ensures.value at c.has_target_from.ensures.meaning).1 h in let not_ = c.if-has_target_from.false in cc in
    rw (c.of_fields.ensures, c.in_ok-from_str.ensures.ok) (policy_is ms c.in_ok-key.key.now tables rules all once apart)
