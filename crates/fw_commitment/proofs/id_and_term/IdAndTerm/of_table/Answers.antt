use Rattle.std.proofs.lemmas.Result.{err_from_is_err_and}
use Rattle.fw_toml.specs.Tree.{stated}
use Rattle.fw_commitment.specs.Rules.{id_and_term_rules, id_rules, kind_rules, start_rules, hours_rules, capacity_rules}
use Rattle.fw_commitment.proofs.RuleFacts.{fault-here, fault-later, none-append}
use Rattle.fw_commitment.proofs.id_and_term.IdAndTerm.of_table.Goals as goal

pub returns-in_err-id : goal.returns-in_err-id
unfolding id_and_term_rules
returns-in_err-id c =
    let ms = stated c.args.table.now in
    let p = err_from_is_err_and c.from_residual.result c.from_residual.ensures.1 in
    rw (p.1, p.2) (fault-here (id_rules ms) _ c.in_err-id.field-0.0 c.in_err-id.ensures)

pub returns-in_err-kind : goal.returns-in_err-kind
unfolding id_and_term_rules
returns-in_err-kind c =
    let ms = stated c.args.table.now in
    let p = err_from_is_err_and c.from_residual-in_err-kind.result c.from_residual-in_err-kind.ensures.1 in
    let f = c.in_err-kind.field-0.0 in
    rw (p.1, p.2) (fault-later (id_rules ms) _ f c.in_ok-id.ensures.0 (fault-here (kind_rules ms) _ f c.in_err-kind.ensures))

pub returns-in_err-start : goal.returns-in_err-start
unfolding id_and_term_rules
returns-in_err-start c =
    let ms = stated c.args.table.now in
    let p = err_from_is_err_and c.from_residual-in_err-start.result c.from_residual-in_err-start.ensures.1 in
    let f = c.in_err-start.field-0.0 in
    rw (p.1, p.2) (fault-later (id_rules ms) _ f c.in_ok-id.ensures.0 (fault-later (kind_rules ms) _ f c.in_ok-kind.ensures.0 (fault-here (start_rules ms) _ f c.in_err-start.ensures)))

pub returns-in_err-hours : goal.returns-in_err-hours
unfolding id_and_term_rules
returns-in_err-hours c =
    let ms = stated c.args.table.now in
    let p = err_from_is_err_and c.from_residual-in_err-hours.result c.from_residual-in_err-hours.ensures.1 in
    let f = c.in_err-hours.field-0.0 in
    rw (p.1, p.2) (fault-later (id_rules ms) _ f c.in_ok-id.ensures.0
    (fault-later (kind_rules ms) _ f c.in_ok-kind.ensures.0 (fault-later (start_rules ms) _ f c.in_ok-start.ensures.0 (fault-here (hours_rules ms) _ f c.in_err-hours.ensures))))

pub returns-in_err-capacity : goal.returns-in_err-capacity
unfolding id_and_term_rules
returns-in_err-capacity c =
    let ms = stated c.args.table.now in
    let p = err_from_is_err_and c.from_residual-in_err-capacity.result c.from_residual-in_err-capacity.ensures.1 in
    let f = c.in_err-capacity.field-0.0 in
    rw (p.1, p.2) (fault-later (id_rules ms) _ f c.in_ok-id.ensures.0
    (fault-later (kind_rules ms) _ f c.in_ok-kind.ensures.0
    (fault-later (start_rules ms) _ f c.in_ok-start.ensures.0 (fault-later (hours_rules ms) (capacity_rules ms) f c.in_ok-hours.ensures.0 c.in_err-capacity.ensures))))

pub returns : goal.returns
unfolding id_and_term_rules
returns c =
    let ms = stated c.args.table.now in
    let none = none-append (id_rules ms) _ c.in_ok-id.ensures.0
    (none-append (kind_rules ms) _ c.in_ok-kind.ensures.0
    (none-append (start_rules ms) _ c.in_ok-start.ensures.0 (none-append (hours_rules ms) (capacity_rules ms) c.in_ok-hours.ensures.0 c.in_ok-capacity.ensures.0))) in (
      none,
      record {
        id = rw c.in_ok-id-2.ensures.ok c.in_ok-id.ensures.1.0;
        id_short = rw c.in_ok-id-2.ensures.ok c.in_ok-id.ensures.1.1;
        kind = c.in_ok-kind.ensures.1;
        start = c.in_ok-start.ensures.1.0;
        start_most = c.in_ok-start.ensures.1.1;
        hours = c.in_ok-hours.ensures.1.0;
        hours_some = c.in_ok-hours.ensures.1.1;
        hours_most = c.in_ok-hours.ensures.1.2;
        capacity = c.in_ok-capacity.ensures.1.0;
        capacity_some = c.in_ok-capacity.ensures.1.1;
      },
    )
