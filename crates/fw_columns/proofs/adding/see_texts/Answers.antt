use Rattle.fw_columns.proofs.AddFacts.{seen_in_turn, codes_in_turn}
use Rattle.fw_columns.proofs.adding.see_texts.Goals as goal

pub returns-clause-seen : goal.returns-clause-seen
returns-clause-seen c =
    seen_in_turn c.args.row.now c.args.names.now c.see_code.new.names c.see_code-2.new.names c.see_code-3.new.names c.see_code-4.new.names
    c.in_ok-discount.ensures.seen c.in_ok-unit.ensures.seen c.in_ok-sku.ensures.seen c.in_ok-sub_account.ensures.seen

pub returns-clause-codes : goal.returns-clause-codes
returns-clause-codes c =
    codes_in_turn c.args.row.now c.args.names.now c.see_code.new.names c.see_code-2.new.names c.see_code-3.new.names c.see_code-4.new.names
    c.in_ok-discount.ensures.seen c.in_ok-unit.ensures.seen c.in_ok-sku.ensures.seen c.in_ok-sub_account.ensures.seen
    (record { discount = c.in_ok-discount.discount; unit = c.in_ok-unit.unit; sku = c.in_ok-sku.sku; sub_account = c.in_ok-sub_account.sub_account })
    c.in_ok-discount.ensures.code c.in_ok-unit.ensures.code c.in_ok-sku.ensures.code c.in_ok-sub_account.ensures.code
