use Rattle.std.proofs.Common.{append_assoc}
use Rattle.fw_bytes.specs.Spelling.{number32}
use Rattle.fw_row_table.specs.Codes.{text_code}
use Rattle.fw_row_table.specs.Texts.{names_of}
use Rattle.fw_column_bytes.specs.Spelling.{texts}
use Rattle.fw_column_bytes.proofs.Copied.{copied}
use Rattle.fw_column_bytes.proofs.writing.put_texts.Goals as goal

pub returns : goal.returns
unfolding texts
returns c =
    let names = names_of c.args.rows.now in
    let units = copied number32 (λ r. text_code names r.unit) c.args.rows.now c.units.result.now c.units.ensures in
    let skus = copied number32 (λ r. text_code names r.sku) c.args.rows.now c.skus.result.now c.skus.ensures in
    let accounts = copied number32 (λ r. text_code names r.sub_account) c.args.rows.now c.sub_accounts.result.now c.sub_accounts.ensures in
    rw (c.in_ok-put_codes-3.ensures, c.in_ok-put_codes-2.ensures, c.in_ok-put_codes.ensures, units, skus, accounts) (simp append_assoc)
