use Rattle.fw_rows.proofs.KeptLaw.{plain_row}
use Rattle.fw_rows.proofs.laws.kept_columns_add_tags.Goals as goal

pub returns : goal.returns
returns c = plain_row c.args.currency c.args.keeps.now
