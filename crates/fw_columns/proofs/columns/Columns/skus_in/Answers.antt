use Rattle.std.proofs.Common.{◌∙◌}
use Rattle.fw_columns.proofs.columns.Columns.skus_in.Goals as goal

pub codes_in-requires : goal.codes_in-requires
codes_in-requires c = c.by_sku.ensures.run c.args.number c.requires

pub returns : goal.returns
returns c = c.codes_in.ensures ∙ c.by_sku.ensures.codes c.args.number c.requires
