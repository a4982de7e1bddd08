use Rattle.fw_fields.proofs.RowFacts.{is_tags}
use Rattle.fw_fields.proofs.rules.tags_in_order.Goals as goal

pub of_fields-requires : goal.of_fields-requires
of_fields-requires c = is_tags c.args.items.items c.requires.within c.requires.rising
