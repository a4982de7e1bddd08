use Rattle.fw_select.proofs.RowFacts.{tags_agree}
use Rattle.fw_select.proofs.codes.codes_of_tag.Goals as goal

pub returns : goal.returns
returns c = tags_agree c.args.segment.now c.in_ok-codes.codes.items c.args.key c.in_ok-codes.ensures.codes c.in_ok-codes.ensures.agree
