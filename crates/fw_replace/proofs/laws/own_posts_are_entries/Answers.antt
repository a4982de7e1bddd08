use Rattle.fw_replace.proofs.OwnFacts.{is_entry}
use Rattle.fw_replace.proofs.laws.own_posts_are_entries.Goals as goal

pub returns : goal.returns
returns c = is_entry
