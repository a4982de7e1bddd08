use Rattle.fw_charge.proofs.TagFacts.{no-tags}
use Rattle.fw_charge.proofs.tags.Tags.empty.Goals as goal

-- src/tags.rt:76:5
pub invariant_of-result : goal.invariant_of-result
invariant_of-result c = rw c.new.ensures.items no-tags
