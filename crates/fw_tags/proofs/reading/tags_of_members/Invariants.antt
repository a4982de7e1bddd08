use Rattle.fw_tags.proofs.MemberFacts.{ReadTo}
use Rattle.fw_tags.proofs.reading.tags_of_members.Given as goal

abbrev pub invariant-loop-key : goal.invariant-loop-key
invariant-loop-key l = ReadTo l.fn.members.entries l.key-iterator l.tags.items
