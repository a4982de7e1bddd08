-- The tags so far have been copied.
use Rattle.std.proofs.Common.{◌≡◌, take}
use Rattle.fw_charge.proofs.tags.copies.Given as goal

abbrev pub invariant-loop-tag : goal.invariant-loop-tag
invariant-loop-tag l = l.copies.items ≡ take l.tag-index l.tags
