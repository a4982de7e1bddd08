-- the tags so far are copies, and then have those that were put among them
use Rattle.std.proofs.Common.{◌≡◌, take}
use Rattle.fw_rows.specs.Kept.{with_tags}
use Rattle.fw_rows.proofs.kept_tags.merged.Given as goal

abbrev pub invariant-loop-tag : goal.invariant-loop-tag
invariant-loop-tag l = l.merged.items ≡ take l.tag-index l.tags-2

abbrev pub invariant-loop-tag-2 : goal.invariant-loop-tag-2
invariant-loop-tag-2 l = with_tags l.tag-iterator.rest.items l.merged.items ≡ with_tags l.fn.added.items l.fn.tags
