-- the tags so far are below the one that is put among them
use Rattle.std.proofs.Common.{◌≡◌, ◌++◌, drop, take}
use Rattle.fw_rows.specs.Kept.{with_tag}
use Rattle.fw_rows.proofs.kept_tags.put_tag.Given as goal

abbrev pub invariant-loop-index : goal.invariant-loop-index
invariant-loop-index l = record {
  same : l.tags.items ≡ l.fn.tags.items;
  passed : with_tag l.tag l.fn.tags.items ≡ take l.index l.fn.tags.items ++ with_tag l.tag (drop l.index l.fn.tags.items);
}
