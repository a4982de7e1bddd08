-- the tags of the texts so far
use Rattle.std.proofs.Common.{◌≡◌, map, take, string_bytes}
use Rattle.fw_rows.specs.Kept.{tags_kept}
use Rattle.fw_rows.proofs.kept_tags.tags_kept.Given as goal

abbrev pub invariant-loop-index : goal.invariant-loop-index
invariant-loop-index l = l.tags.items ≡ tags_kept (take l.index l.keeps) (take l.index (map string_bytes l.values))
