use Rattle.std.proofs.Common.{◌≡◌, ◌++◌, length, take}
use Rattle.std.specs.List.{flat_map}
use Rattle.fw_bytes.specs.Spelling.{number32}
use Rattle.fw_charge.specs.Spelling.{tag}
use Rattle.fw_fields.proofs.writing.put_tags.Given as goal

-- the number and the tags so far are written
abbrev pub invariant-loop-one : goal.invariant-loop-one
invariant-loop-one l = l.out.items ≡ l.fn.out.items ++ (number32 (length l.all) ++ flat_map tag (take l.one-index l.all))
