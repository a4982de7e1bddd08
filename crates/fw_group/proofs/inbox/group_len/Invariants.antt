use Rattle.std.proofs.Common.{◌≡◌, ◌≤◌, length, take}
use Rattle.fw_segment.specs.Groups.{group}
use Rattle.fw_group.specs.Items.{entries_of}
use Rattle.fw_group.proofs.inbox.group_len.Given as goal

abbrev pub invariant-loop-n : goal.invariant-loop-n
invariant-loop-n l =
    record {
      bytes : l.bytes ≡ length (group (entries_of (take l.n l.items.items)));
      small : (l.bytes ≤ 8388608) × (l.n ≤ 64);
    }
