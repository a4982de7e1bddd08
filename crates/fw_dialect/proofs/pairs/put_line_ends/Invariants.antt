use Rattle.std.proofs.Common.{◌≡◌, ◌++◌, drop}
use Rattle.fw_dialect.specs.Tags.{line_ends}
use Rattle.fw_dialect.proofs.pairs.put_line_ends.Given as goal

abbrev pub invariant-loop-byte : goal.invariant-loop-byte
invariant-loop-byte l = l.out.items ++ line_ends (drop l.byte-index l.text) ≡ l.fn.out.items ++ line_ends l.text
