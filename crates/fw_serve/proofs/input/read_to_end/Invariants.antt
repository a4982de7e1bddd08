use Rattle.std.proofs.Common.{◌≡◌, ◌+◌, length}
use Rattle.std.specs.Io.KnownBytes.{Consumes}
use Rattle.fw_serve.specs.Served.{most_bytes}
use Rattle.fw_serve.proofs.input.read_to_end.Given as goal

-- the script so far is what the reader gave, and there is room for the rest of the most bytes
abbrev pub invariant-loop-script : goal.invariant-loop-script
invariant-loop-script g l = record {
  read : Consumes (g.R.Read.remaining l.fn.reader) (g.R.Read.remaining l.reader) l.script;
  fits : length l.script + l.room ≡ most_bytes;
}

-- each read but the last gives a byte or more
abbrev pub decreases-loop-script : goal.decreases-loop-script
decreases-loop-script g l = l.room
