use Rattle.std.proofs.Common.{◌≡◌, ◌+◌, ℕ, List, ◌++◌, length}
use Rattle.std.specs.Io.KnownBytes.{Consumes}
use Rattle.fw_cut.proofs.input.read_piece.Given as goal

-- what was read so far stands behind what was there, and is a whole piece with the room that is left
abbrev pub invariant-loop-room : goal.invariant-loop-room
invariant-loop-room g l = (more : List ℕ) × (l.text.items ≡ l.fn.text.items ++ more) × Consumes (g.R.Read.remaining l.fn.reader) (g.R.Read.remaining l.reader) more
    × (length more + l.room ≡ 65536)

-- each read but the last gives a byte or more
abbrev pub decreases-loop-room : goal.decreases-loop-room
decreases-loop-room g l = l.room
