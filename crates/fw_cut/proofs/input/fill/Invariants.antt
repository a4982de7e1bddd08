use Rattle.std.proofs.Common.{◌≡◌, ℕ, ◌-◌, List, ◌++◌, length}
use Rattle.std.specs.Io.KnownBytes.{Consumes}
use Rattle.fw_cut.proofs.input.fill.Given as goal

-- what was read so far stands behind what was there
abbrev pub invariant-loop-reader : goal.invariant-loop-reader
invariant-loop-reader g l = (more : List ℕ) × (l.text.items ≡ l.fn.text.items ++ more) × Consumes (g.R.Read.remaining l.fn.reader) (g.R.Read.remaining l.reader) more

-- each read but the last gives a byte or more
abbrev pub decreases-loop-reader : goal.decreases-loop-reader
decreases-loop-reader g l = l.enough - length l.text.items
