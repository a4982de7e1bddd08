-- A warehouse as it was.
use Rattle.std.specs.Prelude.{ℕ, take}
use Rattle.fw_snapshot.specs.History.{History}

-- a warehouse as it was after so many entries: it had the first ones, or all where there are fewer
abbrev pub as_of : ℕ → History → History
as_of count h = record { currency = h.currency; entries = take count h.entries }
