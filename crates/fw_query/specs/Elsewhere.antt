-- Posts that have no row in a range of hours.
use Rattle.std.specs.Prelude.{◌≡◌, ℕ, List, []}
use Rattle.std.specs.List.{All}
use Rattle.fw_entry.specs.Entry.{EntryValue}
use Rattle.fw_snapshot.specs.History.{posted}
use Rattle.fw_query.specs.Accounted.{rows_between}

-- what this sender sent under this number has no row in the hours from `from` up to, and not including, `to`
abbrev pub HasNoRowBetween : ℕ → ℕ → List ℕ → ℕ → List EntryValue → Type 0
HasNoRowBetween from to origin seq entries = All (λ e. e.origin ≡ origin → e.seq ≡ seq → rows_between from to (posted e.command) ≡ []) entries
