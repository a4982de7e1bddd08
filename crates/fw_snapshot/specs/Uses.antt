-- How often each id is in use: counts that a later entry can add to or take from.
use Rattle.std.specs.Prelude.{ℕ, ◌&&◌, List, length, filter}
use Rattle.std.specs.Str.{bytes_eq}
use Rattle.fw_terms.specs.Commitment.{CommitmentValue}
use Rattle.fw_entry.specs.Entry.{EntryValue}
use Rattle.fw_snapshot.specs.History.{posted, is_withdrawn}
use Rattle.fw_snapshot.specs.Judging.{carries}

-- how many posts have a row that carries the id: a post counts once, however many of its rows do
unfoldable pub posts_with : List ℕ → List EntryValue → ℕ
posts_with id entries = length (filter (λ e. carries id (posted e.command)) entries)

-- how many posts that are withdrawn have a row that carries the id
unfoldable pub withdrawn_with : List ℕ → List EntryValue → ℕ
withdrawn_with id entries = length (filter (λ e. is_withdrawn entries e.origin e.seq && carries id (posted e.command)) entries)

-- how many commitments have the id
unfoldable pub commitments_with : List ℕ → List CommitmentValue → ℕ
commitments_with id commitments = length (filter (λ c. bytes_eq id c.id) commitments)
