-- Values that keep their hash.
use Rattle.std.specs.Prelude.{ℕ, List, fold}
use Rattle.std.specs.Hash.FoldHasher.{initial, write, finish}

-- the hash of a value, by what it writes into a hasher
abbrev pub hash_of : List (List ℕ) → ℕ
hash_of input = finish (fold write initial input)
