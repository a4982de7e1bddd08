-- The digest of a warehouse.
use Rattle.std.specs.Prelude.{◌≡◌, ◌≢◌, ◌++◌, ℕ, List, All, length}
use Rattle.std.specs.List.{flat_map}
use Rattle.sha2.specs.Sha256.{sha256}
use Rattle.fw_entry.specs.Spelling.{IsEntry, entry}
use Rattle.fw_snapshot.specs.History.{History}

-- what is digested: the three letters of the currency, and the bytes of each entry, in order
unfoldable pub message : History → List ℕ
message h = h.currency ++ flat_map entry h.entries

-- the digest of a warehouse: the SHA-256 of that
unfoldable pub digest_of : History → List ℕ
digest_of h = sha256 (message h)

-- what each warehouse has: a currency of three letters, and entries that keep their limits
pub record IsWarehouse (h : History) : Type 0 where
  pub letters : length h.currency ≡ 3
  pub each : All IsEntry h.entries

-- two different messages with one SHA-256
pub record IsCollision (first second : List ℕ) : Type 0 where
  pub differ : first ≢ second
  pub same : sha256 first ≡ sha256 second
