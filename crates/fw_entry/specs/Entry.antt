-- Entries as plain values.
use Rattle.std.specs.Prelude.{◌≤◌, ◌<◌, ℕ, Bool, ◌&&◌, ◌||◌, ◌==◌, List, length, nat_lt, IsTrue}
use Rattle.std.specs.Char.{is_ascii_alphanumeric}
use Rattle.std.specs.List.{list_all}
use Rattle.fw_charge.specs.Charge.{Charge}
use Rattle.fw_terms.specs.Commitment.{CommitmentValue}
use Rattle.fw_terms.specs.Policy.{PolicyValue}
use Rattle.fw_terms.specs.Added.{AddedValue}

-- what an entry asks for: these rows are charged, this is committed to, this policy holds from now on, the post with this number of the same sender
-- counts no more, or this purchase is added to a commitment that was made before
pub data CommandValue : Type 0 where
  post : List Charge → CommandValue
  commit : CommitmentValue → CommandValue
  set_policy : PolicyValue → CommandValue
  withdraw : ℕ → CommandValue
  add_purchase : AddedValue → CommandValue

-- a command, who sent it, and its number among those of this sender, counted from 1
pub record EntryValue : Type 0 where
  pub origin : List ℕ
  pub seq : ℕ
  pub command : CommandValue

abbrev pub most_origin_bytes : ℕ
most_origin_bytes = 64

-- a letter or a digit of ASCII, `-`, `_` or `.`
abbrev pub is_origin_byte : ℕ → Bool
is_origin_byte b = is_ascii_alphanumeric b || (b == 45 || (b == 95 || b == 46))

-- 1 to 64 of these bytes
unfoldable pub is_origin : List ℕ → Bool
is_origin bytes = nat_lt 0 (length bytes) && (nat_lt (length bytes) 65 && list_all is_origin_byte bytes)
