-- An entry under another number keeps the limits of an entry.
use Rattle.std.proofs.Common.{◌≡◌, ◌<◌, ◌^◌, ◌++◌, ℕ, length, arith, length-append}
use Rattle.fw_bytes.specs.Spelling.{number64, text}
use Rattle.fw_entry.specs.Entry.{EntryValue}
use Rattle.fw_entry.specs.Spelling.{entry, command, IsEntry}
use Rattle.fw_compact.specs.Compacted.{with_number}

-- each number is written in as many bytes
pub same_length : (n : ℕ) (e : EntryValue) → length (entry (with_number n e)) ≡ length (entry e)
unfolding entry
same_length n e =
    let first = length-append (text e.origin) (number64 n ++ command e.command) in
    let second = length-append (text e.origin) (number64 e.seq ++ command e.command) in
    omega arith

pub is_entry : (n : ℕ) (e : EntryValue) → IsEntry e → 0 < n → n < 2 ^ 64 → IsEntry (with_number n e)
is_entry n e h some fits = record {
  origin = h.origin;
  some_seq = some;
  seq = fits;
  command = h.command;
  size = let size = h.size in rw same_length size;
}
