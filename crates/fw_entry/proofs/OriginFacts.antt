-- The name of an origin is a text.
use Rattle.std.proofs.Common.{◌≡◌, ℕ, ◌<◌, true, List, length, arith}
use Rattle.std.specs.Prelude.{◌&&◌, nat_lt}
use Rattle.std.specs.List.{list_all}
use Rattle.std.specs.Str.{IsAscii, IsUtf8}
use Rattle.std.proofs.lemmas.Bool.{and_parts}
use Rattle.std.proofs.lemmas.List.Sums.{AllPass-from_list_all}
use Rattle.std.proofs.lemmas.List.Elements.{All-weaker}
use Rattle.std.proofs.lemmas.Str.{IsUtf8-from_ascii}
use Rattle.std.proofs.lemmas.Str.Ascii.{IsAscii-from_all}
use Rattle.fw_entry.specs.Entry.{is_origin, is_origin_byte}

-- each byte of a name is ASCII
origin_byte_is_ascii : (b : ℕ) → is_origin_byte b ≡ true → b < 128
origin_byte_is_ascii b e = grind arith

pub IsUtf8-origin : (bytes : List ℕ) → is_origin bytes ≡ true → IsUtf8 bytes
unfolding is_origin
IsUtf8-origin bytes e =
    let p = and_parts (nat_lt 0 (length bytes)) (nat_lt (length bytes) 65 && list_all is_origin_byte bytes) e in
    let q = and_parts (nat_lt (length bytes) 65) (list_all is_origin_byte bytes) p.1 in
    IsUtf8-from_ascii bytes (IsAscii-from_all bytes (All-weaker (λ b. is_origin_byte b ≡ true) (λ b. b < 128) origin_byte_is_ascii bytes (AllPass-from_list_all is_origin_byte bytes q.1)))
