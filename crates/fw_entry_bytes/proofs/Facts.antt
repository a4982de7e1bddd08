-- Names and numbers of entries as fields.
use Rattle.std.proofs.Common.{ℕ, ◌^◌, ◌<◌, List, length, arith}
use Rattle.std.specs.Prelude.{◌&&◌, nat_lt}
use Rattle.std.specs.List.{list_all}
use Rattle.std.specs.Int.{w64}
use Rattle.std.proofs.lemmas.Bool.{and_parts, ltb-true, lt-ltb}
use Rattle.std.proofs.lemmas.Str.{is_utf8-from_IsUtf8}
use Rattle.fw_bytes.specs.Spelling.{number64, text, FitsText}
use Rattle.fw_bytes.specs.Reading.{number_at}
use Rattle.fw_bytes.proofs.Laws.{IsFormat, checked_format, number_format, wide64, text_format}
use Rattle.fw_entry.specs.Entry.{is_origin, is_origin_byte}
use Rattle.fw_entry.proofs.OriginFacts.{IsUtf8-origin}
use Rattle.fw_entry_bytes.specs.Reading.{origin_at, seq_at, is_seq, IsOrigin, IsSeq}

-- a name is a text that can be written
pub name_fits : (bytes : List ℕ) → IsOrigin bytes → FitsText bytes
unfolding is_origin
name_fits bytes e =
    let p = and_parts (nat_lt 0 (length bytes)) (nat_lt (length bytes) 65 && list_all is_origin_byte bytes) e in
    let q = and_parts (nat_lt (length bytes) 65) (list_all is_origin_byte bytes) p.1 in
    let short : length bytes < 65 = ltb-true _ _ q.0 in
    (lt-ltb _ _ (omega (arith, short)), is_utf8-from_IsUtf8 bytes (IsUtf8-origin bytes e))

pub origin_format : IsFormat origin_at text IsOrigin
unfolding origin_at
origin_format = record {
  takes = λ bytes x is e. let t = (checked_format is_origin text_format).takes bytes x is e in (t.0, t.1.1);
  again = λ name rest h. (checked_format is_origin text_format).again name rest (name_fits name h, h);
}

-- the number of a post that is withdrawn
pub target_format : IsFormat (number_at w64) number64 (λ n. n < 2 ^ 64)
target_format =
    let f = number_format w64 (2 ^ 64) wide64 in
    record {
      takes = λ bytes x is e. let t = f.takes bytes x is e in (t.0, ltb-true _ _ t.1);
      again = λ n rest h. f.again n rest (lt-ltb _ _ h);
    }

pub seq_format : IsFormat seq_at number64 IsSeq
unfolding seq_at
seq_format =
    let f = checked_format is_seq (number_format w64 (2 ^ 64) wide64) in
    record {
      takes = λ bytes x is e. let t = f.takes bytes x is e in (t.0, (ltb-true _ _ t.1.1, ltb-true _ _ t.1.0));
      again = λ n rest h. f.again n rest (lt-ltb _ _ h.1, lt-ltb _ _ h.0);
    }
