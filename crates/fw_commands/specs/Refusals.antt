-- Answers that refuse an entry, byte by byte as they are written.
use Rattle.std.specs.Prelude.{◌==◌, ◌||◌, ◌+◌, ◌-◌, ◌*◌, ◌%◌, ◌^◌, ◌++◌, ◌∷◌, [], ℕ, Bool, false, not, nat_eq, nat_lt, min, List, length, drop, codes, if◌then◌else◌}
use Rattle.std.specs.List.{fold, starts_with}

-- what is known of what was written: the first bytes of the answer that has begun, how many bytes of a text are still to come, and how
-- many answers refuse; also whether each line starts with a number and a space, and whether the space of this one is still to come
pub record Seen : Type 0 where
  pub is_numbered : Bool
  pub in_number : Bool
  pub line : List ℕ
  pub text_left : ℕ
  pub count : ℕ

-- nothing was written
abbrev pub start : Bool → Seen
start is_numbered = record { is_numbered = is_numbered; in_number = is_numbered; line = []; text_left = 0; count = 0 }

-- whether an answer starts with these words
abbrev pub begins : List ℕ → List ℕ → Bool
begins answer words = starts_with nat_eq answer words

-- whether an answer refuses an entry; a question is refused by a code that starts with Q
unfoldable pub is_refusal : List ℕ → Bool
is_refusal answer =
    if begins answer (codes "refused Q") then false
    else (begins answer (codes "refused ") || (begins answer (codes "gap ")
    || (begins answer (codes "bad command") || (begins answer (codes "bad end") || (begins answer (codes "store ")
    || (begins answer (codes "no memory") || (begins answer (codes "unknown") || begins answer (codes "closed"))))))))

-- a number with one digit more, modulo 2^64
abbrev pub with_digit : ℕ → ℕ → ℕ
with_digit number digit = (number * 10 % 2 ^ 64 + (digit - 48)) % 2 ^ 64

-- how many bytes the text behind an answer's line has
unfoldable pub text_len : List ℕ → ℕ
text_len answer = if begins answer (codes "bytes ") then fold with_digit 0 (drop 6 answer) else 0

-- a line is whole
abbrev pub with_line : Seen → Seen
with_line seen = record {
  is_numbered = seen.is_numbered;
  in_number = seen.is_numbered;
  line = [];
  text_left = text_len seen.line;
  count = if is_refusal seen.line then min (seen.count + 1) (2 ^ 64 - 1) else seen.count;
}

-- a byte was written: of a text, the end of a line, or of a line, whose first 32 bytes are kept
unfoldable pub with_byte : Seen → ℕ → Seen
with_byte seen byte =
    if nat_lt 0 seen.text_left then record seen { text_left = seen.text_left - 1 }
    else if byte == 10 then with_line seen
    else if seen.in_number then record seen { in_number = not (byte == 32) }
    else if nat_lt (length seen.line) 32 then record seen { line = seen.line ++ byte ∷ [] } else seen

-- these bytes were written
abbrev pub after : Seen → List ℕ → Seen
after seen written = fold with_byte seen written
