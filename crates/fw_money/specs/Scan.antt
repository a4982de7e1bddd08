-- How a text is taken apart from the front. The private functions of the reader cite it; what a text reads as is said without it.
use Rattle.std.specs.Prelude.{ℕ, ◌+◌, Bool, ◌==◌, ◌||◌, ◌&&◌, nat_lt, if◌then◌else◌, List, [], ◌∷◌, take, drop, length}
use Rattle.std.specs.List.{prefix_len}
use Rattle.std.specs.Char.{is_ascii_digit}
use Rattle.fw_money.specs.Number.{Parts}

-- how many bytes of a sign, of digits, of a point, of an exponent's mark stand at the front
abbrev pub sign_len : List ℕ → ℕ
sign_len [] = 0
sign_len (c ∷ rest) = if (c == 43) || (c == 45) then 1 else 0

abbrev pub run_len : List ℕ → ℕ
run_len text = prefix_len is_ascii_digit text

abbrev pub point_len : List ℕ → ℕ
point_len [] = 0
point_len (c ∷ rest) = if c == 46 then 1 else 0

abbrev pub mark_len : List ℕ → ℕ
mark_len [] = 0
mark_len (c ∷ rest) = if (c == 101) || (c == 69) then 1 else 0

-- the rest of a text behind each part
abbrev pub past_sign : List ℕ → List ℕ
past_sign t = drop (sign_len t) t

abbrev pub past_run : List ℕ → List ℕ
past_run t = drop (run_len t) t

abbrev pub past_point : List ℕ → List ℕ
past_point t = drop (point_len t) t

abbrev pub past_mark : List ℕ → List ℕ
past_mark t = drop (mark_len t) t

-- the one way to take a text apart, if it is a number text
unfoldable pub scan : List ℕ → Parts
scan text =
    let t1 = past_sign text in
    let t2 = past_run t1 in
    let t3 = past_point t2 in
    let t4 = past_run t3 in
    let t5 = past_mark t4 in
    record {
      sign = take (sign_len text) text;
      whole = take (run_len t1) t1;
      point = take (point_len t2) t2;
      fraction = take (run_len t3) t3;
      mark = take (mark_len t4) t4;
      exponent_sign = take (sign_len t5) t5;
      exponent = past_sign t5;
    }

-- whether the exponent is there with its digits, or not there at all
abbrev pub is_exponent_whole : Parts → Bool
is_exponent_whole p = if length p.mark == 0 then (length p.exponent_sign == 0) && (length p.exponent == 0) else nat_lt 0 (length p.exponent)

-- whether the parts of `scan` are those of a number text
abbrev pub is_number : Parts → Bool
is_number p = nat_lt 0 (length p.whole + length p.fraction) && ((run_len p.exponent == length p.exponent) && is_exponent_whole p)
