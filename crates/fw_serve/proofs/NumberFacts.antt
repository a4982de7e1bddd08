-- Numbers that are written, and how many entries a warehouse has at most.
use Rattle.std.proofs.Common.{◌≡◌, ◌∙◌, ◌+◌, ◌/◌, ◌%◌, ◌<◌, ◌≤◌, ◌^◌, ◌++◌, ◌∷◌, [], ℕ, zero, suc, Bool, List, false, length, map, sym, ap, subst, arith, length-append, ⊎_elim}
use Rattle.std.specs.Prelude.{codes, decimal, if◌then◌else◌}
use Rattle.std.specs.Fmt.{digit_glyph, digits, digits_onto}
use Rattle.std.specs.Int.{to_le_bytes}
use Rattle.std.specs.Int.Width.{w32, w64}
use Rattle.std.specs.List.{flat_map}
use Rattle.std.specs.Str.Parse.{digits_value}
use Rattle.std.proofs.Math.Nat.{one-le-pow, pow-suc}
use Rattle.std.proofs.lemmas.Bool.{cases_lt, ne_eqb}
use Rattle.std.proofs.lemmas.Fmt.{decimal_is_IsNumeral_wide, length-decimal-le}
use Rattle.std.proofs.lemmas.List.{append_cancel_left, append_cancel_right, length-map}
use Rattle.fw_disk.specs.declared.volume.Side.{Side}
use Rattle.fw_disk.specs.Volume.{Image}
use Rattle.fw_entry.specs.Entry.{EntryValue}
use Rattle.fw_entry.specs.Spelling.{command, entry}
use Rattle.fw_charge.specs.Charge.{Charge}
use Rattle.fw_journal.proofs.Spelling.{length-sized}
use Rattle.fw_journal.specs.Frames.{open_frame, sized, spelled}
use Rattle.fw_recover.proofs.Files.{length-made}
use Rattle.fw_recover.proofs.Judged.{length-group}
use Rattle.fw_recover.specs.Sides.{generation_of, made_of}
use Rattle.fw_recover.specs.Stands.{SideTells, StandsFor, joined}
use Rattle.fw_script.specs.Lines.{line_feed}
use Rattle.fw_segment.specs.Groups.{group}
use Rattle.fw_segment.specs.Heads.{content, head, heads}
use Rattle.fw_segment.specs.Segments.{segment}
use Rattle.fw_segment.specs.States.{Cut, state}
use Rattle.fw_segment.specs.declared.layout.SegmentLayout.{SegmentLayout}
use Rattle.fw_snapshot.specs.Heads.{HeadValue, head_of}
use Rattle.fw_snapshot.specs.History.{History}
use Rattle.fw_serve.specs.Replies.{accepted_line, already_line, gap_line}

-- ---- a number that is written is one number
-- where there is one digit more, the last one is cut off
onto_more : (k n : ℕ) (after : List ℕ) → 0 < n / 10
    → digits_onto (suc k) 10 false n after
    ≡ digits_onto k 10 false (n / 10) (digit_glyph false (n % 10) ∷ after)
onto_more k n after some =
    let last = digit_glyph false (n % 10) ∷ after in
    ap (λ (b : Bool). if b then last else digits_onto k 10 false (n / 10) last)
    (ne_eqb (n / 10) 0 (λ none. omega (arith, some, none)))

-- a number of more digits than are written has as many as are written
onto_long : (k n : ℕ) (after : List ℕ) → 10 ^ k ≤ n
    → length (digits_onto k 10 false n after) ≡ k + length after
onto_long zero n after large = omega arith
onto_long (suc k) n after large =
    let rest : 10 ^ k ≤ n / 10 = omega (arith, large, pow-suc 10 k) in
    let some : 0 < n / 10 = omega (arith, rest, one-le-pow k 10 (omega arith)) in
    let shorter = onto_long k (n / 10) (digit_glyph false (n % 10) ∷ after) rest in
    let sum : k + length (digit_glyph false (n % 10) ∷ after) ≡ suc k + length after =
    omega arith in
    ap length (onto_more k n after some) ∙ shorter ∙ sum

decimal_long : (n : ℕ) → 10 ^ 64 ≤ n → length (decimal n) ≡ 64
unfolding digits
decimal_long n large = onto_long 64 n [] large

decimal_one : (m n : ℕ) → n < 2 ^ 64 → decimal m ≡ decimal n → m ≡ n
decimal_one m n few same =
    let fits : n < 10 ^ 20 = omega (arith, few) in
    ⊎_elim
    (λ low.
    sym (decimal_is_IsNumeral_wide m low).1 ∙ ap (digits_value 10) same
    ∙ (decimal_is_IsNumeral_wide n (omega (arith, few))).1)
    (λ large.
    let short = length-decimal-le 20 n (omega arith) fits few in
    absurd (omega (arith, decimal_long m large, ap length same, short)))
    (cases_lt m (10 ^ 64))

-- a word, a number and the end of the line
line_one : (word : List ℕ) (m n : ℕ) → n < 2 ^ 64
    → (word ++ decimal m) ++ line_feed ∷ [] ≡ (word ++ decimal n) ++ line_feed ∷ [] → m ≡ n
line_one word m n few same =
    decimal_one m n few (append_cancel_left word (decimal m) (decimal n)
    (append_cancel_right (word ++ decimal m) (word ++ decimal n) (line_feed ∷ []) same))

pub accepted_number : (m n : ℕ) → n < 2 ^ 64 → accepted_line m ≡ accepted_line n → m ≡ n
unfolding accepted_line
accepted_number m n few same = line_one (codes "accepted ") m n few same

pub already_number : (m n : ℕ) → n < 2 ^ 64 → already_line m ≡ already_line n → m ≡ n
unfolding already_line
already_number m n few same = line_one (codes "already ") m n few same

pub gap_number : (m n : ℕ) → n < 2 ^ 64 → gap_line m ≡ gap_line n → m ≡ n
unfolding gap_line
gap_number m n few same = line_one (codes "gap ") m n few same

-- ---- each entry takes a byte at least
as_many : {A : Type 0} (spell : A → List ℕ) (xs : List A) → ((x : A) → 0 < length (spell x))
    → length xs ≤ length (flat_map spell xs)
as_many spell [] some = omega arith
as_many spell (x ∷ xs) some =
    let all : length (flat_map spell (x ∷ xs)) ≡ length (spell x) + length (flat_map spell xs) =
    length-append (spell x) (flat_map spell xs) in
    omega (arith, all, some x, as_many spell xs some)

entry_some : (e : EntryValue) → 0 < length (entry e)
unfolding entry
entry_some e =
    let rest = to_le_bytes w64 e.seq ++ command e.command in
    let front = to_le_bytes w32 (length e.origin) ++ e.origin in
    let all : length (entry e) ≡ length front + length rest = length-append front rest in
    let some : length front ≡ 4 + length e.origin =
    length-append (to_le_bytes w32 (length e.origin)) e.origin in
    omega (arith, all, some)

head_some : (h : HeadValue) → 0 < length (head h)
unfolding head
head_some h =
    let rest = to_le_bytes w64 h.seq ++ content h.content in
    let front = to_le_bytes w32 (length h.origin) ++ h.origin in
    let all : length (head h) ≡ length front + length rest = length-append front rest in
    let some : length front ≡ 4 + length h.origin =
    length-append (to_le_bytes w32 (length h.origin)) h.origin in
    omega (arith, all, some)

in_state : (currency : List ℕ) (hs : List HeadValue) (cut : Cut)
    → length hs ≤ length (state currency hs cut)
unfolding state heads
in_state currency hs cut =
    let front = to_le_bytes w32 (length currency) ++ currency in
    let number = to_le_bytes w64 (length hs) in
    let own = number ++ flat_map head hs in
    let segments = flat_map (λ (s : SegmentLayout × List Charge). segment s.0 s.1) cut in
    let rows = to_le_bytes w32 (length cut) ++ segments in
    let whole : length (state currency hs cut) ≡ length front + length (own ++ rows) =
    length-append front (own ++ rows) in
    let behind : length (own ++ rows) ≡ length own + length rows = length-append own rows in
    let within : length own ≡ 8 + length (flat_map head hs) =
    length-append number (flat_map head hs) in
    omega (arith, whole, behind, within, as_many head hs head_some)

in_log : (groups : List (List EntryValue))
    → length (joined groups) ≤ length (spelled (map group groups))
unfolding spelled
in_log [] = omega arith
in_log (g ∷ groups) =
    let frame = open_frame (group g) in
    let rest = spelled (map group groups) in
    let all : length (spelled (map group (g ∷ groups))) ≡ length frame + length rest =
    length-append frame rest in
    let own : length frame ≡ 1 + length (sized (group g)) = omega arith in
    let sum : length (joined (g ∷ groups)) ≡ length g + length (joined groups) =
    length-append g (joined groups) in
    let few = as_many entry g entry_some in
    omega (arith, all, own, sum, few, length-sized (group g), length-group g, in_log groups)

told_few : (generation : ℕ) (h : History) (file : List ℕ) → SideTells generation h file
    → length h.entries ≤ length file
told_few generation h file tells =
    let es = tells.state.entries in
    let count : length h.entries ≡ length es + length (joined tells.groups) =
    ap (λ (k : History). length k.entries) tells.is_history
    ∙ length-append es (joined tells.groups) in
    let body : length (map head_of es) ≤ length tells.body =
    subst (λ (l : List ℕ). length (map head_of es) ≤ length l) (sym tells.spells.spelled)
    (in_state tells.state.currency (map head_of es) tells.spells.cut) in
    let log =
    ap length tells.tells.is
    ∙ length-append (spelled (map group tells.groups)) (tells.tells.gate ∷ tells.tells.rest) in
    let made = made_of tells.form generation tells.body in
    let long : length (1 ∷ (made ++ tells.log)) ≡ 1 + length (made ++ tells.log) = omega arith in
    let whole : length file ≡ 1 + length (made ++ tells.log) = ap length tells.is ∙ long in
    let parts = length-append made tells.log in
    omega (
      arith,
      count,
      body,
      length-map es head_of,
      in_log tells.groups,
      log,
      whole,
      parts,
      length-made tells.form generation tells.body,
    )

-- two files that keep the limit of a volume hold fewer entries than numbers can count
pub stands_few : (h : History) (c : Image) → StandsFor h c
    → ((side : Side) → length (c side) ≤ 2 ^ 40) → length h.entries < 2 ^ 64
stands_few h c stands short =
    omega (
      arith,
      told_few (generation_of (c stands.side)) h (c stands.side) stands.tells,
      short stands.side,
    )
