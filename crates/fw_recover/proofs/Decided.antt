-- Two files of bytes always have a meaning: they stand for a warehouse, or for none, or they are corrupt somewhere.
use Rattle.std.proofs.Common.{◌≡◌, ◌≢◌, ◌⊎◌, inl, inr, ℕ, zero, suc, ◌+◌, ◌-◌, ◌^◌, ◌<◌, ◌≤◌, List, [], ◌∷◌, ◌++◌, length, take, drop, get_or, Result, Ok, Err, refl, sym, ◌∙◌, ap, arith, length-append}
use Rattle.std.proofs.lemmas.Bool.{cases_eq, cases_lt}
use Rattle.std.proofs.lemmas.List.{get_or-take, length-take, length-drop}
use Rattle.std.proofs.lemmas.Nat.{from_le_bytes-to_le_bytes_4}
use Rattle.std.specs.Int.{from_le_bytes, to_le_bytes}
use Rattle.std.specs.Int.Width.{w32, w64}
use Rattle.fw_bytes.specs.Spelling.{number64}
use Rattle.fw_bytes.proofs.Laws.{IsBytes, IsBytes-take, IsBytes-drop, wide32, wide64}
use Rattle.fw_disk.specs.declared.volume.Side.{Side}
use Rattle.fw_disk.specs.declared.volume.Side.TheVariants.{Left, Right}
use Rattle.fw_disk.specs.Volume.{Image, other}
use Rattle.fw_entry.specs.Entry.{EntryValue}
use Rattle.fw_entry_bytes.specs.declared.form.Form.{Form}
use Rattle.fw_entry_bytes.specs.declared.form.Form.TheVariants.{One, Two}
use Rattle.fw_entry_bytes.specs.Whole.{whole}
use Rattle.fw_entry_bytes.proofs.WholeFormat.{whole_takes}
use Rattle.fw_journal.specs.Frames.{open_frame, IsFit, IsBroken}
use Rattle.fw_journal.proofs.Parsing.{short_no_frame, frame_found, broken_short, broken_unfit}
use Rattle.fw_segment.specs.Groups.{group_at}
use Rattle.fw_segment.specs.States.{state_at}
use Rattle.fw_segment.proofs.Histories.{state_taken}
use Rattle.fw_segment.proofs.SegmentFormat.{group_format}
use Rattle.fw_snapshot.specs.History.{History}
use Rattle.fw_snapshot.specs.Judging.{judged, IsLegalAfter}
use Rattle.fw_snapshot.specs.Verdicts.{with_more}
use Rattle.fw_snapshot.specs.declared.verdict.Verdict.{Verdict}
use Rattle.fw_snapshot.specs.declared.verdict.Verdict.TheVariants as verdict
use Rattle.fw_recover.specs.Sides.{magic, generation_of, body_len_of, log_start_of, HasMagic, IsOpen, IsSound}
use Rattle.fw_recover.specs.Stands.{IsNewest, StandsFor}
use Rattle.fw_recover.specs.Corrupt.{IsSigned, LacksAt, LogBreaks, CorruptAt, HasMeaning}
use Rattle.fw_recover.specs.Headers.{HasHeader}
use Rattle.fw_recover.specs.Opening.{GoesNotBehind, GoesBehind, HasGroups, IsClosedAt}
use Rattle.fw_recover.proofs.Found.{bad_frame, no_groups_yet, one_group_more, breaks_there, side_tells, bad_body, bad_log}
use Rattle.fw_recover.proofs.Headers.{field, front_is}
use Rattle.fw_recover.proofs.Standing.{by_side}
use Rattle.fw_recover.proofs.Walks.{IsShut}

-- ---- a header

equal_or_not : (xs ys : List ℕ) → (xs ≡ ys) ⊎ (xs ≢ ys)
equal_or_not [] [] = inl refl
equal_or_not [] (y ∷ ys) = inr (λ same. cc)
equal_or_not (x ∷ xs) [] = inr (λ same. cc)
equal_or_not (x ∷ xs) (y ∷ ys) = elim (cases_eq x y) [
  | inr other_first ↦ inr (λ same. other_first (cc))
  | inl first ↦ elim (equal_or_not xs ys) [
    | inr other_rest ↦ inr (λ same. other_rest (cc))
    | inl rest ↦ inl (cc)
  ]
]

open_or_not : (file : List ℕ) → IsOpen file ⊎ (IsOpen file → ⊥)
open_or_not file = elim (cases_eq (get_or file 0 0) 1) [
  | inr shut ↦ inr (λ is. shut is.gate)
  | inl gate ↦ elim (cases_lt (length file) 26) [
    | inl short ↦ inr (λ is. omega (arith, short, is.long))
    | inr long ↦ inl (record { long = long; gate = gate })
  ]
]

unsigned : (file : List ℕ) (form : Form) → (HasMagic One file → ⊥) → (HasMagic Two file → ⊥) → HasMagic form file → ⊥
unsigned file One not_one not_two is = not_one is
unsigned file Two not_one not_two is = not_two is

signed_or_not : (file : List ℕ) → IsSigned file ⊎ (IsSigned file → ⊥)
signed_or_not file = elim (equal_or_not (take 8 (drop 1 file)) (magic One)) [
  | inl one ↦ inl (One, one)
  | inr not_one ↦ elim (equal_or_not (take 8 (drop 1 file)) (magic Two)) [
    | inl two ↦ inl (Two, two)
    | inr not_two ↦ inr (λ signed. unsigned file signed.0 not_one not_two signed.1)
  ]
]

sound_or_lacks : (file : List ℕ) → IsSound file ⊎ ((at : ℕ) × LacksAt file at)
sound_or_lacks file = elim (signed_or_not file) [
  | inr unlike ↦ inr (1, inl (refl, unlike))
  | inl signed ↦ elim (cases_eq (generation_of file) 0) [
    | inl none ↦ inr (9, inr (inl (refl, signed, none)))
    | inr some ↦ elim (cases_lt (log_start_of file) (length file)) [
      | inl within ↦ inl (record { form = signed.0; magic_is = signed.1; generation = omega (arith, some); gate_within = within })
      | inr past ↦ inr (17, inr (inr (refl, signed, omega (arith, some), past)))
    ]
  ]
]

module _ (file : List ℕ) (bytes : IsBytes file) (is_open : IsOpen file) (sound : IsSound file) where
  spelled_at : (at : ℕ) → at + 8 ≤ length file → number64 (from_le_bytes w64 (take 8 (drop at file))) ≡ take 8 (drop at file)
  spelled_at at within =
      wide64.back (take 8 (drop at file)) (omega (arith, within, length-take 8 (drop at file), length-drop at file)) (IsBytes-take 8 (drop at file) (IsBytes-drop at file bytes))

  header_spelled : take 25 file ≡ 1 ∷ (magic sound.form ++ (number64 (generation_of file) ++ number64 (body_len_of file)))
  unfolding generation_of body_len_of
  header_spelled =
      front_is sound.form (take 25 file) (generation_of file) (body_len_of file) (omega (arith, length-take 25 file, is_open.long))
      (get_or-take 25 file 0 0 (omega arith) ∙ is_open.gate)
      (field file 1 24 (omega arith) (omega arith) ∙ sound.magic_is)
      (spelled_at 9 (omega (arith, is_open.long)) ∙ sym (field file 9 16 (omega arith) (omega arith)))
      (spelled_at 17 (omega (arith, is_open.long)) ∙ sym (field file 17 8 (omega arith) (omega arith)))

  header_there : HasHeader sound.form (generation_of file) (body_len_of file) file
  header_there = record { is_open = is_open; sound = sound; magic_is = sound.magic_is; generation_is = refl; body_len_is = refl; spelled = header_spelled }

body_len_fits : (file : List ℕ) → IsBytes file → body_len_of file < 2 ^ 64
unfolding body_len_of
body_len_fits file bytes = wide64.below (take 8 (drop 17 file)) (IsBytes-take 8 (drop 17 file) (IsBytes-drop 17 file bytes))

-- ---- a frame

-- a whole frame stands first
record HasFrame (bytes : List ℕ) : Type 0 where
  payload : List ℕ
  rest : List ℕ
  fit : IsFit payload
  is : bytes ≡ open_frame payload ++ rest
  are_bytes : IsBytes payload

module _ (bytes : List ℕ) (are : IsBytes bytes) (gate : get_or bytes 0 0 ≡ 1) (long : 5 ≤ length bytes) where
  abbrev n : ℕ
  n = from_le_bytes w32 (take 4 (drop 1 bytes))

  size_is : take 4 (drop 1 bytes) ≡ to_le_bytes w32 n
  size_is = sym (wide32.back (take 4 (drop 1 bytes)) (omega (arith, long, length-take 4 (drop 1 bytes), length-drop 1 bytes)) (IsBytes-take 4 (drop 1 bytes) (IsBytes-drop 1 bytes are)))

  -- the only length that the four bytes can spell
  one_size : (m : ℕ) → m ≤ 8388608 → take 4 (drop 1 bytes) ≡ to_le_bytes w32 m → m ≡ n
  one_size m few is = sym (from_le_bytes-to_le_bytes_4 m (omega (arith, few))) ∙ ap (λ (l : List ℕ). from_le_bytes w32 l) (sym is)

  whole_or_broken : HasFrame bytes ⊎ IsBroken bytes
  whole_or_broken = elim (cases_lt n 1) [
    | inl none ↦ inr (broken_unfit bytes gate (λ m some few within is. omega (arith, none, some, one_size m few is)))
    | inr some ↦ elim (cases_lt 8388608 n) [
      | inl many ↦ inr (broken_unfit bytes gate (λ m least few within is. omega (arith, many, few, one_size m few is)))
      | inr few ↦ elim (cases_lt (length (drop 5 bytes)) n) [
        | inl past ↦ inr (broken_unfit bytes gate (λ m least most within is. omega (arith, past, within, one_size m most is)))
        | inr within ↦ inl (record {
          payload = take n (drop 5 bytes);
          rest = drop n (drop 5 bytes);
          fit = (omega (arith, some, within, length-take n (drop 5 bytes)), omega (arith, few, length-take n (drop 5 bytes)));
          is = frame_found bytes n long gate size_is within;
          are_bytes = IsBytes-take n (drop 5 bytes) (IsBytes-drop 5 bytes are);
        })
      ]
    ]
  ]

frame_or_broken : (bytes : List ℕ) → IsBytes bytes → get_or bytes 0 0 ≡ 1 → HasFrame bytes ⊎ IsBroken bytes
frame_or_broken bytes are gate = elim (cases_lt (length bytes) 5) [
  | inl short ↦ inr (broken_short bytes gate short)
  | inr long ↦ whole_or_broken bytes are gate long
]

-- what stands at a gate
at_gate : (bytes : List ℕ) → IsBytes bytes → IsShut bytes ⊎ (HasFrame bytes ⊎ IsBroken bytes)
at_gate [] are = inr (inr (record { no_closed_gate = λ gate rest is. absurd (cc); no_frame = short_no_frame [] (omega arith) }))
at_gate (b ∷ rest) are = elim (cases_eq b 1) [
  | inr shut ↦ inl (record { gate = b; rest = rest; is = refl; shut = shut })
  | inl gate ↦ inr (frame_or_broken (b ∷ rest) are gate)
]

-- ---- a group

accept_or_not : (v : Verdict) → (v ≡ verdict.Accept) ⊎ (v ≢ verdict.Accept)
accept_or_not verdict.Accept = inl refl
accept_or_not (verdict.Already n) = inr (λ is. cc)
accept_or_not (verdict.Gap n) = inr (λ is. cc)
accept_or_not (verdict.Refused why) = inr (λ is. cc)

legal_or_not : (first es : List EntryValue) → IsLegalAfter first es ⊎ (IsLegalAfter first es → ⊥)
unfolding IsLegalAfter
legal_or_not first [] = inl tt
legal_or_not first (e ∷ es) = elim (accept_or_not (judged first e)) [
  | inr refused ↦ inr (λ legal. refused legal.0)
  | inl accepted ↦ elim (legal_or_not (first ++ e ∷ []) es) [
    | inr illegal ↦ inr (λ legal. illegal legal.1)
    | inl legal ↦ inl (accepted, legal)
  ]
]

read_as : (form : Form) (h : History) (payload : List ℕ) → IsBytes payload → (read : Result (List EntryValue) ℕ) → whole (group_at form) payload ≡ read
    → ((next : History) × GoesBehind form h payload next) ⊎ GoesNotBehind form h.entries payload
read_as form h payload are (Err left) is = inr (inl (left, is))
read_as form h payload are (Ok es) is =
    let found = whole_takes (group_format form) payload es are is in
    elim (legal_or_not h.entries es) [
      | inr illegal ↦ inr (inr (es, is, illegal))
      | inl legal ↦ inl (with_more h es, record { more = es; is_group = found.0; spelled = found.1; legal = legal; is = refl })
    ]

goes_or_not : (form : Form) (h : History) (payload : List ℕ) → IsBytes payload → ((next : History) × GoesBehind form h payload next) ⊎ GoesNotBehind form h.entries payload
goes_or_not form h payload are = read_as form h payload are (whole (group_at form) payload) refl

-- ---- a log

-- a log goes on in groups up to a closed gate
record Ends (form : Form) (state : History) (start : ℕ) (file : List ℕ) : Type 0 where
  now : History
  end : ℕ
  has : HasGroups form state start end file now
  shut : IsClosedAt end file

module _ (form : Form) (state : History) (start : ℕ) (file : List ℕ) (are : IsBytes file) where
  abbrev Decided : Type 0
  Decided = Ends form state start file ⊎ ((at : ℕ) × LogBreaks form state start at file)

  -- from one gate to the next
  one_step : (now : History) (gate : ℕ) → HasGroups form state start gate file now
      → ((payload rest : List ℕ) (next : History) → drop gate file ≡ open_frame payload ++ rest → HasGroups form state start (gate + 5 + length payload) file next → Decided)
      → Decided
  one_step now gate has further = elim (at_gate (drop gate file) (IsBytes-drop gate file are)) [
    | inl shut ↦ inl (record { now = now; end = gate; has = has; shut = record { byte = shut.gate; rest = shut.rest; is = shut.is; shut = shut.shut } })
    | inr (inr broken) ↦ inr (gate, breaks_there form state now start gate file has (inl broken))
    | inr (inl frame) ↦ elim (goes_or_not form now frame.payload frame.are_bytes) [
      | inr bad ↦ inr (gate, breaks_there form state now start gate file has (inr (bad_frame form now.entries (drop gate file) frame.payload frame.rest frame.fit frame.is bad)))
      | inl goes ↦ further frame.payload frame.rest goes.0 frame.is
          (one_group_more form state now goes.0 start gate (gate + 5 + length frame.payload) file frame.payload frame.rest has frame.fit frame.is refl goes.1)
    ]
  ]

  walked : (fuel : ℕ) (now : History) (gate : ℕ) → HasGroups form state start gate file now → length file ≤ gate + fuel → Decided
  walked zero now gate has within = one_step now gate has (λ payload rest next is more.
      absurd (omega (arith, within, length-drop gate file, ap (λ (l : List ℕ). length l) is, length-append (open_frame payload) rest)))
  walked (suc fuel) now gate has within = one_step now gate has (λ payload rest next is more. walked fuel next (gate + 5 + length payload) more (omega (arith, within)))

-- ---- a side

-- the form of the newer side
abbrev form_there : (c : Image) (side : Side) → IsNewest c side → Form
form_there c side newest = (newest.sound side newest.is_open).form

side_decided : (c : Image) (side : Side) → IsBytes (c side) → (newest : IsNewest c side) → (read : Result History ℕ)
    → state_at (form_there c side newest) (take (body_len_of (c side)) (drop 25 (c side))) ≡ read
    → ((h : History) × StandsFor h c) ⊎ ((at : ℕ) × CorruptAt c side at)
side_decided c side are newest (Err left) read =
    let file = c side in
    let header = header_there file are newest.is_open (newest.sound side newest.is_open) in
    let at = 25 + (length (take (body_len_of file) (drop 25 file)) - left) in
    inr (at, bad_body c side side (form_there c side newest) (generation_of file) (body_len_of file) at file refl newest header refl (record { left = left; read = read; place = refl }))
side_decided c side are newest (Ok state) read =
    let file = c side in
    let n = body_len_of file in
    let form = form_there c side newest in
    let header = header_there file are newest.is_open (newest.sound side newest.is_open) in
    let taken = state_taken form (take n (drop 25 file)) state (IsBytes-take n (drop 25 file) (IsBytes-drop 25 file are)) read in
    let spells = taken.0 in
    elim (walked form state (25 + n) file are (length file) state (25 + n) (no_groups_yet form state (25 + n) file spells.history.legal) (omega arith)) [
      | inr breaks ↦ inr (breaks.0, bad_log c side side form (generation_of file) n breaks.0 state file file refl refl newest header spells taken.1 refl breaks.1)
      | inl ends ↦ inl (
        ends.now,
        record {
          side = side;
          newest = newest;
          tells = side_tells file form (generation_of file) n header state ends.now ends.end spells taken.1 ends.has ends.shut (generation_of file) refl (body_len_fits file are);
        },
      )
    ]

-- ---- both sides

module _ (c : Image) (are : (side : Side) → IsBytes (c side)) where
  by_newest : (side : Side) → IsNewest c side → HasMeaning c
  by_newest side newest = elim (side_decided c side (are side) newest (state_at (form_there c side newest) (take (body_len_of (c side)) (drop 25 (c side)))) refl) [
    | inl stands ↦ inl stands
    | inr corrupt ↦ inr (inr (side, corrupt.0, corrupt.1))
  ]

  alone : (side : Side) → IsOpen (c side) → IsSound (c side) → (IsOpen (c (other side)) → ⊥) → IsNewest c side
  alone side is_open sound closed = record {
    sound = by_side (λ s. IsOpen (c s) → IsSound (c s)) side (λ _. sound) (λ is. absurd (closed is));
    is_open = is_open;
    newest = λ is. absurd (closed is);
  }

  newer : (side : Side) → IsOpen (c side) → IsSound (c side) → IsSound (c (other side)) → generation_of (c (other side)) < generation_of (c side) → IsNewest c side
  newer side is_open sound also older = record {
    sound = by_side (λ s. IsOpen (c s) → IsSound (c s)) side (λ _. sound) (λ _. also);
    is_open = is_open;
    newest = λ _. older;
  }

  by_generation : IsOpen (c Left) → IsSound (c Left) → IsOpen (c Right) → IsSound (c Right) → HasMeaning c
  by_generation left sound right also = elim (cases_eq (generation_of (c Left)) (generation_of (c Right))) [
    | inl same ↦ inr (inr (
      Right,
      9,
      inr (inl (record {
        place = (refl, refl);
        both = by_side (λ s. IsOpen (c s) × IsSound (c s)) Left (left, sound) (right, also);
        same = same;
      })),
    ))
    | inr different ↦ elim (cases_lt (generation_of (c Left)) (generation_of (c Right))) [
      | inl older ↦ by_newest Right (newer Right right also sound older)
      | inr younger ↦ by_newest Left (newer Left left sound also (omega (arith, different, younger)))
    ]
  ]

  right_only : (IsOpen (c Left) → ⊥) → HasMeaning c
  right_only closed = elim (open_or_not (c Right)) [
    | inr none ↦ inr (inl (by_side (λ s. IsOpen (c s) → ⊥) Left closed none))
    | inl right ↦ elim (sound_or_lacks (c Right)) [
      | inr lacks ↦ inr (inr (Right, lacks.0, inl (record { is_open = right; lacks = lacks.1; left_first = λ _ is. absurd (closed is) })))
      | inl sound ↦ by_newest Right (alone Right right sound closed)
    ]
  ]

  with_left : IsOpen (c Left) → IsSound (c Left) → HasMeaning c
  with_left left sound = elim (open_or_not (c Right)) [
    | inr closed ↦ by_newest Left (alone Left left sound closed)
    | inl right ↦ elim (sound_or_lacks (c Right)) [
      | inr lacks ↦ inr (inr (Right, lacks.0, inl (record { is_open = right; lacks = lacks.1; left_first = λ _ _. sound })))
      | inl also ↦ by_generation left sound right also
    ]
  ]

  pub has_meaning : HasMeaning c
  has_meaning = elim (open_or_not (c Left)) [
    | inr closed ↦ right_only closed
    | inl left ↦ elim (sound_or_lacks (c Left)) [
      | inr lacks ↦ inr (inr (Left, lacks.0, inl (record { is_open = left; lacks = lacks.1; left_first = λ is. absurd (cc) })))
      | inl sound ↦ with_left left sound
    ]
  ]
