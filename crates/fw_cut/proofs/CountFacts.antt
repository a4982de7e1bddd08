-- How many records a text has in which no byte ends one.
use Rattle.std.proofs.Common.{◌≡◌, ◌⊎◌, ◌<◌, ◌≤◌, ◌+◌, ◌==◌, ℕ, Bool, true, false, Option, Some, None, List, [], ◌∷◌, take, drop, length, refl, sym, ap, ◌∙◌, arith, inl, inr, if◌then◌else◌, ◌-◌, length-append, length-drop, take-append-drop, take_all}
use Rattle.std.proofs.lemmas.Bool.{cases_Bool}
use Rattle.std.proofs.Math.Seq.{drop-append_seam}
use Rattle.std.specs.Prelude.{⊤}
use Rattle.std.specs.List.{list_any}
use Rattle.std.specs.Io.KnownBytes.{IsAtEnd}
use Rattle.csv.specs.Machine.{Feeds, step, is_end, fields_after, field_after, ends_at_end}
use Rattle.csv.specs.Reading.{default_config}
use Rattle.csv.specs.declared.parser.State.{State}
use Rattle.csv.specs.declared.parser.State.TheVariants as st
use Rattle.fw_cut.specs.Records.{Record, all_records, is_content}
use Rattle.fw_cut.specs.Cutting.{Cuts, HasNoEnd}
use Rattle.fw_cut.specs.Headers.{head_of, records_but}
use Rattle.fw_cut.specs.Parts.{Counted, IsPart, RecordsThen, body_of, most_records}
use Rattle.fw_cut.specs.declared.cutter.Part.{Part}
use Rattle.fw_cut.specs.declared.cutting.Cut.{Cut}
use Rattle.fw_cut.proofs.HeaderFacts.{but-of-none}
use Rattle.fw_cut.proofs.RecordFacts.{no-end-count}

-- a record has begun
abbrev inside : State → Bool
inside st.StartRecord = false
inside st.AfterCr = false
inside st.StartField = true
inside st.InField = true
inside st.InQuoted = true
inside st.AfterQuote = true
inside st.InEscape = false
inside st.InComment = false

inside-ends : (s : State) → inside s ≡ true → ends_at_end s ≡ true
inside-ends st.StartRecord e = cc e
inside-ends st.AfterCr e = cc e
inside-ends st.StartField e = refl
inside-ends st.InField e = refl
inside-ends st.InQuoted e = refl
inside-ends st.AfterQuote e = refl
inside-ends st.InEscape e = cc e
inside-ends st.InComment e = cc e

-- ---- a byte that ends no record

in-field-stays : (c : ℕ) → is_end (step default_config st.InField c).1 ≡ false → inside (step default_config st.InField c).0 ≡ true
in-field-stays c h = elim (cases_Bool (c == 44)) [
  | inl e ↦ rw e refl
  | inr e ↦ elim (cases_Bool (c == 13)) [
    | inl r ↦ let k : true ≡ false = rw (e, r) at h in cc k
    | inr r ↦ elim (cases_Bool (c == 10)) [
      | inl l ↦ let k : true ≡ false = rw (e, r, l) at h in cc k
      | inr l ↦ rw (e, r, l) refl
    ]
  ]
]

stays : (s : State) (c : ℕ) → inside s ≡ true → is_end (step default_config s c).1 ≡ false → inside (step default_config s c).0 ≡ true
stays st.StartRecord c e h = cc e
stays st.AfterCr c e h = cc e
stays st.StartField c e h = elim (cases_Bool (c == 34)) [ inl q ↦ rw q refl | inr q ↦ rw q (in-field-stays c (rw q at h)) ]
stays st.InField c e h = in-field-stays c h
stays st.InQuoted c e h = elim (cases_Bool (c == 34)) [ inl q ↦ rw q refl | inr q ↦ rw q refl ]
stays st.AfterQuote c e h = elim (cases_Bool (c == 34)) [ inl q ↦ rw q refl | inr q ↦ rw q (in-field-stays c (rw q at h)) ]
stays st.InEscape c e h = cc e
stays st.InComment c e h = cc e

stays-inside : (s to : State) (f f2 : Record) (p p2 x : List ℕ) → inside s ≡ true → Feeds default_config s f p x to f2 p2 false → inside to ≡ true
unfolding Feeds
stays-inside s to f f2 p p2 [] e h = rw h.0 e
stays-inside s to f f2 p p2 (c ∷ x) e h = elim (cases_Bool (is_end (step default_config s c).1)) [
  | inl n ↦ let k = rw n at h in cc k.4
  | inr n ↦ let k = rw n at h in
      stays-inside (step default_config s c).0 to (fields_after (step default_config s c).1 f p) f2 (field_after (step default_config s c).1 c p) p2 x (stays s c e n) k
]

-- ---- before a record

passed : (c : ℕ) → is_content c ≡ false → ((step default_config st.StartRecord c).0 ≡ st.StartRecord) × (is_end (step default_config st.StartRecord c).1 ≡ false)
passed c h = elim (cases_Bool (c == 13)) [
  | inl r ↦ rw r (refl, refl)
  | inr r ↦ elim (cases_Bool (c == 10)) [
    | inl l ↦ rw (r, l) (refl, refl)
    | inr l ↦ let k : true ≡ false = rw (r, l) at h in cc k
  ]
]

begun : (c : ℕ) → is_content c ≡ true → (inside (step default_config st.StartRecord c).0 ≡ true) × (is_end (step default_config st.StartRecord c).1 ≡ false)
begun c h = elim (cases_Bool (c == 13)) [
  | inl r ↦ elim (cases_Bool (c == 10)) [ inl l ↦ let k : false ≡ true = rw (r, l) at h in cc k | inr l ↦ let k : false ≡ true = rw (r, l) at h in cc k ]
  | inr r ↦ elim (cases_Bool (c == 10)) [
    | inl l ↦ let k : false ≡ true = rw (r, l) at h in cc k
    | inr l ↦ elim (cases_Bool (c == 34)) [
      | inl q ↦ rw (r, l, q) (refl, refl)
      | inr q ↦ elim (cases_Bool (c == 44)) [ inl m ↦ rw (r, l, q, m) (refl, refl) | inr m ↦ rw (r, l, q, m) (refl, refl) ]
    ]
  ]
]

-- the end of the text ends a record where a byte of one was read
open-at-end : (to : State) (f f2 : Record) (p p2 x : List ℕ) → Feeds default_config st.StartRecord f p x to f2 p2 false → ends_at_end to ≡ list_any is_content x
unfolding Feeds
open-at-end to f f2 p p2 [] h = rw h.0 refl
open-at-end to f f2 p p2 (c ∷ x) h = elim (cases_Bool (is_content c)) [
  | inl e ↦
      let b = begun c e in
      let k = rw b.1 at h in
      rw e (inside-ends to (stays-inside (step default_config st.StartRecord c).0 to (fields_after (step default_config st.StartRecord c).1 f p) f2 (field_after (step default_config st.StartRecord c).1 c p) p2 x b.0 k))
  | inr e ↦
      let b = passed c e in
      let k = rw b.0 at (rw b.1 at h) in
      rw e (open-at-end to (fields_after (step default_config st.StartRecord c).1 f p) f2 (field_after (step default_config st.StartRecord c).1 c p) p2 x k)
]

pub open-count : (x : List ℕ) → HasNoEnd x → length (all_records x) ≡ (if list_any is_content x then 1 else 0)
open-count x h = no-end-count x h.to h.fields h.field h.fed ∙ ap (λ b. if b then 1 else 0) (open-at-end h.to [] h.fields [] h.field x h.fed)

-- ---- the records of a text that has as many as a part at most

-- the bytes of a slice that begins at a place
pub rest-is : (text : List ℕ) (n : ℕ) → take (length text - n) (drop n text) ≡ drop n text
rest-is text n = take_all (length text - n) (drop n text) (omega (arith, length-drop n text))

split : (text : List ℕ) (cut : Cut) → Cuts text most_records cut → length (all_records text) ≡ cut.records + length (all_records (drop cut.end text))
split text cut c =
    let both = ap (λ l. length (all_records l)) (sym (take-append-drop cut.end text)) ∙ ap length (c.whole (drop cut.end text)) ∙ length-append (all_records (take cut.end text)) (all_records (drop cut.end text)) in
    omega (arith, both, c.count)

pub count-more : (text : List ℕ) (cut : Cut) → Cuts text most_records cut → cut.records < most_records → list_any is_content (drop cut.end text) ≡ true → cut.records + 1 ≡ length (all_records text)
count-more text cut c lt e = by c.all
  where
    by : (cut.records ≡ most_records) ⊎ HasNoEnd (drop cut.end text) → cut.records + 1 ≡ length (all_records text)
    by (inl full) = absurd (omega (arith, full, lt))
    by (inr h) = let one : length (all_records (drop cut.end text)) ≡ 1 = rw e at (open-count (drop cut.end text) h) in omega (arith, one, split text cut c)

pub count-same : (text : List ℕ) (cut : Cut) → Cuts text most_records cut → length (all_records text) ≤ most_records
    → (most_records ≤ cut.records) ⊎ (list_any is_content (drop cut.end text) ≡ false) → cut.records ≡ length (all_records text)
count-same text cut c few (inl full) = omega (arith, full, few, split text cut c)
count-same text cut c few (inr e) = by c.all
  where
    by : (cut.records ≡ most_records) ⊎ HasNoEnd (drop cut.end text) → cut.records ≡ length (all_records text)
    by (inl full) = omega (arith, full, few, split text cut c)
    by (inr h) = let none : length (all_records (drop cut.end text)) ≡ 0 = rw e at (open-count (drop cut.end text) h) in omega (arith, none, split text cut c)

-- ---- the records of parts

-- so many records were counted of those that were left
abbrev pub CountedOf : List ℕ → Option (List ℕ) → Option (List ℕ) → ℕ → Type 0
CountedOf head None new count = ⊤
CountedOf head (Some old) None count = ⊥
CountedOf head (Some old) (Some new) count = length (records_but head old) ≡ count + length (records_but head new)

pub counted-none : (head : List ℕ) (k : Option (List ℕ)) → CountedOf head k k 0
counted-none head None = tt
counted-none head (Some xs) = omega arith

pub counted-on : (head : List ℕ) (a b c : Option (List ℕ)) (skipped bytes : List ℕ) (count more : ℕ) → CountedOf head a b count → RecordsThen head b skipped bytes c → more ≡ length (all_records bytes) → CountedOf head a c (count + more)
counted-on head None b c skipped bytes count more h r is = tt
counted-on head (Some xs) None c skipped bytes count more h r is = absurd h
counted-on head (Some xs) (Some ys) None skipped bytes count more h r is = r
counted-on head (Some xs) (Some ys) (Some zs) skipped bytes count more h r is =
    omega (arith, h, is, ap length r.1, length-append (all_records bytes) (records_but head zs))

-- the bytes behind the header are those of the part
pub body-is : (header : List ℕ) (old new : Option (List ℕ)) (part : Part) (p : IsPart header old new part) → (body_of part ≡ p.bytes) × (part.header ≤ length part.text.items)
body-is header old new part p =
    let size = length-append header p.bytes in
    let whole = ap length p.text in
    (ap (λ n. drop n part.text.items) p.header_len ∙ ap (drop (length header)) p.text ∙ drop-append_seam header p.bytes, omega (arith, size, whole, p.header_len))

-- a part more was counted
pub counted-part : (ho : List ℕ) (a b c : Option (List ℕ)) (header : List ℕ) (part : Part) → header ≡ ho → IsPart header b c part → (count n more : ℕ) → CountedOf (head_of ho) a b count → n ≡ length (all_records (body_of part)) → more ≡ count + n
    → CountedOf (head_of ho) a c more
counted-part ho a b c header part same p count n more h is sum =
    let body = body-is header b c part p in
    let size : n ≡ length (all_records p.bytes) = is ∙ ap (λ (l : List ℕ). length (all_records l)) body.0 in
    let next : RecordsThen (head_of ho) b part.skipped.items p.bytes c = rw same at p.next in
    rw sum (counted-on (head_of ho) a b c part.skipped.items p.bytes count n h next size)

pub counted-all : (head : List ℕ) (a b : Option (List ℕ)) (count : ℕ) → CountedOf head a b count → IsAtEnd b → Counted head a count
counted-all head None b count h end = tt
counted-all head (Some xs) None count h end = absurd h
counted-all head (Some xs) (Some ys) count h end =
    let nothing = but-of-none head in
    let none : length (records_but head ys) ≡ 0 = rw end (ap length nothing) in
    omega (arith, h, none)
