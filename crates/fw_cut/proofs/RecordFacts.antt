-- The records of texts that stand one behind the other.
use Rattle.std.proofs.Common.{◌≡◌, ◌<◌, ◌≤◌, ◌+◌, ◌-◌, ◌==◌, ℕ, zero, suc, true, false, Option, Some, None, List, [], ◌∷◌, ◌++◌, length, refl, sym, ap, ◌∙◌, arith, inl, inr, append-nil, append_assoc, if◌then◌else◌}
use Rattle.std.proofs.lemmas.Bool.{cases_Bool}
use Rattle.csv.specs.Machine.{Read, Feeds, step, is_end, fields_after, field_after, next_record, ends_at_end}
use Rattle.csv.specs.Reading.{default_config, records_from, records_next}
use Rattle.csv.specs.declared.parser.State.{State}
use Rattle.csv.specs.declared.parser.State.TheVariants as st
use Rattle.fw_cut.specs.Places.{IsBehind}
use Rattle.fw_cut.specs.Records.{Record, Spells, all_records}

-- ---- behind a carriage return the machine goes on as at the start

step-behind : (c : ℕ) → step default_config st.AfterCr c ≡ step default_config st.StartRecord c
step-behind c = elim (cases_Bool (c == 10)) [
  | inl feed ↦ elim (cases_Bool (c == 13)) [ inl e ↦ rw (feed, e) refl | inr e ↦ rw (feed, e) refl ]
  | inr other ↦ rw other refl
]

next-return : (f : Record) (p xs : List ℕ) → next_record default_config st.AfterCr f p xs ≡ next_record default_config st.StartRecord f p xs
unfolding next_record
next-return f p [] = refl
next-return f p (c ∷ rest) = let e = step-behind c in rw e refl

pub next-behind : (s : State) (f : Record) (p xs : List ℕ) → IsBehind s → next_record default_config s f p xs ≡ next_record default_config st.StartRecord f p xs
next-behind s f p xs (inl e) = rw e refl
next-behind s f p xs (inr e) = rw e (next-return f p xs)

pub records-behind : (n : ℕ) (s : State) (xs : List ℕ) → IsBehind s → records_from default_config n s xs ≡ records_from default_config n st.StartRecord xs
unfolding records_from
records-behind zero s xs b = refl
records-behind (suc n) s xs b = ap (records_next (records_from default_config n)) (next-behind s [] [] xs b)

-- ---- how many records are looked for makes no difference once it is more than there are bytes

pub left_of : Option Read → ℕ
left_of None = 0
left_of (Some p) = length p.2

pub shrinks : (s : State) (f : Record) (p y : List ℕ) → left_of (next_record default_config s f p y) ≤ length y - 1
unfolding next_record left_of
shrinks s f p [] = elim (cases_Bool (ends_at_end s)) [ inl e ↦ rw e (omega arith) | inr e ↦ rw e (omega arith) ]
shrinks s f p (c ∷ rest) = elim (cases_Bool (is_end (step default_config s c).1)) [
  | inl e ↦ rw e (omega arith)
  | inr e ↦
      let h = shrinks (step default_config s c).0 (fields_after (step default_config s c).1 f p) (field_after (step default_config s c).1 c p) rest in
      rw e (omega (arith, h))
]

pub none-left : (n : ℕ) → records_from default_config n st.StartRecord [] ≡ []
unfolding records_from next_record
none-left zero = refl
none-left (suc n) = refl

same-next : (m n : ℕ) (o : Option Read) → ((p : Read) → o ≡ Some p → records_from default_config m p.1 p.2 ≡ records_from default_config n p.1 p.2)
    → records_next (records_from default_config m) o ≡ records_next (records_from default_config n) o
same-next m n None h = refl
same-next m n (Some p) h = ap (λ (t : List Record). p.0 ∷ t) (h p refl)

pub left-is : (o : Option Read) (p : Read) → o ≡ Some p → left_of o ≡ length p.2
unfolding left_of
left-is o p e = rw e refl

pub same_fuel : (m n : ℕ) (s : State) (y : List ℕ) → length y < m → length y < n → records_from default_config m s y ≡ records_from default_config n s y
unfolding records_from next_record
same_fuel zero n s y a b = absurd (omega arith)
same_fuel (suc m) zero s y a b = absurd (omega arith)
same_fuel (suc m) (suc n) s [] a b = elim (cases_Bool (ends_at_end s)) [
  | inl e ↦ let em = none-left m in let en = none-left n in rw (e, em, en) refl
  | inr e ↦ rw e refl
]
same_fuel (suc m) (suc n) s (c ∷ rest) a b =
    same-next m n (next_record default_config s [] [] (c ∷ rest)) (λ p e.
    let fewer = shrinks s [] [] (c ∷ rest) in
    let left = left-is (next_record default_config s [] [] (c ∷ rest)) p e in
    same_fuel m n p.1 p.2 (omega (arith, fewer, left)) (omega (arith, fewer, left)))

-- ---- records that are spelled

pub fed-end : (s s2 : State) (f f2 : Record) (p p2 x y : List ℕ) → Feeds default_config s f p x s2 f2 p2 true → next_record default_config s f p (x ++ y) ≡ Some (f2, s2, y)
unfolding Feeds next_record
fed-end s s2 f f2 p p2 [] y h = cc h.3
fed-end s s2 f f2 p p2 (c ∷ x) y h = elim (cases_Bool (is_end (step default_config s c).1)) [
  | inl e ↦ let k = rw e at h in rw (e, k.0, k.1, k.2) refl
  | inr e ↦ let k = rw e at h in
      rw e (fed-end (step default_config s c).0 s2 (fields_after (step default_config s c).1 f p) f2 (field_after (step default_config s c).1 c p) p2 x y k)
]

pub spelled : (n k : ℕ) (s t : State) (x y : List ℕ) (rows : List Record) → Spells s x rows t → n ≡ length rows + k → records_from default_config n s (x ++ y) ≡ rows ++ records_from default_config k t y
unfolding Spells records_from
spelled n k s t x y [] h e = let z : n ≡ k = omega (arith, e) in rw (h.0, h.1, z) refl
spelled zero k s t x y (r ∷ rs) h e = absurd (omega arith)
spelled (suc m) k s t x y (r ∷ rs) h e =
    let whole = ap (λ l. l ++ y) h.4 ∙ append_assoc h.0 h.1 y in
    let next = fed-end s h.2 [] r [] h.3 h.0 (h.1 ++ y) h.5 in
    rw (whole, next) (ap (λ l. r ∷ l) (spelled m k h.2 t h.1 y rs h.6 (omega (arith, e))))

-- the records of a text that begins with whole ones
pub records-spelled : (t : State) (x y : List ℕ) (rows : List Record) → Spells st.StartRecord x rows t → IsBehind t → all_records (x ++ y) ≡ rows ++ all_records y
unfolding all_records
records-spelled t x y rows h behind =
    let k = length (x ++ y) + length y + 1 in
    same_fuel (length (x ++ y) + 1) (length rows + k) st.StartRecord (x ++ y) (omega arith) (omega arith)
    ∙ spelled (length rows + k) k st.StartRecord t x y rows h refl
    ∙ ap (λ l. rows ++ l) (records-behind k t y behind ∙ same_fuel k (length y + 1) st.StartRecord y (omega arith) (omega arith))

pub none-of-none : all_records [] ≡ []
unfolding all_records
none-of-none = none-left 1

pub records-whole : (t : State) (x : List ℕ) (rows : List Record) → Spells st.StartRecord x rows t → IsBehind t → all_records x ≡ rows
records-whole t x rows h behind =
    ap all_records (sym (append-nil x)) ∙ records-spelled t x [] rows h behind ∙ (rw none-of-none (append-nil rows))

-- ---- no byte ends a record

pub no-end-behind : (s to : State) (x : List ℕ) (f : Record) (p : List ℕ) → IsBehind s → Feeds default_config s [] [] x to f p false
    → (from : State) × (g : Record) × (q : List ℕ) × Feeds default_config st.StartRecord [] [] x from g q false
unfolding Feeds
no-end-behind s to x f p (inl e) h = (to, f, p, rw e at h)
no-end-behind s to [] f p (inr e) h = (st.StartRecord, [], [], (refl, refl, refl, refl))
no-end-behind s to (c ∷ x) f p (inr e) h = let same = step-behind c in (to, f, p, rw same at (rw e at h))

goes : (s : State) (f : Record) (p : List ℕ) (c : ℕ) (x : List ℕ) → is_end (step default_config s c).1 ≡ false
    → next_record default_config s f p (c ∷ x) ≡ next_record default_config (step default_config s c).0 (fields_after (step default_config s c).1 f p) (field_after (step default_config s c).1 c p) x
unfolding next_record
goes s f p c x e = rw e refl

pub fed-on : (s to : State) (f f2 : Record) (p p2 x : List ℕ) → Feeds default_config s f p x to f2 p2 false → next_record default_config s f p x ≡ next_record default_config to f2 p2 []
unfolding Feeds
fed-on s to f f2 p p2 [] h = rw (h.0, h.1, h.2) refl
fed-on s to f f2 p p2 (c ∷ x) h = elim (cases_Bool (is_end (step default_config s c).1)) [
  | inl e ↦ let k = rw e at h in cc k.4
  | inr e ↦ let k = rw e at h in
      goes s f p c x e ∙ fed-on (step default_config s c).0 to (fields_after (step default_config s c).1 f p) f2 (field_after (step default_config s c).1 c p) p2 x k
]

next-at-end : (m : ℕ) (s : State) (f : Record) (p : List ℕ) → length (records_next (records_from default_config m) (next_record default_config s f p [])) ≤ 1
unfolding next_record
next-at-end m s f p = elim (cases_Bool (ends_at_end s)) [
  | inl e ↦ let none = none-left m in rw (e, none) (omega arith)
  | inr e ↦ rw e (omega arith)
]

-- a text in which no byte ends a record has at most one
pub no-end-few : (x : List ℕ) (to : State) (f : Record) (p : List ℕ) → Feeds default_config st.StartRecord [] [] x to f p false → length (all_records x) ≤ 1
unfolding all_records records_from
no-end-few x to f p h =
    let one = same_fuel (length x + 1) (suc (length x)) st.StartRecord x (omega arith) (omega arith) in
    let next = fed-on st.StartRecord to [] f [] p x h in
    rw one (rw next (next-at-end (length x) to f p))

next-count : (m : ℕ) (s : State) (f : Record) (p : List ℕ) → length (records_next (records_from default_config m) (next_record default_config s f p [])) ≡ (if ends_at_end s then 1 else 0)
unfolding next_record
next-count m s f p = elim (cases_Bool (ends_at_end s)) [
  | inl e ↦ let none = none-left m in rw (e, none) refl
  | inr e ↦ rw e refl
]

-- it has one where the end of the text ends it
pub no-end-count : (x : List ℕ) (to : State) (f : Record) (p : List ℕ) → Feeds default_config st.StartRecord [] [] x to f p false → length (all_records x) ≡ (if ends_at_end to then 1 else 0)
unfolding all_records records_from
no-end-count x to f p h =
    let one = same_fuel (length x + 1) (suc (length x)) st.StartRecord x (omega arith) (omega arith) in
    let next = fed-on st.StartRecord to [] f [] p x h in
    rw one (rw next (next-count (length x) to f p))
