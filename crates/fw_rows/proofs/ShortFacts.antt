-- What a byte of a short text does to the record that is read.
use Rattle.std.proofs.Common.{◌≡◌, ℕ, Bool, true, false, Option, Some, None, List, [], ◌∷◌, ◌++◌}
use Rattle.std.proofs.Common.{length, refl, sym, ap, ◌∙◌, arith}
use Rattle.csv.specs.Machine.{Read, step, is_end, ends_at_end, fields_after, field_after}
use Rattle.csv.specs.Machine.{next_record}
use Rattle.csv.specs.Reading.{default_config}
use Rattle.csv.specs.declared.parser.Action.{Action}
use Rattle.csv.specs.declared.parser.State.{State}
use Rattle.csv.specs.declared.parser.State.TheVariants as st
use Rattle.fw_rows.specs.At.{next_of}

-- the state behind a byte, and what the byte does
abbrev pub behind : State → ℕ → State
behind s c = (step default_config s c).0

abbrev pub does : State → ℕ → Action
does s c = (step default_config s c).1

-- the record that has begun with these fields and this one, and goes on with this text
abbrev pub goes_on : State → List (List ℕ) → List ℕ → List ℕ → Option Read
goes_on s f p xs = next_record default_config s f p xs

-- the record goes on behind a byte
on_behind : (s : State) (f : List (List ℕ)) (p : List ℕ) (c : ℕ) (rest : List ℕ)
    → is_end (does s c) ≡ false
    → goes_on s f p (c ∷ rest)
    ≡ goes_on (behind s c) (fields_after (does s c) f p) (field_after (does s c) c p) rest
unfolding next_record
on_behind s f p c rest goes = rw goes refl

-- the record ends with a byte
ends_behind : (s : State) (f : List (List ℕ)) (p : List ℕ) (c : ℕ) (rest : List ℕ)
    → is_end (does s c) ≡ true
    → goes_on s f p (c ∷ rest) ≡ Some (fields_after (does s c) f p, behind s c, rest)
unfolding next_record
ends_behind s f p c rest last = rw last refl

-- the text ends within a record
ends_within : (s : State) (f : List (List ℕ)) (p : List ℕ) → ends_at_end s ≡ true
    → goes_on s f p [] ≡ Some (f ++ (p ∷ []), st.StartRecord, [])
unfolding next_record
ends_within s f p within = rw within refl

-- the text ends between two records
ends_between : (s : State) (f : List (List ℕ)) (p : List ℕ) → ends_at_end s ≡ false
    → goes_on s f p [] ≡ None
unfolding next_record
ends_between s f p between = rw between refl

pub nothing_left : (xs : List ℕ) → length xs ≡ 0 → xs ≡ []
nothing_left [] e = refl
nothing_left (x ∷ xs) e = absurd (omega arith)

-- ---- the next record of a text, of which so much was taken

-- a byte more is taken, and the record goes on
pub next_more : (s0 s s2 : State) (y xs rest : List ℕ) (f f2 : List (List ℕ)) (p p2 : List ℕ)
    (c : ℕ) (ended : Bool) → next_of s0 y ≡ goes_on s f p xs → xs ≡ c ∷ rest
    → ended ≡ is_end (does s c) → ended ≡ false → s2 ≡ behind s c
    → f2 ≡ fields_after (does s c) f p → p2 ≡ field_after (does s c) c p
    → next_of s0 y ≡ goes_on s2 f2 p2 rest
next_more s0 s s2 y xs rest f f2 p p2 c ended so_far first is goes state fields field =
    so_far ∙ (ap (goes_on s f p) first
    ∙ (on_behind s f p c rest (sym is ∙ goes) ∙ rw (state, fields, field) refl))

-- a byte more is taken, and ends the record
pub next_ended : (s0 s s2 : State) (y xs rest : List ℕ) (f f2 : List (List ℕ)) (p : List ℕ)
    (c : ℕ) (ended : Bool) → next_of s0 y ≡ goes_on s f p xs → xs ≡ c ∷ rest
    → ended ≡ is_end (does s c) → ended ≡ true → s2 ≡ behind s c
    → f2 ≡ fields_after (does s c) f p → next_of s0 y ≡ Some (f2, s2, rest)
next_ended s0 s s2 y xs rest f f2 p c ended so_far first is last state fields =
    so_far ∙ (ap (goes_on s f p) first
    ∙ (ends_behind s f p c rest (sym is ∙ last) ∙ rw (state, fields) refl))

-- the text ends
pub next_within : (s0 s : State) (y xs : List ℕ) (f f2 : List (List ℕ)) (p : List ℕ)
    → next_of s0 y ≡ goes_on s f p xs → length xs ≡ 0 → ends_at_end s ≡ true
    → f2 ≡ f ++ (p ∷ []) → next_of s0 y ≡ Some (f2, st.StartRecord, [])
next_within s0 s y xs f f2 p so_far none within fields =
    so_far ∙ (ap (goes_on s f p) (nothing_left xs none)
    ∙ (ends_within s f p within ∙ rw fields refl))

pub next_none : (s0 s : State) (y xs : List ℕ) (f : List (List ℕ)) (p : List ℕ)
    → next_of s0 y ≡ goes_on s f p xs → length xs ≡ 0 → ends_at_end s ≡ false
    → next_of s0 y ≡ None
next_none s0 s y xs f p so_far none between =
    so_far ∙ (ap (goes_on s f p) (nothing_left xs none) ∙ ends_between s f p between)
