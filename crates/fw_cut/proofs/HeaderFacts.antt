-- The records of a text that aren't its header again.
use Rattle.std.proofs.Common.{◌≡◌, ◌<◌, ◌+◌, ◌-◌, ℕ, zero, suc, true, false, Option, Some, None, List, [], ◌∷◌, ◌++◌, take, drop, length, refl, sym, ap, ◌∙◌, arith, inl, inr, if◌then◌else◌, append-nil, append_assoc, length-append, take-append-drop, take_all}
use Rattle.std.proofs.lemmas.Bool.{cases_Bool}
use Rattle.std.proofs.Math.Seq.{take-append_seam}
use Rattle.csv.specs.Machine.{Read, Feeds, next_record, ends_at_end}
use Rattle.csv.specs.Reading.{default_config, records_from, records_next}
use Rattle.csv.specs.declared.parser.State.{State}
use Rattle.csv.specs.declared.parser.State.TheVariants as st
use Rattle.fw_cut.specs.Cutting.{HasNoEnd}
use Rattle.fw_cut.specs.Headers.{is_again, but_next, but_from, records_but, IsKept, IsPassed, IsRepeated}
use Rattle.fw_cut.specs.Places.{IsBehind}
use Rattle.fw_cut.specs.Records.{Record, Spells, IsWhole, all_records}
use Rattle.fw_cut.proofs.RecordFacts.{next-behind, records-behind, shrinks, left-is, none-left, none-of-none, same_fuel, spelled, fed-end, fed-on}

-- ---- how many records are looked for makes no difference once it is more than there are bytes

but-behind : (head : List ℕ) (n : ℕ) (s : State) (xs : List ℕ) → IsBehind s → but_from head n s xs ≡ but_from head n st.StartRecord xs
unfolding but_from
but-behind head zero s xs b = refl
but-behind head (suc n) s xs b = ap (but_next head xs (but_from head n)) (next-behind s [] [] xs b)

but-none : (head : List ℕ) (n : ℕ) → but_from head n st.StartRecord [] ≡ []
unfolding but_from next_record
but-none head zero = refl
but-none head (suc n) = refl

but-same : (head y : List ℕ) (m n : ℕ) (o : Option Read) → ((p : Read) → o ≡ Some p → but_from head m p.1 p.2 ≡ but_from head n p.1 p.2)
    → but_next head y (but_from head m) o ≡ but_next head y (but_from head n) o
but-same head y m n None h = refl
but-same head y m n (Some p) h = let e = h p refl in rw e refl

but-fuel : (head : List ℕ) (m n : ℕ) (s : State) (y : List ℕ) → length y < m → length y < n → but_from head m s y ≡ but_from head n s y
unfolding but_from next_record
but-fuel head zero n s y a b = absurd (omega arith)
but-fuel head (suc m) zero s y a b = absurd (omega arith)
but-fuel head (suc m) (suc n) s [] a b = elim (cases_Bool (ends_at_end s)) [
  | inl e ↦ let em = but-none head m in let en = but-none head n in rw (e, em, en) refl
  | inr e ↦ rw e refl
]
but-fuel head (suc m) (suc n) s (c ∷ rest) a b =
    but-same head (c ∷ rest) m n (next_record default_config s [] [] (c ∷ rest)) (λ p e.
    let fewer = shrinks s [] [] (c ∷ rest) in
    let left = left-is (next_record default_config s [] [] (c ∷ rest)) p e in
    but-fuel head m n p.1 p.2 (omega (arith, fewer, left)) (omega (arith, fewer, left)))

-- ---- one record

front-is : (span more : List ℕ) → take (length (span ++ more) - length more) (span ++ more) ≡ span
front-is span more =
    let size : length (span ++ more) - length more ≡ length span = omega (arith, length-append span more) in
    rw size (take-append_seam span more)

but-one : (head span more : List ℕ) (s m : State) (r : Record) (left : List ℕ) (n : ℕ) → Feeds default_config s [] [] span m r left true
    → but_from head (suc n) s (span ++ more) ≡ (if is_again head span then but_from head n m more else r ∷ but_from head n m more)
unfolding but_from
but-one head span more s m r left n fed =
    let next = fed-end s m [] r [] left span more fed in
    let front = front-is span more in
    rw next (rw front refl)

-- from the start of a text
but-start : (head span more : List ℕ) (s m : State) (r : Record) (left : List ℕ) → Feeds default_config s [] [] span m r left true → IsBehind s → IsBehind m
    → records_but head (span ++ more) ≡ (if is_again head span then records_but head more else r ∷ records_but head more)
unfolding records_but
but-start head span more s m r left fed from to =
    let size = length-append span more in
    let k = length (span ++ more) + 1 in
    let rest : but_from head k m more ≡ but_from head (length more + 1) st.StartRecord more =
    but-behind head k m more to ∙ but-fuel head k (length more + 1) st.StartRecord more (omega (arith, size)) (omega arith) in
    but-fuel head (length (span ++ more) + 1) (suc k) st.StartRecord (span ++ more) (omega arith) (omega arith)
    ∙ sym (but-behind head (suc k) s (span ++ more) from)
    ∙ but-one head span more s m r left k fed
    ∙ ap (λ (l : List Record). if is_again head span then l else r ∷ l) rest

all-start : (span more : List ℕ) (s m : State) (r : Record) (left : List ℕ) → Feeds default_config s [] [] span m r left true → IsBehind s → IsBehind m → all_records (span ++ more) ≡ r ∷ all_records more
unfolding all_records Spells
all-start span more s m r left fed from to =
    let k = length (span ++ more) + length more + 1 in
    let one : Spells s span (r ∷ []) m = (span, [], m, left, sym (append-nil span), fed, (refl, refl)) in
    same_fuel (length (span ++ more) + 1) (suc k) st.StartRecord (span ++ more) (omega arith) (omega arith)
    ∙ sym (records-behind (suc k) s (span ++ more) from)
    ∙ spelled (suc k) k s m span more (r ∷ []) one (omega arith)
    ∙ ap (λ (l : List Record). r ∷ l) (records-behind k m more to ∙ same_fuel k (length more + 1) st.StartRecord more (omega arith) (omega arith))

all-one : (span : List ℕ) (s m : State) (r : Record) (left : List ℕ) → Feeds default_config s [] [] span m r left true → IsBehind s → IsBehind m → all_records span ≡ r ∷ []
all-one span s m r left fed from to =
    ap all_records (sym (append-nil span)) ∙ all-start span [] s m r left fed from to ∙ ap (λ (l : List Record). r ∷ l) none-of-none

-- a record that isn't the header again
pub kept-one : (head span : List ℕ) (s m : State) (r : Record) (left : List ℕ) → Feeds default_config s [] [] span m r left true → IsBehind s → IsBehind m → is_again head span ≡ false → IsKept head span
kept-one head span s m r left fed from to other = λ more.
    let all = all-one span s m r left fed from to in
    let start = but-start head span more s m r left fed from to in
    rw all (rw other at start)

-- one that is
pub passed-one : (head span : List ℕ) (s m : State) (r : Record) (left : List ℕ) → Feeds default_config s [] [] span m r left true → IsBehind s → IsBehind m → is_again head span ≡ true
    → IsRepeated head span × IsPassed head span
passed-one head span s m r left fed from to again = (
  record { one = ap length (all-one span s m r left fed from to); again = again },
  λ more. let start = but-start head span more s m r left fed from to in rw again at start,
)

pub but-of-none : (head : List ℕ) → records_but head [] ≡ []
unfolding records_but
but-of-none head = but-none head 1

pub kept-none : (head : List ℕ) → IsKept head []
kept-none head = λ more. let none = none-of-none in rw none refl

pub passed-none : (head : List ℕ) → IsPassed head []
passed-none head = λ more. refl

pub kept-then : (head a b : List ℕ) → IsWhole a → IsKept head a → IsKept head b → IsKept head (a ++ b)
kept-then head a b whole ka kb = λ more.
    ap (records_but head) (append_assoc a b more) ∙ ka (b ++ more) ∙ ap (λ (l : List Record). all_records a ++ l) (kb more)
    ∙ sym (append_assoc (all_records a) (all_records b) (records_but head more)) ∙ ap (λ (l : List Record). l ++ records_but head more) (sym (whole b))

-- ---- no byte ends a record

open-next : (head x : List ℕ) (n : ℕ) (s : State) (f : Record) (p : List ℕ)
    → but_next head x (but_from head n) (next_record default_config s f p []) ≡ (if is_again head x then [] else records_next (records_from default_config n) (next_record default_config s f p []))
unfolding next_record
open-next head x n s f p = elim (cases_Bool (ends_at_end s)) [
  | inl e ↦
      let none = but-none head n in
      let no = none-left n in
      let all : take (length x - 0) x ≡ x = take_all (length x - 0) x (omega arith) in
      rw (e, none, no, all) refl
  | inr e ↦ elim (cases_Bool (is_again head x)) [ inl a ↦ rw (e, a) refl | inr a ↦ rw (e, a) refl ]
]

open-but : (head x : List ℕ) → HasNoEnd x → records_but head x ≡ (if is_again head x then [] else all_records x)
unfolding records_but all_records but_from records_from
open-but head x h =
    let n = length x in
    let next = fed-on st.StartRecord h.to [] h.fields [] h.field x h.fed in
    let but = but-fuel head (n + 1) (suc n) st.StartRecord x (omega arith) (omega arith) in
    let all = same_fuel (n + 1) (suc n) st.StartRecord x (omega arith) (omega arith) in
    but ∙ ap (but_next head x (but_from head n)) next ∙ open-next head x n h.to h.fields h.field
    ∙ ap (λ (l : List Record). if is_again head x then [] else l) (sym (all ∙ ap (records_next (records_from default_config n)) next))

pub open-kept : (head x : List ℕ) → HasNoEnd x → is_again head x ≡ false → records_but head x ≡ all_records x
open-kept head x h other = let o = open-but head x h in rw other at o

pub open-passed : (head x : List ℕ) → HasNoEnd x → is_again head x ≡ true → records_but head x ≡ []
open-passed head x h again = let o = open-but head x h in rw again at o

-- whole records and what is behind them
pub kept-all : (head text : List ℕ) (end : ℕ) → IsWhole (take end text) → IsKept head (take end text) → HasNoEnd (drop end text) → is_again head (drop end text) ≡ false → records_but head text ≡ all_records text
kept-all head text end whole kept none other =
    let split : take end text ++ drop end text ≡ text = take-append-drop end text in
    ap (records_but head) (sym split) ∙ kept (drop end text) ∙ ap (λ (l : List Record). all_records (take end text) ++ l) (open-kept head (drop end text) none other)
    ∙ sym (whole (drop end text)) ∙ ap all_records split
