-- What a scan of a record has found so far.
use Rattle.std.proofs.Common.{◌≡◌, ◌≢◌, ◌<◌, ◌≤◌, ◌+◌, ◌-◌, ◌==◌, ℕ, zero, suc, true, false, Some, None, List, [], ◌∷◌, ◌++◌, take, drop, length, get_or, refl, sym, ap, ◌∙◌, arith, inl, inr, eq-eqb, append-nil, length-append, length-drop, take_all, take-add}
use Rattle.std.proofs.lemmas.Bool.{cases_Bool}
use Rattle.std.proofs.lemmas.List.{take_more, take-append-drop, drop_all}
use Rattle.csv.specs.Machine.{Feeds, step, is_end, ends_at_end, fields_after, field_after, next_record}
use Rattle.csv.specs.Reading.{default_config}
use Rattle.csv.specs.declared.parser.Action.{Action as Does}
use Rattle.csv.specs.declared.parser.Action.TheVariants as act
use Rattle.csv.specs.declared.parser.State.{State}
use Rattle.csv.specs.declared.parser.State.TheVariants as st
use Rattle.csv.proofs.ReadFacts.{feeds-push}
use Rattle.fw_scan.specs.Places.{Record, Joins, state_of}
use Rattle.fw_scan.specs.Scans.{IsRecord, ReadsAs}
use Rattle.fw_scan.specs.declared.place.Place.{Place}
use Rattle.fw_scan.specs.declared.place.Place.TheVariants as place

-- ---- the field at a place among those that ended and the one at hand

-- a field at hand that isn't wanted changes nothing
other-field : (done : Record) (f g : List ℕ) (wanted : ℕ) → length done ≢ wanted → get_or (done ++ f ∷ []) wanted [] ≡ get_or (done ++ g ∷ []) wanted []
other-field [] f g zero h = absurd (h refl)
other-field [] f g (suc w) h = refl
other-field (d ∷ done) f g zero h = refl
other-field (d ∷ done) f g (suc w) h = other-field done f g w (λ e. h (omega (arith, e)))

-- the field at hand that is wanted
own-field : (done : Record) (f : List ℕ) (wanted : ℕ) → length done ≡ wanted → get_or (done ++ f ∷ []) wanted [] ≡ f
own-field [] f zero h = refl
own-field [] f (suc w) h = absurd (omega (arith, h))
own-field (d ∷ done) f zero h = absurd (omega (arith, h))
own-field (d ∷ done) f (suc w) h = own-field done f w (omega (arith, h))

-- an empty field behind the last one changes nothing
empty-field : (done : Record) (wanted : ℕ) → get_or (done ++ [] ∷ []) wanted [] ≡ get_or done wanted []
empty-field [] zero = refl
empty-field [] (suc w) = refl
empty-field (d ∷ done) zero = refl
empty-field (d ∷ done) (suc w) = empty-field done w

-- ---- what the machine reads

-- bytes of which none ends a record, and those behind them
pub feeds-on : (s s1 : State) (f f1 : Record) (p p1 x y : List ℕ) → Feeds default_config s f p x s1 f1 p1 false
    → next_record default_config s f p (x ++ y) ≡ next_record default_config s1 f1 p1 y
unfolding Feeds next_record
feeds-on s s1 f f1 p p1 [] y h = rw (h.0, h.1, h.2) refl
feeds-on s s1 f f1 p p1 (c ∷ x) y h = elim (cases_Bool (is_end (step default_config s c).1)) [
  | inl e ↦ let q = rw e at h in cc q.4
  | inr e ↦ let q = rw e at h in rw e (feeds-on (step default_config s c).0 s1 (fields_after (step default_config s c).1 f p) f1 (field_after (step default_config s c).1 c p) p1 x y q)
]

-- bytes of which the last one ends the record
pub feeds-end : (s s1 : State) (f f1 : Record) (p p1 x y : List ℕ) → Feeds default_config s f p x s1 f1 p1 true
    → next_record default_config s f p (x ++ y) ≡ Some (f1, s1, y)
unfolding Feeds next_record
feeds-end s s1 f f1 p p1 [] y h = cc h.3
feeds-end s s1 f f1 p p1 (c ∷ x) y h = elim (cases_Bool (is_end (step default_config s c).1)) [
  | inl e ↦ let q = rw e at h in rw (e, q.0, q.1, q.2) refl
  | inr e ↦ let q = rw e at h in rw e (feeds-end (step default_config s c).0 s1 (fields_after (step default_config s c).1 f p) f1 (field_after (step default_config s c).1 c p) p1 x y q)
]

-- more bytes, of which none ends a record
pub feeds-then : (s s1 s2 : State) (f f1 f2 : Record) (p p1 p2 x y : List ℕ) → Feeds default_config s f p x s1 f1 p1 false → Feeds default_config s1 f1 p1 y s2 f2 p2 false
    → Feeds default_config s f p (x ++ y) s2 f2 p2 false
unfolding Feeds
feeds-then s s1 s2 f f1 f2 p p1 p2 [] y h k = rw (h.0, h.1, h.2) at k
feeds-then s s1 s2 f f1 f2 p p1 p2 (c ∷ x) y h k = elim (cases_Bool (is_end (step default_config s c).1)) [
  | inl e ↦ let q = rw e at h in cc q.4
  | inr e ↦ let q = rw e at h in
      rw e (feeds-then (step default_config s c).0 s1 s2 (fields_after (step default_config s c).1 f p) f1 f2 (field_after (step default_config s c).1 c p) p1 p2 x y q k)
]

-- one byte more
feeds-next : (s s1 : State) (f f1 : Record) (p p1 text : List ℕ) (i : ℕ) → i < length text → Feeds default_config s f p (take i text) s1 f1 p1 false
    → Feeds default_config s f p (take (i + 1) text) (step default_config s1 (get_or text i 0)).0 (fields_after (step default_config s1 (get_or text i 0)).1 f1 p1) (field_after (step default_config s1 (get_or text i 0)).1 (get_or text i 0) p1) (is_end (step default_config s1 (get_or text i 0)).1)
feeds-next s s1 f f1 p p1 text i lt h = let more = take_more text i 0 lt in rw more (feeds-push default_config s s1 f f1 p p1 (take i text) (get_or text i 0) h)

-- ---- the record so far

-- behind so many bytes the reader stands at p, so many fields have ended, and the one that is wanted is this so far
pub record Scanned (text : List ℕ) (at : ℕ) (p : Place) (fields wanted : ℕ) (found : List ℕ) : Type 0 where
  pub done : Record
  pub field : List ℕ
  pub fed : Feeds default_config st.StartRecord [] [] (take at text) (state_of p) done field false
  pub count : length done ≡ fields
  pub value : found ≡ get_or (done ++ field ∷ []) wanted []
  pub few : fields ≤ at

pub scanned-start : (text : List ℕ) (wanted : ℕ) → Scanned text 0 place.StartRecord 0 wanted []
unfolding Feeds
scanned-start text wanted = record {
  done = [];
  field = [];
  fed = (refl, refl, refl, refl);
  count = refl;
  value = sym (empty-field [] wanted);
  few = omega arith;
}

-- bytes that end no field
pub scanned-joins : (text : List ℕ) (at n fields wanted : ℕ) (p : Place) (value : List ℕ) → Scanned text at p fields wanted value → fields ≢ wanted → Joins p (take n (drop at text))
    → Scanned text (at + n) p fields wanted value
scanned-joins text at n fields wanted p value s other joins =
    let j = joins s.done s.field in record {
      done = s.done;
      field = j.0;
      fed = rw (take-add at n text) (feeds-then st.StartRecord (state_of p) (state_of p) [] s.done s.done [] s.field j.0 (take at text) (take n (drop at text)) s.fed j.1);
      count = s.count;
      value = s.value ∙ other-field s.done s.field j.0 wanted (λ e. other (sym s.count ∙ e));
      few = omega (arith, s.few);
    }

-- the bytes that are passed over: none of a field that is wanted
pub scanned-passed : (text : List ℕ) (at n fields wanted : ℕ) (p : Place) (value : List ℕ) → Scanned text at p fields wanted value → at ≤ length text → n ≤ length (take (length text - at) (drop at text))
    → ((fields == wanted) ≡ true → n ≡ 0) → ((fields == wanted) ≡ false → Joins p (take n (take (length text - at) (drop at text))))
    → Scanned text (at + n) p fields wanted value × (at + n ≤ length text)
scanned-passed text at n fields wanted p value s low within none joins =
    let size = length-drop at text in
    let all : take (length text - at) (drop at text) ≡ drop at text = take_all (length text - at) (drop at text) (omega (arith, size)) in
    let fits : n ≤ length (drop at text) = rw all at within in (
      elim (cases_Bool (fields == wanted)) [
        | inl e ↦ let stays : at + n ≡ at = omega (arith, none e) in rw stays s
        | inr e ↦ scanned-joins text at n fields wanted p value s (λ same. cc (e, eq-eqb fields wanted same)) (rw all at joins e)
      ],
      omega (arith, size, fits, low),
    )

-- what the next byte does, where it doesn't end the record
next-fed : (text : List ℕ) (at fields wanted : ℕ) (p next : Place) (value : List ℕ) (a : Does) (s : Scanned text at p fields wanted value) → at < length text
    → (state_of next, a) ≡ step default_config (state_of p) (get_or text at 0) → is_end a ≡ false
    → Feeds default_config st.StartRecord [] [] (take (at + 1) text) (state_of next) (fields_after a s.done s.field) (field_after a (get_or text at 0) s.field) false
next-fed text at fields wanted p next value a s lt is goes =
    let fed = feeds-next st.StartRecord (state_of p) [] s.done [] s.field text at lt s.fed in
    let to : (step default_config (state_of p) (get_or text at 0)).0 ≡ state_of next = sym (ap (λ o. o.0) is) in
    let does : (step default_config (state_of p) (get_or text at 0)).1 ≡ a = sym (ap (λ o. o.1) is) in
    let done = rw (to, does) at fed in
    rw goes at done

pub scanned-skip : (text : List ℕ) (at fields wanted : ℕ) (p next : Place) (value : List ℕ) → Scanned text at p fields wanted value → at < length text
    → (state_of next, act.Skip) ≡ step default_config (state_of p) (get_or text at 0) → Scanned text (at + 1) next fields wanted value
scanned-skip text at fields wanted p next value s lt is = record {
  done = s.done;
  field = s.field;
  fed = next-fed text at fields wanted p next value act.Skip s lt is refl;
  count = s.count;
  value = s.value;
  few = omega (arith, s.few);
}

pub scanned-copy : (text : List ℕ) (at fields wanted : ℕ) (p next : Place) (value : List ℕ) → Scanned text at p fields wanted value → at < length text
    → (state_of next, act.Copy) ≡ step default_config (state_of p) (get_or text at 0) → fields ≡ wanted → Scanned text (at + 1) next fields wanted (value ++ get_or text at 0 ∷ [])
scanned-copy text at fields wanted p next value s lt is own = record {
  done = s.done;
  field = s.field ++ get_or text at 0 ∷ [];
  fed = next-fed text at fields wanted p next value act.Copy s lt is refl;
  count = s.count;
  value =
      let have = s.value ∙ own-field s.done s.field wanted (s.count ∙ own) in
      ap (λ l. l ++ get_or text at 0 ∷ []) have ∙ sym (own-field s.done (s.field ++ get_or text at 0 ∷ []) wanted (s.count ∙ own));
  few = omega (arith, s.few);
}

pub scanned-other : (text : List ℕ) (at fields wanted : ℕ) (p next : Place) (value : List ℕ) → Scanned text at p fields wanted value → at < length text
    → (state_of next, act.Copy) ≡ step default_config (state_of p) (get_or text at 0) → fields ≢ wanted → Scanned text (at + 1) next fields wanted value
scanned-other text at fields wanted p next value s lt is other = record {
  done = s.done;
  field = s.field ++ get_or text at 0 ∷ [];
  fed = next-fed text at fields wanted p next value act.Copy s lt is refl;
  count = s.count;
  value = s.value ∙ other-field s.done s.field (s.field ++ get_or text at 0 ∷ []) wanted (λ e. other (sym s.count ∙ e));
  few = omega (arith, s.few);
}

pub scanned-field : (text : List ℕ) (at fields wanted : ℕ) (p next : Place) (value : List ℕ) → Scanned text at p fields wanted value → at < length text
    → (state_of next, act.EndField) ≡ step default_config (state_of p) (get_or text at 0) → Scanned text (at + 1) next (fields + 1) wanted value
scanned-field text at fields wanted p next value s lt is = record {
  done = s.done ++ s.field ∷ [];
  field = [];
  fed = next-fed text at fields wanted p next value act.EndField s lt is refl;
  count = omega (arith, length-append s.done (s.field ∷ []), s.count);
  value = s.value ∙ sym (empty-field (s.done ++ s.field ∷ []) wanted);
  few = omega (arith, s.few);
}

-- ---- what was found

-- a byte that ends the record
pub scanned-record : (text : List ℕ) (at fields wanted : ℕ) (p next : Place) (value : List ℕ) → Scanned text at p fields wanted value → at < length text
    → (state_of next, act.EndRecord) ≡ step default_config (state_of p) (get_or text at 0)
    → IsRecord text wanted value (record { end = at + 1; fields = fields + 1; is_ended = true })
scanned-record text at fields wanted p next value s lt is =
    let fed = feeds-next st.StartRecord (state_of p) [] s.done [] s.field text at lt s.fed in
    let to : (step default_config (state_of p) (get_or text at 0)).0 ≡ state_of next = sym (ap (λ o. o.0) is) in
    let does : (step default_config (state_of p) (get_or text at 0)).1 ≡ act.EndRecord = sym (ap (λ o. o.1) is) in
    let ended = rw (to, does) at fed in
    let any : (more : List ℕ) → ReadsAs (take (at + 1) text ++ more) (s.done ++ s.field ∷ []) (state_of next) more
    = λ more. feeds-end st.StartRecord (state_of next) [] (s.done ++ s.field ∷ []) [] [] (take (at + 1) text) more ended in
    record {
      fields = s.done ++ s.field ∷ [];
      state = state_of next;
      within = omega (arith, lt);
      read = ap (λ l. next_record default_config st.StartRecord [] [] l) (sym (take-append-drop (at + 1) text)) ∙ any (drop (at + 1) text);
      count = omega (arith, length-append s.done (s.field ∷ []), s.count);
      value = s.value;
      ended = λ _. any;
      last = λ e. cc e;
    }

at-end : (s : State) (f : Record) (p : List ℕ) → ends_at_end s ≡ true → next_record default_config s f p [] ≡ Some (f ++ p ∷ [], st.StartRecord, [])
unfolding next_record
at-end s f p e = rw e refl

not-at-end : (s : State) (f : Record) (p : List ℕ) → ends_at_end s ≡ false → next_record default_config s f p [] ≡ None
unfolding next_record
not-at-end s f p e = rw e refl

-- what the end of the text leaves
all-fed : (text : List ℕ) (at fields wanted : ℕ) (p : Place) (value : List ℕ) (s : Scanned text at p fields wanted value) → length text ≤ at
    → next_record default_config st.StartRecord [] [] text ≡ next_record default_config (state_of p) s.done s.field []
all-fed text at fields wanted p value s low =
    let fed = rw (take_all at text low) at s.fed in
    ap (λ l. next_record default_config st.StartRecord [] [] l) (sym (append-nil text)) ∙ feeds-on st.StartRecord (state_of p) [] s.done [] s.field text [] fed

-- the end of the text ends the record
pub scanned-last : (text : List ℕ) (at fields wanted : ℕ) (p : Place) (value : List ℕ) → Scanned text at p fields wanted value → at ≡ length text → ends_at_end (state_of p) ≡ true
    → IsRecord text wanted value (record { end = at; fields = fields + 1; is_ended = false })
scanned-last text at fields wanted p value s is within = record {
  fields = s.done ++ s.field ∷ [];
  state = st.StartRecord;
  within = omega (arith, is);
  read =
      let none : drop at text ≡ [] = drop_all at text (omega (arith, is)) in
      rw none (all-fed text at fields wanted p value s (omega (arith, is)) ∙ at-end (state_of p) s.done s.field within);
  count = omega (arith, length-append s.done (s.field ∷ []), s.count);
  value = s.value;
  ended = λ e. cc e;
  last = λ _. is;
}

pub scanned-none : (text : List ℕ) (at fields wanted : ℕ) (p : Place) (value : List ℕ) → Scanned text at p fields wanted value → at ≡ length text → ends_at_end (state_of p) ≡ false
    → next_record default_config st.StartRecord [] [] text ≡ None
scanned-none text at fields wanted p value s is outside = all-fed text at fields wanted p value s (omega (arith, is)) ∙ not-at-end (state_of p) s.done s.field outside
