-- What a scan of a text has found so far.
use Rattle.std.proofs.Common.{◌≡◌, ◌⊎◌, ◌<◌, ◌≤◌, ◌+◌, ◌-◌, ℕ, Bool, List, [], ◌∷◌, ◌++◌, false, true, take, drop, length, get_or, refl, sym, ap, ◌∙◌, arith, inl, inr, length-append, get_or-drop, take_all, append-nil, append_assoc, length-drop, take-add}
use Rattle.csv.specs.Machine.{Feeds, step, is_end, fields_after, field_after}
use Rattle.csv.specs.Reading.{default_config}
use Rattle.csv.specs.declared.parser.State.{State}
use Rattle.csv.specs.declared.parser.State.TheVariants as st
use Rattle.csv.proofs.ReadFacts.{feeds-push}
use Rattle.std.proofs.lemmas.Bool.{cases_Bool}
use Rattle.std.proofs.lemmas.List.{take_more, drop-drop}
use Rattle.fw_cut.specs.Places.{state_of, IsBehind, Does, GoesOn}
use Rattle.fw_cut.specs.Records.{Record, Spells, IsWhole, all_records}
use Rattle.fw_cut.proofs.RecordFacts.{records-whole, records-spelled, no-end-behind}
use Rattle.fw_cut.specs.Cutting.{Cuts, HasNoEnd}
use Rattle.fw_cut.specs.declared.cutting.Cut.{Cut}
use Rattle.fw_cut.specs.declared.place.Place.{Place}
use Rattle.fw_cut.specs.declared.place.Place.TheVariants as place
use Rattle.fw_cut.specs.declared.place.Step.{Step}

-- the first bytes, up to the cut, are whole records; those from there to the place are none
pub record Scanned (text : List ℕ) (most at : ℕ) (p : Place) (cut : Cut) : Type 0 where
  pub rows : List Record
  pub state : State
  pub fields : Record
  pub field : List ℕ
  pub whole : Spells st.StartRecord (take cut.end text) rows state
  pub behind : IsBehind state
  pub count : length rows ≡ cut.records
  pub few : cut.records < most
  pub order : cut.end ≤ at
  pub fed : Feeds default_config state [] [] (take (at - cut.end) (drop cut.end text)) (state_of p) fields field false

pub scanned-start : (text : List ℕ) (most : ℕ) → 0 < most → Scanned text most 0 place.Start (record { records = 0; end = 0 })
unfolding Spells Feeds
scanned-start text most h = record {
  rows = [];
  state = st.StartRecord;
  fields = [];
  field = [];
  whole = (refl, refl);
  behind = inl refl;
  count = refl;
  few = h;
  order = omega arith;
  fed = (refl, refl, refl, refl);
}

-- the byte at the place, from the cut on
next-byte : (text : List ℕ) (start at : ℕ) → start ≤ at → get_or (drop start text) (at - start) 0 ≡ get_or text at 0
next-byte text start at low = get_or-drop start text (at - start) 0 ∙ ap (λ n. get_or text n 0) (omega (arith, low))

-- the bytes up to a place and from there on
pub front-split : (l : List ℕ) (s i : ℕ) → s ≤ i → take i l ≡ take s l ++ take (i - s) (drop s l)
front-split l s i low =
    let at : i ≡ s + (i - s) = omega (arith, low) in
    ap (λ n. take n l) at ∙ take-add s (i - s) l

-- one byte more
feeds-next : (s s1 : State) (f f1 : List (List ℕ)) (p p1 text : List ℕ) (i : ℕ) → i < length text → Feeds default_config s f p (take i text) s1 f1 p1 false
    → Feeds default_config s f p (take (i + 1) text) (step default_config s1 (get_or text i 0)).0 (fields_after (step default_config s1 (get_or text i 0)).1 f1 p1) (field_after (step default_config s1 (get_or text i 0)).1 (get_or text i 0) p1) (is_end (step default_config s1 (get_or text i 0)).1)
feeds-next s s1 f f1 p p1 text i lt h = let more = take_more text i 0 lt in rw more (feeds-push default_config s s1 f f1 p p1 (take i text) (get_or text i 0) h)

-- the bytes from the cut to behind the place
pub fed-next : (text : List ℕ) (most at : ℕ) (p : Place) (cut : Cut) (next : Step) (s : Scanned text most at p cut) → at < length text → Does (step default_config (state_of p) (get_or text at 0)) next
    → (ends : Bool) → next.ends ≡ ends
    → (fields : Record) × (field : List ℕ) × Feeds default_config s.state [] [] (take (at + 1 - cut.end) (drop cut.end text)) (state_of next.place) fields field ends
fed-next text most at p cut next s lt does ends is =
    let byte = next-byte text cut.end at s.order in
    let size = length-drop cut.end text in
    let fed = feeds-next s.state (state_of p) [] s.fields [] s.field (drop cut.end text) (at - cut.end) (omega (arith, size, s.order, lt)) s.fed in
    let one : at - cut.end + 1 ≡ at + 1 - cut.end = omega (arith, s.order) in (
      fields_after (step default_config (state_of p) (get_or text at 0)).1 s.fields s.field,
      field_after (step default_config (state_of p) (get_or text at 0)).1 (get_or text at 0) s.field,
      rw (← one, ← does.0, ← is, ← does.1) (rw byte at fed),
    )

-- one record more
spells-push : (s m t : State) (bytes more : List ℕ) (rows : List Record) (r : Record) (left : List ℕ) → Spells s bytes rows m → Feeds default_config m [] [] more t r left true → Spells s (bytes ++ more) (rows ++ r ∷ []) t
unfolding Spells
spells-push s m t bytes more [] r left h fed = rw h.0 (more, [], t, left, sym (append-nil more), rw h.1 at fed, (refl, refl))
spells-push s m t bytes more (q ∷ rows) r left h fed =
    rw h.4 (h.0, h.1 ++ more, h.2, h.3, append_assoc h.0 h.1 more, h.5, spells-push h.2 m t h.1 more rows r left h.6 fed)

pub scanned-on : (text : List ℕ) (most at : ℕ) (p : Place) (cut : Cut) (next : Step) → Scanned text most at p cut → at < length text → Does (step default_config (state_of p) (get_or text at 0)) next → next.ends ≡ false
    → Scanned text most (at + 1) next.place cut
scanned-on text most at p cut next s lt does goes =
    let n = fed-next text most at p cut next s lt does false goes in
    record {
      rows = s.rows;
      state = s.state;
      fields = n.0;
      field = n.1;
      whole = s.whole;
      behind = s.behind;
      count = s.count;
      few = s.few;
      order = omega (arith, s.order);
      fed = n.2;
    }

-- more bytes, of which none ends a record
feeds-then : (s s1 s2 : State) (f f1 f2 : Record) (p p1 p2 x y : List ℕ) → Feeds default_config s f p x s1 f1 p1 false → Feeds default_config s1 f1 p1 y s2 f2 p2 false
    → Feeds default_config s f p (x ++ y) s2 f2 p2 false
unfolding Feeds
feeds-then s s1 s2 f f1 f2 p p1 p2 [] y h k = rw (h.0, h.1, h.2) at k
feeds-then s s1 s2 f f1 f2 p p1 p2 (c ∷ x) y h k = elim (cases_Bool (is_end (step default_config s c).1)) [
  | inl e ↦ let q = rw e at h in cc q.4
  | inr e ↦ let q = rw e at h in
      rw e (feeds-then (step default_config s c).0 s1 s2 (fields_after (step default_config s c).1 f p) f1 f2 (field_after (step default_config s c).1 c p) p1 p2 x y q k)
]

scanned-goes : (text : List ℕ) (most at n : ℕ) (p q : Place) (cut : Cut) → Scanned text most at p cut → GoesOn p (take n (drop at text)) q → Scanned text most (at + n) q cut
scanned-goes text most at n p q cut s goes =
    let g = goes s.fields s.field in
    let to : at ≡ cut.end + (at - cut.end) = omega (arith, s.order) in
    let rest : drop (at - cut.end) (drop cut.end text) ≡ drop at text = drop-drop (at - cut.end) cut.end text ∙ ap (λ k. drop k text) (sym to) in
    let count : at + n - cut.end ≡ at - cut.end + n = omega (arith, s.order) in
    let bytes : take (at + n - cut.end) (drop cut.end text) ≡ take (at - cut.end) (drop cut.end text) ++ take n (drop at text)
    = ap (λ k. take k (drop cut.end text)) count ∙ take-add (at - cut.end) n (drop cut.end text) ∙ ap (λ l. take (at - cut.end) (drop cut.end text) ++ take n l) rest in
    record {
      rows = s.rows;
      state = s.state;
      fields = g.0;
      field = g.1;
      whole = s.whole;
      behind = s.behind;
      count = s.count;
      few = s.few;
      order = omega (arith, s.order);
      fed = rw bytes (feeds-then s.state (state_of p) (state_of q) [] s.fields g.0 [] s.field g.1 (take (at - cut.end) (drop cut.end text)) (take n (drop at text)) s.fed g.2);
    }

-- the same of the bytes of a slice that begins at the place
pub scanned-run : (text : List ℕ) (most at n : ℕ) (p q : Place) (cut : Cut) → Scanned text most at p cut → at ≤ length text → n ≤ length (take (length text - at) (drop at text))
    → GoesOn p (take n (take (length text - at) (drop at text))) q → Scanned text most (at + n) q cut × (at + n ≤ length text)
scanned-run text most at n p q cut s low within goes =
    let size = length-drop at text in
    let all : take (length text - at) (drop at text) ≡ drop at text = take_all (length text - at) (drop at text) (omega (arith, size)) in
    let fits : n ≤ length (drop at text) = rw all at within in
    let all_goes : GoesOn p (take n (drop at text)) q = rw all at goes in
    (scanned-goes text most at n p q cut s all_goes, omega (arith, size, fits, low))

-- the record that the byte at the place ends
pub record Ended (text : List ℕ) (at records : ℕ) (p : Place) : Type 0 where
  pub rows : List Record
  pub whole : Spells st.StartRecord (take (at + 1) text) rows (state_of p)
  pub behind : IsBehind (state_of p)
  pub count : length rows ≡ records + 1

pub ended : (text : List ℕ) (most at : ℕ) (p : Place) (cut : Cut) (next : Step) → Scanned text most at p cut → at < length text → Does (step default_config (state_of p) (get_or text at 0)) next → next.ends ≡ true
    → Ended text at cut.records next.place
ended text most at p cut next s lt does ends =
    let n = fed-next text most at p cut next s lt does true ends in
    let low : cut.end ≤ at + 1 = omega (arith, s.order) in
    record {
      rows = s.rows ++ n.0 ∷ [];
      whole = rw (front-split text cut.end (at + 1) low) (spells-push st.StartRecord s.state (state_of next.place) (take cut.end text) (take (at + 1 - cut.end) (drop cut.end text)) s.rows n.0 n.1 s.whole n.2);
      behind = does.2 ends;
      count = omega (arith, length-append s.rows (n.0 ∷ []), s.count);
    }

pub scanned-ended : (text : List ℕ) (most at records : ℕ) (p : Place) → Ended text at records p → records + 1 < most → Scanned text most (at + 1) p (record { records = records + 1; end = at + 1 })
unfolding Feeds
scanned-ended text most at records p e few = record {
  rows = e.rows;
  state = state_of p;
  fields = [];
  field = [];
  whole = e.whole;
  behind = e.behind;
  count = e.count;
  few = few;
  order = omega arith;
  fed = let none : at + 1 - (at + 1) ≡ 0 = omega arith in rw none (refl, refl, refl, refl);
}

-- the records up to the cut are whole, and so many
pub scanned-cuts : (text : List ℕ) (most at : ℕ) (p : Place) (cut : Cut) (s : Scanned text most at p cut) → IsWhole (take cut.end text) × (length (all_records (take cut.end text)) ≡ cut.records)
scanned-cuts text most at p cut s =
    let is = records-whole s.state (take cut.end text) s.rows s.whole s.behind in
    ((λ more. records-spelled s.state (take cut.end text) more s.rows s.whole s.behind ∙ ap (λ l. l ++ all_records more) (sym is)), ap length is ∙ s.count)

-- what is cut off, where it is spelled
cuts : (text : List ℕ) (most : ℕ) (cut : Cut) (rows : List Record) (state : State) → Spells st.StartRecord (take cut.end text) rows state → IsBehind state → length rows ≡ cut.records
    → cut.records ≤ most → cut.end ≤ length text → (cut.records ≡ most) ⊎ HasNoEnd (drop cut.end text) → Cuts text most cut
cuts text most cut rows state whole behind count few within all =
    let is = records-whole state (take cut.end text) rows whole behind in
    record {
      within = within;
      whole = λ more. records-spelled state (take cut.end text) more rows whole behind ∙ ap (λ l. l ++ all_records more) (sym is);
      count = ap length is ∙ count;
      few = few;
      all = all;
    }

pub cuts-most : (text : List ℕ) (most at records : ℕ) (p : Place) → Ended text at records p → at < length text → records + 1 ≡ most → Cuts text most (record { records = records + 1; end = at + 1 })
cuts-most text most at records p e lt is =
    cuts text most (record { records = records + 1; end = at + 1 }) e.rows (state_of p) e.whole e.behind e.count (omega (arith, is)) (omega (arith, lt)) (inl is)

pub cuts-all : (text : List ℕ) (most at : ℕ) (p : Place) (cut : Cut) → Scanned text most at p cut → at ≡ length text → Cuts text most cut
cuts-all text most at p cut s is =
    let all : take (at - cut.end) (drop cut.end text) ≡ drop cut.end text = take_all (at - cut.end) (drop cut.end text) (omega (arith, is, length-drop cut.end text)) in
    let n = no-end-behind s.state (state_of p) (drop cut.end text) s.fields s.field s.behind (rw all at s.fed) in
    cuts text most cut s.rows s.state s.whole s.behind s.count (omega (arith, s.few)) (omega (arith, s.order, is))
    (inr (record { to = n.0; fields = n.1; field = n.2; fed = n.3 }))
