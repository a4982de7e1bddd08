-- What the parts of a text are.
use Rattle.std.proofs.Common.{◌≡◌, ◌⊎◌, ◌<◌, ◌≤◌, ◌+◌, ◌-◌, ◌==◌, ℕ, zero, suc, true, false, Option, Some, None, List, [], ◌∷◌, ◌++◌, take, drop, length, refl, sym, ap, ◌∙◌, arith, inl, inr, length-append, append-nil, append_assoc, take-append-drop, take_all, subst}
use Rattle.std.proofs.lemmas.Bool.{cases_Bool, eqb-true}
use Rattle.std.proofs.lemmas.List.{drop_all, take_rest}
use Rattle.std.specs.Io.KnownBytes.{Consumes, Keeps, IsAtEnd, prepend_known}
use Rattle.csv.specs.Machine.{next_record}
use Rattle.csv.specs.Reading.{strip_bom, is_bom, records_from}
use Rattle.fw_cut.specs.Records.{all_records, records_in, mark_len, IsWhole}
use Rattle.fw_cut.specs.Cutting.{Cuts, HasNoEnd}
use Rattle.fw_cut.specs.Headers.{head_of, records_but, is_again, IsKept, IsPassed, Stops, Passes}
use Rattle.fw_cut.specs.Parts.{CutterState, left_of, IsHeader, IsCutter, HeaderThen, BeginsWith, RecordsThen, SkipsThen, Skips, most_records, IsPart, CanEnd}
use Rattle.fw_cut.specs.declared.cutter.Part.{Part}
use Rattle.fw_cut.specs.declared.cutting.Cut.{Cut}
use Rattle.fw_cut.specs.declared.stopping.Stop.{Stop}
use Rattle.fw_cut.proofs.HeaderFacts.{but-of-none, kept-all}
use Rattle.fw_cut.proofs.RecordFacts.{none-of-none, no-end-few}

-- ---- what is left

pub keeps-same : (k : Option (List ℕ)) → Keeps k k
keeps-same None = tt
keeps-same (Some xs) = refl

-- what was read is left as before
pub keeps-more : (old new : Option (List ℕ)) (buffer more : List ℕ) → Consumes old new more → Keeps (prepend_known buffer old) (prepend_known (buffer ++ more) new)
keeps-more None new buffer more h = tt
keeps-more (Some xs) None buffer more h = h
keeps-more (Some xs) (Some ys) buffer more h = append_assoc buffer more ys ∙ ap (λ l. buffer ++ l) (sym h)

keeps-then : (a b c : Option (List ℕ)) → Keeps a b → Keeps b c → Keeps a c
keeps-then None b c h k = tt
keeps-then (Some xs) None c h k = absurd h
keeps-then (Some xs) (Some ys) None h k = k
keeps-then (Some xs) (Some ys) (Some zs) h k = k ∙ h

records-kept : (head : List ℕ) (a b c : Option (List ℕ)) (skipped bytes : List ℕ) → Keeps a b → RecordsThen head b skipped bytes c → RecordsThen head a skipped bytes c
records-kept head None b c skipped bytes h r = tt
records-kept head (Some xs) None c skipped bytes h r = absurd h
records-kept head (Some xs) (Some ys) None skipped bytes h r = r
records-kept head (Some xs) (Some ys) (Some zs) skipped bytes h r = (sym h ∙ r.0, ap (records_but head) (sym h) ∙ r.1)

end-kept : (k : Option (List ℕ)) (rest : List ℕ) → IsAtEnd k → rest ≡ [] → IsAtEnd (prepend_known rest k)
end-kept None rest h e = tt
end-kept (Some z) rest h e = rw (e, h) refl

pub nil-of : (l : List ℕ) → length l ≡ 0 → l ≡ []
nil-of [] e = refl
nil-of (x ∷ xs) e = absurd (omega arith)

-- ---- a part

next-is : (head : List ℕ) (k : Option (List ℕ)) (buffer bytes rest : List ℕ) → buffer ≡ bytes ++ rest
    → (IsWhole bytes × IsKept head bytes) ⊎ (IsAtEnd k × (rest ≡ []) × (records_but head bytes ≡ all_records bytes)) → RecordsThen head (prepend_known buffer k) [] bytes (prepend_known rest k)
next-is head None buffer bytes rest e w = tt
next-is head (Some z) buffer bytes rest e (inl whole) =
    let seam = ap (λ l. l ++ z) e ∙ append_assoc bytes rest z in
    (seam, ap (records_but head) seam ∙ whole.1 (rest ++ z))
next-is head (Some z) buffer bytes rest e (inr h) =
    let seam = ap (λ l. l ++ z) e ∙ append_assoc bytes rest z in
    let nil : rest ++ z ≡ [] = rw (h.1, h.0) refl in
    let none = but-of-none head in
    let all : records_but head (bytes ++ (rest ++ z)) ≡ all_records bytes ++ records_but head (rest ++ z) =
    rw nil (ap (records_but head) (append-nil bytes) ∙ (rw none (h.2 ∙ sym (append-nil (all_records bytes))))) in
    (seam, ap (records_but head) seam ∙ all)

part-of : {R : Type 0} (rem : R → Option (List ℕ)) (c : CutterState R) (rest : List ℕ) (end : ℕ) (part : Part) → IsCutter rem c → CanEnd c end (take end c.buffer)
    → rest ≡ drop end c.buffer → part.text.items ≡ c.header ++ take end c.buffer → part.header ≡ length c.header → part.skipped.items ≡ [] → (part.is_last ≡ true → (c.at_end ≡ true) × (rest ≡ []))
    → IsPart c.header (left_of rem c) (left_of rem (record { reader = c.reader; header = c.header; buffer = rest; at_end = c.at_end })) part
part-of rem c rest end part kept can rest_is text head skips last = record {
  bytes = take end c.buffer;
  text = text;
  header_len = head;
  few = can.few;
  read = ap records_in text ∙ kept.header (take end c.buffer);
  skipped = inl skips;
  next = rw skips (next-is (head_of c.header) (rem c.reader) c.buffer (take end c.buffer) rest (sym (take-append-drop end c.buffer) ∙ ap (λ l. take end c.buffer ++ l) (sym rest_is)) (whole can.whole));
  last = λ l. let h = last l in end-kept (rem c.reader) rest (kept.end h.0) h.1;
}
  where
    whole : (IsWhole (take end c.buffer) × IsKept (head_of c.header) (take end c.buffer)) ⊎ ((c.at_end ≡ true) × ((end ≡ length c.buffer) × (records_but (head_of c.header) (take end c.buffer) ≡ all_records (take end c.buffer))))
        → (IsWhole (take end c.buffer) × IsKept (head_of c.header) (take end c.buffer)) ⊎ (IsAtEnd (rem c.reader) × (rest ≡ []) × (records_but (head_of c.header) (take end c.buffer) ≡ all_records (take end c.buffer)))
    whole (inl w) = inl w
    whole (inr h) = inr (kept.end h.0, rest_is ∙ drop_all end c.buffer (omega (arith, h.1.0)), h.1.1)

-- a part is taken out of what was read
pub part-is : {R : Type 0} (rem : R → Option (List ℕ)) (c old : CutterState R) (rest : List ℕ) (end : ℕ) (part : Part) → c ≡ old → IsCutter rem c → CanEnd old end (take end old.buffer)
    → rest ≡ drop end c.buffer → part.text.items ≡ c.header ++ take end c.buffer → part.header ≡ length c.header → part.skipped.items ≡ [] → (part.is_last ≡ true → (c.at_end ≡ true) × (rest ≡ []))
    → IsPart old.header (left_of rem old) (left_of rem (record { reader = c.reader; header = c.header; buffer = rest; at_end = c.at_end })) part
part-is {R} rem c old rest end part is kept can rest_is text head skips last =
    let P : CutterState R → Type 0 = λ s. IsPart s.header (left_of rem s) (left_of rem (record { reader = c.reader; header = c.header; buffer = rest; at_end = c.at_end })) part in
    let Q : CutterState R → Type 0 = λ s. CanEnd s end (take end s.buffer) in
    subst P is (part-of rem c rest end part kept (subst Q (sym is) can) rest_is text head skips last)

-- the same after more was read
pub part-from : (ho hm : List ℕ) (a b c : Option (List ℕ)) (part : Part) → hm ≡ ho → Keeps a b → IsPart hm b c part → IsPart ho a c part
part-from ho hm a b c part e k p =
    let q : IsPart ho b c part = rw e at p in
    record {
      bytes = q.bytes;
      text = q.text;
      header_len = q.header_len;
      few = q.few;
      read = q.read;
      skipped = q.skipped;
      next = records-kept (head_of ho) a b c part.skipped.items q.bytes k q.next;
      last = q.last;
    }

pub part-from-2 : (ho hm hn : List ℕ) (a b c d : Option (List ℕ)) (part : Part) → hn ≡ hm → hm ≡ ho → Keeps a b → Keeps b c → IsPart hn c d part → IsPart ho a d part
part-from-2 ho hm hn a b c d part e f j k p = part-from ho hn a c d part (e ∙ f) (keeps-then a b c j k) p

-- ---- where a part can end

few-more : (head text : List ℕ) (stop : Stop) → Stops head text most_records stop → stop.records < most_records → stop.header ≡ 0 → HasNoEnd (drop stop.end text) × (length (all_records text) ≤ most_records)
few-more head text c s lt none = by s.all
  where
    split : length (all_records text) ≡ length (all_records (take c.end text)) + length (all_records (drop c.end text))
    split = ap (λ l. length (all_records l)) (sym (take-append-drop c.end text)) ∙ ap length (s.whole (drop c.end text)) ∙ length-append (all_records (take c.end text)) (all_records (drop c.end text))

    by : (c.records ≡ most_records) ⊎ (HasNoEnd (drop c.end text) ⊎ (0 < c.header)) → HasNoEnd (drop c.end text) × (length (all_records text) ≤ most_records)
    by (inl e) = absurd (omega (arith, e, lt))
    by (inr (inl h)) = let one = no-end-few (drop c.end text) h.to h.fields h.field h.fed in (h, omega (arith, one, split, s.count, lt))
    by (inr (inr more)) = absurd (omega (arith, more, none))

pub ends-all : {R : Type 0} (c : CutterState R) (stop : Stop) → Stops (head_of c.header) c.buffer most_records stop → stop.records < most_records → stop.header ≡ 0 → is_again (head_of c.header) (drop stop.end c.buffer) ≡ false → c.at_end ≡ true
    → CanEnd c (length c.buffer) (take (length c.buffer) c.buffer)
ends-all c stop stops lt none other at_end =
    let all : take (length c.buffer) c.buffer ≡ c.buffer = take_all (length c.buffer) c.buffer (omega arith) in
    let few = few-more (head_of c.header) c.buffer stop stops lt none in
    let kept = kept-all (head_of c.header) c.buffer stop.end stops.whole stops.kept few.0 other in
    record {
      within = omega arith;
      few = rw all few.1;
      whole = rw all (inr (at_end, (refl, kept)));
    }

pub ends-cut : {R : Type 0} (c : CutterState R) (stop : Stop) → Stops (head_of c.header) c.buffer most_records stop → CanEnd c stop.end (take stop.end c.buffer)
ends-cut c stop stops = record {
  within = stops.within;
  few = omega (arith, stops.count, stops.few);
  whole = inl (stops.whole, stops.kept);
}

-- ---- a header that is skipped

-- what is skipped of what was read
skips-then : (head : List ℕ) (k : Option (List ℕ)) (buffer skipped rest : List ℕ) → buffer ≡ skipped ++ rest
    → IsPassed head skipped ⊎ (IsAtEnd k × (rest ≡ []) × (records_but head buffer ≡ [])) → SkipsThen head (prepend_known buffer k) skipped (prepend_known rest k)
skips-then head None buffer skipped rest e p = tt
skips-then head (Some z) buffer skipped rest e (inl passed) =
    let seam = ap (λ l. l ++ z) e ∙ append_assoc skipped rest z in
    (seam, ap (records_but head) seam ∙ passed (rest ++ z))
skips-then head (Some z) buffer skipped rest e (inr h) =
    let seam = ap (λ l. l ++ z) e ∙ append_assoc skipped rest z in
    let nil : rest ++ z ≡ [] = rw (h.1, h.0) refl in
    let end : z ≡ [] = h.0 in
    let none = but-of-none head in
    let whole : buffer ++ z ≡ buffer = rw end (append-nil buffer) in
    (seam, rw nil (rw whole (h.2 ∙ sym none)))

skips-of : {R : Type 0} (rem : R → Option (List ℕ)) (c : CutterState R) (rest skipped : List ℕ) (end : ℕ) → IsCutter rem c → Passes (head_of c.header) c.buffer c.at_end end → 0 < end
    → rest ≡ drop end c.buffer → skipped ≡ take end c.buffer
    → Skips (head_of c.header) (left_of rem c) (left_of rem (record { reader = c.reader; header = c.header; buffer = rest; at_end = c.at_end })) skipped
skips-of rem c rest skipped end kept passes some rest_is skipped_is = record {
  once = inr (rw skipped_is (passes.repeated some));
  next = skips-then (head_of c.header) (rem c.reader) c.buffer skipped rest (rw (skipped_is, rest_is) (sym (take-append-drop end c.buffer))) (by passes.passed);
}
  where
    by : IsPassed (head_of c.header) (take end c.buffer) ⊎ ((c.at_end ≡ true) × (end ≡ length c.buffer) × (records_but (head_of c.header) c.buffer ≡ []))
        → IsPassed (head_of c.header) skipped ⊎ (IsAtEnd (rem c.reader) × (rest ≡ []) × (records_but (head_of c.header) c.buffer ≡ []))
    by (inl p) = inl (rw skipped_is p)
    by (inr h) = inr (kept.end h.0, rest_is ∙ drop_all end c.buffer (omega (arith, h.1)), h.2)

pub skips-is : {R : Type 0} (rem : R → Option (List ℕ)) (c old : CutterState R) (rest skipped : List ℕ) (end : ℕ) → c ≡ old → IsCutter rem c → Passes (head_of old.header) old.buffer old.at_end end → 0 < end
    → rest ≡ drop end c.buffer → skipped ≡ take end c.buffer
    → Skips (head_of old.header) (left_of rem old) (left_of rem (record { reader = c.reader; header = c.header; buffer = rest; at_end = c.at_end })) skipped
skips-is {R} rem c old rest skipped end is kept passes some rest_is skipped_is =
    let P : CutterState R → Type 0 = λ s. Skips (head_of s.header) (left_of rem s) (left_of rem (record { reader = c.reader; header = c.header; buffer = rest; at_end = c.at_end })) skipped in
    let Q : CutterState R → Type 0 = λ s. Passes (head_of s.header) s.buffer s.at_end end in
    subst P is (skips-of rem c rest skipped end kept (subst Q (sym is) passes) some rest_is skipped_is)

keeps-skips : (head : List ℕ) (k : Option (List ℕ)) → SkipsThen head k [] k
keeps-skips head None = tt
keeps-skips head (Some xs) = (refl, refl)

pub skips-nothing : (head : List ℕ) (k : Option (List ℕ)) (skipped : List ℕ) → skipped ≡ [] → Skips head k k skipped
skips-nothing head k skipped none = record {
  once = inl none;
  next = rw none (keeps-skips head k);
}

skips-kept : (head : List ℕ) (a b c : Option (List ℕ)) (skipped : List ℕ) → Keeps a b → SkipsThen head b skipped c → SkipsThen head a skipped c
skips-kept head None b c skipped h r = tt
skips-kept head (Some xs) None c skipped h r = absurd h
skips-kept head (Some xs) (Some ys) None skipped h r = r
skips-kept head (Some xs) (Some ys) (Some zs) skipped h r = (sym h ∙ r.0, ap (records_but head) (sym h) ∙ r.1)

-- the same after more was read
pub skips-from : (ho hm : List ℕ) (a b c : Option (List ℕ)) (skipped : List ℕ) → hm ≡ ho → Keeps a b → Skips (head_of hm) b c skipped → Skips (head_of ho) a c skipped
skips-from ho hm a b c skipped e k s =
    let q : Skips (head_of ho) b c skipped = rw e at s in
    record { once = q.once; next = skips-kept (head_of ho) a b c skipped k q.next }

skipped-then : (head : List ℕ) (a b c : Option (List ℕ)) (skipped bytes : List ℕ) → SkipsThen head a skipped b → RecordsThen head b [] bytes c → RecordsThen head a skipped bytes c
skipped-then head None b c skipped bytes s r = tt
skipped-then head (Some xs) None c skipped bytes s r = absurd s
skipped-then head (Some xs) (Some ys) None skipped bytes s r = r
skipped-then head (Some xs) (Some ys) (Some zs) skipped bytes s r = (s.0 ∙ ap (λ l. skipped ++ l) r.0, s.1 ∙ r.1)

-- a part behind what was skipped
pub part-behind : (ho hm : List ℕ) (a b c : Option (List ℕ)) (part whole : Part) → hm ≡ ho → Skips (head_of ho) a b whole.skipped.items → IsPart hm b c part → part.skipped.items ≡ []
    → whole ≡ record part { skipped = whole.skipped } → IsPart ho a c whole
part-behind ho hm a b c part whole e s p none is =
    let q : IsPart ho b c part = rw e at p in
    let text : whole.text.items ≡ part.text.items = ap (λ (w : Part). w.text.items) is in
    let head : whole.header ≡ part.header = ap (λ (w : Part). w.header) is in
    let last : whole.is_last ≡ part.is_last = ap (λ (w : Part). w.is_last) is in
    let next : RecordsThen (head_of ho) b [] q.bytes c = rw none at q.next in
    record {
      bytes = q.bytes;
      text = text ∙ q.text;
      header_len = head ∙ q.header_len;
      few = q.few;
      read = ap (λ l. records_in l) text ∙ q.read;
      skipped = s.once;
      next = skipped-then (head_of ho) a b c whole.skipped.items q.bytes s.next next;
      last = λ l. q.last (sym last ∙ l);
    }

-- ---- the header

mark-taken : (end : ℕ) (text : List ℕ) → mark_len text ≡ 0 → mark_len (take end text) ≡ 0
unfolding mark_len
mark-taken zero text h = refl
mark-taken (suc zero) [] h = refl
mark-taken (suc zero) (a ∷ t) h = refl
mark-taken (suc (suc zero)) [] h = refl
mark-taken (suc (suc zero)) (a ∷ []) h = refl
mark-taken (suc (suc zero)) (a ∷ b ∷ t) h = refl
mark-taken (suc (suc (suc n))) [] h = refl
mark-taken (suc (suc (suc n))) (a ∷ []) h = refl
mark-taken (suc (suc (suc n))) (a ∷ b ∷ []) h = refl
mark-taken (suc (suc (suc n))) (a ∷ b ∷ c ∷ t) h = h

-- the first bytes of a mark are no record
first-of-mark : IsWhole (239 ∷ []) → ⊥
unfolding all_records records_from next_record
first-of-mark w = let e : 1 ≡ 2 = ap length (w (97 ∷ [])) in absurd (omega (arith, e))

two-of-mark : IsWhole (239 ∷ 187 ∷ []) → ⊥
unfolding all_records records_from next_record
two-of-mark w = let e : 1 ≡ 2 = ap length (w (97 ∷ [])) in absurd (omega (arith, e))

unmarked : (b x : List ℕ) → IsWhole b → length (all_records b) ≡ 1 → mark_len b ≡ 0 → strip_bom (b ++ x) ≡ b ++ x
unfolding mark_len strip_bom
unmarked [] x w one m = let none = none-of-none in absurd (omega (arith, rw none at one))
unmarked (a ∷ []) x w one m = elim (cases_Bool (a == 239)) [
  | inl e ↦ let is = eqb-true a 239 e in absurd (first-of-mark (rw is at w))
  | inr e ↦ short x e
]
  where
    short : (x : List ℕ) → (a == 239) ≡ false → strip_bom (a ∷ x) ≡ a ∷ x
    short [] e = refl
    short (b ∷ []) e = refl
    short (b ∷ c ∷ r) e = rw e refl
unmarked (a ∷ b ∷ []) x w one m = elim (cases_Bool (a == 239)) [
  | inl e ↦ elim (cases_Bool (b == 187)) [
    | inl f ↦ let is = eqb-true a 239 e in let also = eqb-true b 187 f in absurd (two-of-mark (rw also at (rw is at w)))
    | inr f ↦ second x e f
  ]
  | inr e ↦ first x e
]
  where
    first : (x : List ℕ) → (a == 239) ≡ false → strip_bom (a ∷ b ∷ x) ≡ a ∷ b ∷ x
    first [] e = refl
    first (c ∷ r) e = rw e refl

    second : (x : List ℕ) → (a == 239) ≡ true → (b == 187) ≡ false → strip_bom (a ∷ b ∷ x) ≡ a ∷ b ∷ x
    second [] e f = refl
    second (c ∷ r) e f = rw (e, f) refl
unmarked (a ∷ b ∷ c ∷ r) x w one m = elim (cases_Bool (is_bom a b c)) [
  | inl e ↦ let k : 3 ≡ 0 = rw e at m in absurd (omega (arith, k))
  | inr e ↦ rw e refl
]

marked : (a b c end : ℕ) (r x : List ℕ) → is_bom a b c ≡ true → strip_bom (take (3 + end) (a ∷ b ∷ c ∷ r) ++ x) ≡ take end r ++ x
unfolding strip_bom
marked a b c end r x e = let three : 3 + end ≡ suc (suc (suc end)) = omega arith in rw three (rw e refl)

-- a text has no mark, or its header is without it what is cut off behind it
shape : (end : ℕ) (x t : List ℕ) → (mark_len t ≡ 0) ⊎ (strip_bom (take (mark_len t + end) t ++ x) ≡ take end (drop (mark_len t) t) ++ x)
unfolding mark_len
shape end x [] = inl refl
shape end x (a ∷ []) = inl refl
shape end x (a ∷ b ∷ []) = inl refl
shape end x (a ∷ b ∷ c ∷ r) = elim (cases_Bool (is_bom a b c)) [
  | inl e ↦ inr (rw e (marked a b c end r x e))
  | inr e ↦ inl (rw e refl)
]

-- the header of a text without its mark, with anything behind it
pub stripped : (text : List ℕ) (end : ℕ) → IsWhole (take end (drop (mark_len text) text)) → length (all_records (take end (drop (mark_len text) text))) ≡ 1
    → (x : List ℕ) → strip_bom (take (mark_len text + end) text ++ x) ≡ take end (drop (mark_len text) text) ++ x
stripped text end w one x = elim (shape end x text) [ inl m ↦ none m | inr done ↦ done ]
  where
    none : mark_len text ≡ 0 → strip_bom (take (mark_len text + end) text ++ x) ≡ take end (drop (mark_len text) text) ++ x
    none m =
        let zero_end : 0 + end ≡ end = omega arith in
        rw m (rw zero_end (unmarked (take end text) x (rw m at w) (rw m at one) (mark-taken end text m)))

pub head-is : (text : List ℕ) (cut : Cut) → Cuts (drop (mark_len text) text) 1 cut → cut.records ≡ 1 → IsHeader (take (mark_len text + cut.end) text) × (length (records_in (take (mark_len text + cut.end) text)) ≡ 1)
unfolding records_in
head-is text cut c one =
    let b = take cut.end (drop (mark_len text) text) in
    let single : length (all_records b) ≡ 1 = c.count ∙ one in
    let strip = stripped text cut.end c.whole single in
    let alone : strip_bom (take (mark_len text + cut.end) text) ≡ b =
    ap strip_bom (sym (append-nil (take (mark_len text + cut.end) text))) ∙ strip [] ∙ append-nil b in (
      (λ more. ap all_records (strip more) ∙ c.whole more ∙ ap (λ l. l ++ all_records more) (ap all_records (sym alone))),
      ap (λ l. length (all_records l)) alone ∙ single,
    )

pub cut-rest : (seen text : List ℕ) (mark : ℕ) (cut : Cut) → seen ≡ text → mark ≡ mark_len text → Cuts (take (length seen - mark) (drop mark seen)) 1 cut → Cuts (drop (mark_len text) text) 1 cut
cut-rest seen text mark cut e m h =
    let P : List ℕ → Type 0 = λ l. Cuts l 1 cut in
    subst P (take_rest seen mark ∙ (rw (e, m) refl)) h

pub begins : (known new : Option (List ℕ)) (text header rest : List ℕ) → Consumes known new text → text ≡ header ++ rest → IsHeader header → length (records_in header) ≡ 1 → BeginsWith known header (prepend_known rest new)
begins known new text header rest h e head one = record {
  one = one;
  then = by known new h;
}
  where
    by : (known new : Option (List ℕ)) → Consumes known new text → HeaderThen known header (prepend_known rest new)
    by None new h = tt
    by (Some t) None h = h
    by (Some t) (Some ys) h =
        let all : t ≡ header ++ (rest ++ ys) = h ∙ ap (λ l. l ++ ys) e ∙ append_assoc header rest ys in
        (all, ap records_in all ∙ head (rest ++ ys))
