-- What a crash may leave of a file, said at once and said write by write, is the same.
use Rattle.std.proofs.Common.{◌≡◌, ◌⊎◌, ◌↔◌, inl, inr, ℕ, ◌+◌, ◌-◌, ◌<◌, ◌≤◌, min, false, List, [], ◌∷◌, ◌++◌, length, map, take, drop, get_or, refl, sym, ◌∙◌, ap, subst, arith, length-append, length-take, length-drop, get_or-take, get_or-drop}
use Rattle.std.proofs.lemmas.Grind.{elements, same_number_lists}
use Rattle.std.proofs.lemmas.Bool.Decides.{nat_tests}
use Rattle.fw_disk.specs.declared.volume.Side.{Side}
use Rattle.fw_disk.specs.declared.volume.Side.TheVariants.{Left, Right}
use Rattle.fw_disk.specs.declared.calls.Call.{Call}
use Rattle.fw_disk.specs.Volume.{Image, Torn}
use Rattle.fw_disk.specs.Memory.{Span, Range, range, undone, undone_all, LeavesFile, Fits, AllFit, length_before, is_within, files, pending, Leaves, file_state, Outcome}
use Rattle.fw_disk.proofs.Stops.{length-undone, length-undone_all, before_range, in_range, after_range, outside_more, lt_or_le}

outside_newest : (w : Span) (rs : List Range) (i : ℕ) → is_within (range w ∷ rs) i ≡ false → (i < w.at) ⊎ (w.at + w.n ≤ i)
outside_newest w rs i is = grind (arith, nat_tests, is)

outside_older : (w : Span) (rs : List Range) (i : ℕ) → is_within (range w ∷ rs) i ≡ false → is_within rs i ≡ false
outside_older w rs i is = grind (arith, nat_tests, is)

undone_outside : (file : List ℕ) (w : Span) → Fits (length file) w → (i : ℕ) → i < length (undone file w) → (i < w.at) ⊎ (w.at + w.n ≤ i) → get_or (undone file w) i 0 ≡ get_or file i 0
undone_outside file w fits i lt (inl low) = before_range file w i fits low
undone_outside file w fits i lt (inr high) = after_range file w i fits (omega (arith, high, fits)) (omega (arith, lt, length-undone file w fits))

-- a list in which a range was replaced
replaced_before : (c : List ℕ) (w : Span) (i : ℕ) → i < w.at → i < length c → get_or (undone c w) i 0 ≡ get_or c i 0
replaced_before c w i low lt = grind (arith, elements, low, lt)

replaced_within : (c : List ℕ) (w : Span) (i : ℕ) → i < length c → w.at ≤ i → i < w.at + length w.saved → get_or (undone c w) i 0 ≡ get_or w.saved (i - w.at) 0
replaced_within c w i lt low high = grind (arith, elements, lt, low, high)

replaced_after : (c : List ℕ) (w : Span) (i : ℕ) → w.at + w.n ≤ i → length w.saved ≡ w.n → i < length c → get_or (undone c w) i 0 ≡ get_or c i 0
replaced_after c w i high whole lt = grind (arith, elements, high, whole, lt)

-- outside the ranges a file is what it was before its writes
kept : (file : List ℕ) (ws : List Span) → AllFit (length file) ws → (i : ℕ) → i < length (undone_all file ws) → is_within (map range ws) i ≡ false → get_or (undone_all file ws) i 0 ≡ get_or file i 0
kept file [] fit i lt is = refl
kept file (w ∷ ws) fit i lt is =
    let earlier : AllFit (length (undone file w)) ws = subst (λ (n : ℕ). AllFit n ws) (sym (length-undone file w fit.0)) fit.1 in
    let near : i < length (undone file w) = omega (arith, lt, length-undone_all (undone file w) ws earlier) in
    kept (undone file w) ws earlier i lt (outside_older w (map range ws) i is) ∙ undone_outside file w fit.0 i near (outside_newest w (map range ws) i is)

-- said write by write, then at once

module _ (at n : ℕ) (old new : List ℕ) (torn : Torn at n old new) where
  torn_stays : (i : ℕ) → (i < at) ⊎ (at + n ≤ i) → get_or new i 0 ≡ get_or old i 0
  torn_stays i (inl low) = sym (get_or-take at new i 0 low) ∙ ap (λ (l : List ℕ). get_or l i 0) torn.before ∙ get_or-take at old i 0 low
  torn_stays i (inr high) =
      let far : at + n + (i - (at + n)) ≡ i = omega (arith, high) in
      ap (λ (k : ℕ). get_or new k 0) (sym far) ∙ sym (get_or-drop (at + n) new (i - (at + n)) 0) ∙ ap (λ (l : List ℕ). get_or l (i - (at + n)) 0) torn.after ∙ get_or-drop (at + n) old (i - (at + n)) 0 ∙ ap (λ (k : ℕ). get_or old k 0) far

pub is_outcome : (file c : List ℕ) (ws : List Span) → AllFit (length file) ws → LeavesFile file ws c → Outcome (file_state file ws) c
is_outcome file c [] fit same = record { no_shorter = omega (arith, ap (λ (l : List ℕ). length l) same); no_longer = omega (arith, ap (λ (l : List ℕ). length l) same); stays = λ i lt is. ap (λ (l : List ℕ). get_or l i 0) same }
is_outcome file c (w ∷ ws) fit (inl same) = record {
  no_shorter = omega (arith, ap (λ (l : List ℕ). length l) same, length-undone_all file (w ∷ ws) fit);
  no_longer = omega (arith, ap (λ (l : List ℕ). length l) same);
  stays = λ i lt is. ap (λ (l : List ℕ). get_or l i 0) same ∙ sym (kept file (w ∷ ws) fit i lt is);
}
is_outcome file c (w ∷ ws) fit (inr was) =
    let d = was.0 in
    let torn : Torn w.at w.n d c = was.2 in
    let shorter = length-undone file w fit.0 in
    let earlier : Outcome (file_state (undone file w) ws) d = is_outcome (undone file w) d ws (subst (λ (n : ℕ). AllFit n ws) (sym shorter) fit.1) was.1 in
    record {
      no_shorter = omega (arith, earlier.no_shorter, torn.no_shorter);
      no_longer = omega (arith, earlier.no_longer, torn.no_longer, shorter, fit.0);
      stays = λ i lt is. torn_stays w.at w.n d c torn i (outside_newest w (map range ws) i is) ∙ earlier.stays i lt (outside_older w (map range ws) i is);
    }

-- said at once, then write by write

module _ (file c : List ℕ) (w : Span) (ws : List Span) (fits : Fits (length file) w) (fit : AllFit (length (undone file w)) ws) (outcome : Outcome (file_state file (w ∷ ws)) c) where
  -- the outcome before the newest write: what that write replaced stands in its range, as far as the outcome goes
  abbrev older : List ℕ
  older = take (min (length c) (length (undone file w))) (undone c w)

  long_before : length (undone file w) ≡ length_before (length file) w
  long_before = length-undone file w fits

  long_undone : length (undone c w) ≡ min w.at (length c) + length w.saved + (length c - (w.at + w.n))
  long_undone = omega (arith, length-append (take w.at c ++ w.saved) (drop (w.at + w.n) c), length-append (take w.at c) w.saved, length-take w.at c, length-drop (w.at + w.n) c)

  length_older : length older ≡ min (length c) (length (undone file w))
  length_older = omega (arith, length-take (min (length c) (length (undone file w))) (undone c w), long_undone, long_before, fits, outcome.no_longer)

  older_outside : (i : ℕ) → i < length older → (i < w.at) ⊎ (w.at + w.n ≤ i) → get_or older i 0 ≡ get_or c i 0
  older_outside i lt (inl low) = get_or-take (min (length c) (length (undone file w))) (undone c w) i 0 (omega (arith, lt, length_older)) ∙ replaced_before c w i low (omega (arith, lt, length_older))
  older_outside i lt (inr high) =
      get_or-take (min (length c) (length (undone file w))) (undone c w) i 0 (omega (arith, lt, length_older))
      ∙ replaced_after c w i high (omega (arith, lt, length_older, long_before, fits, high)) (omega (arith, lt, length_older))

  older_inside : (i : ℕ) → i < length older → w.at ≤ i → i < w.at + w.n → get_or older i 0 ≡ get_or (undone file w) i 0
  older_inside i lt low high =
      let saved : i < w.at + length w.saved = omega (arith, lt, low, high, length_older, long_before, fits) in
      get_or-take (min (length c) (length (undone file w))) (undone c w) i 0 (omega (arith, lt, length_older))
      ∙ replaced_within c w i (omega (arith, lt, low, length_older)) low saved ∙ sym (in_range file w i fits low saved)

  older_stays : (i : ℕ) → i < length (undone_all (undone file w) ws) → is_within (map range ws) i ≡ false → get_or older i 0 ≡ get_or (undone_all (undone file w) ws) i 0
  older_stays i lt is = by_place (lt_or_le i w.at) (lt_or_le i (w.at + w.n))
    where
      within : i < length older
      within = omega (arith, lt, length_older, outcome.no_shorter, length-undone_all (undone file w) ws fit)

      by_place : (i < w.at) ⊎ (w.at ≤ i) → (i < w.at + w.n) ⊎ (w.at + w.n ≤ i) → get_or older i 0 ≡ get_or (undone_all (undone file w) ws) i 0
      by_place (inl low) _ = older_outside i within (inl low) ∙ outcome.stays i lt (outside_more w (map range ws) i (inl low) is)
      by_place (inr low) (inl high) = older_inside i within low high ∙ sym (kept (undone file w) ws fit i lt is)
      by_place (inr low) (inr high) = older_outside i within (inr high) ∙ outcome.stays i lt (outside_more w (map range ws) i (inr high) is)

  older_outcome : Outcome (file_state (undone file w) ws) older
  older_outcome = record {
    no_shorter = omega (arith, length_older, outcome.no_shorter, length-undone_all (undone file w) ws fit);
    no_longer = omega (arith, length_older);
    stays = older_stays;
  }

  newest : Torn w.at w.n older c
  newest = record {
    before = same_number_lists (take w.at c) (take w.at older) (omega (arith, length-take w.at c, length-take w.at older, length_older, long_before))
        (λ k lt. let low : k < w.at = omega (arith, lt, length-take w.at c) in
        get_or-take w.at c k 0 low ∙ sym (older_outside k (omega (arith, lt, length-take w.at c, length_older, long_before)) (inl low)) ∙ sym (get_or-take w.at older k 0 low));
    after = same_number_lists (drop (w.at + w.n) c) (drop (w.at + w.n) older) (omega (arith, length-drop (w.at + w.n) c, length-drop (w.at + w.n) older, length_older, long_before, fits, outcome.no_longer))
        (λ k lt. get_or-drop (w.at + w.n) c k 0
        ∙ sym (older_outside (w.at + w.n + k) (omega (arith, lt, length-drop (w.at + w.n) c, length_older, long_before, fits, outcome.no_longer)) (inr (omega arith)))
        ∙ sym (get_or-drop (w.at + w.n) older k 0));
    no_shorter = omega (arith, length_older);
    no_longer = omega (arith, length_older, long_before, fits, outcome.no_longer);
  }

pub is_left : (file c : List ℕ) (ws : List Span) → AllFit (length file) ws → Outcome (file_state file ws) c → LeavesFile file ws c
is_left file c [] fit outcome =
    let long : length c ≡ length file = omega (arith, outcome.no_shorter, outcome.no_longer) in
    same_number_lists c file long (λ k lt. outcome.stays k (omega (arith, lt, long)) refl)
is_left file c (w ∷ ws) fit outcome =
    let earlier : AllFit (length (undone file w)) ws = subst (λ (n : ℕ). AllFit n ws) (sym (length-undone file w fit.0)) fit.1 in
    inr (older file c w ws fit.0 earlier outcome, is_left (undone file w) (older file c w ws fit.0 earlier outcome) ws earlier (older_outcome file c w ws fit.0 earlier outcome), newest file c w ws fit.0 earlier outcome)

-- of both files
pub both_outcomes : (left right : List ℕ) (calls : List Call) → AllFit (length left) (pending Left calls) → AllFit (length right) (pending Right calls) → (c : Image) → Leaves left right calls c ↔ ((s : Side) → Outcome (file_state (files left right s) (pending s calls)) (c s))
both_outcomes left right calls fit_left fit_right c = (there, back)
  where
    there : Leaves left right calls c → (s : Side) → Outcome (file_state (files left right s) (pending s calls)) (c s)
    there both Left = is_outcome left (c Left) (pending Left calls) fit_left both.0
    there both Right = is_outcome right (c Right) (pending Right calls) fit_right both.1

    back : ((s : Side) → Outcome (file_state (files left right s) (pending s calls)) (c s)) → Leaves left right calls c
    back each = (is_left left (c Left) (pending Left calls) fit_left (each Left), is_left right (c Right) (pending Right calls) fit_right (each Right))
