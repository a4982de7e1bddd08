-- Heads are read up to the first whose entry doesn't go behind those before it.
use Rattle.std.proofs.Common.{◌≡◌, ◌∙◌, ◌-◌, ℕ, false, List, [], ◌∷◌, ◌++◌, length, take, drop, Result, Ok, Err, refl, sym, ap, subst, arith, append_assoc, append-nil, length-append}
use Rattle.std.specs.List.{flat_map}
use Rattle.std.proofs.lemmas.List.{drop-drop}
use Rattle.fw_bytes.proofs.Laws.{passed, ok_is}
use Rattle.fw_charge.specs.Charge.{Charge}
use Rattle.fw_entry.specs.Entry.{EntryValue}
use Rattle.fw_posted.proofs.MergeFacts.{two_ways}
use Rattle.fw_segment.proofs.Replay.{no_row_counts}
use Rattle.fw_segment.specs.Heads.{head}
use Rattle.fw_segment.specs.States.{replayed}
use Rattle.fw_snapshot.proofs.HeadFacts.{row_counts_cons}
use Rattle.fw_snapshot.specs.Heads.{HeadValue, entries_of, entry_of, row_count, row_counts}
use Rattle.fw_snapshot.specs.Verdicts.{goes_behind}
use Rattle.fw_definitions.specs.Replaying.{EachGoesBehind, HasBadHead, next_entry}

abbrev fails : ℕ → Result (List EntryValue) ℕ
fails at = Err at

same_place : (one other : ℕ) → fails one ≡ fails other → one ≡ other
same_place one other e = cc

pub all_read : (left : ℕ) (first : List EntryValue) (heads : List HeadValue) (rows : List Charge) (es : List EntryValue) → replayed left first heads rows ≡ Ok es
    → (es ≡ first ++ entries_of heads rows) × EachGoesBehind first (entries_of heads rows)
unfolding replayed entries_of
all_read left first [] rows es read = (sym (ok_is first es read) ∙ sym (append-nil first), tt)
all_read left first (h ∷ heads) rows es read =
    let n = row_count h.content in
    let one = entry_of h (take n rows) in
    let p = passed (goes_behind first one) left (replayed (left - length (head h)) (first ++ one ∷ []) heads (drop n rows)) es read in
    let rest = all_read (left - length (head h)) (first ++ one ∷ []) heads (drop n rows) es p.1 in
    (rest.0 ∙ append_assoc first (one ∷ []) (entries_of heads (drop n rows)), (p.0, rest.1))

pub bad_head : (left : ℕ) (first : List EntryValue) (heads : List HeadValue) (rows : List Charge) (at : ℕ) → replayed left first heads rows ≡ Err at → HasBadHead left first heads rows at
unfolding replayed entries_of
bad_head left first [] rows at read = absurd (cc)
bad_head left first (h ∷ heads) rows at read =
    let n = row_count h.content in
    let one = entry_of h (take n rows) in
    two_ways (goes_behind first one)
    (λ goes.
    let more : replayed (left - length (head h)) (first ++ one ∷ []) heads (drop n rows) ≡ Err at = rw goes at read in
    let rest = bad_head (left - length (head h)) (first ++ one ∷ []) heads (drop n rows) at more in
    let tail = entries_of rest.before (drop n rows) in
    let left_rows : drop (row_counts rest.before) (drop n rows) ≡ drop (row_counts (h ∷ rest.before)) rows =
    drop-drop (row_counts rest.before) n rows ∙ ap (λ (k : ℕ). drop k rows) (sym (row_counts_cons h rest.before)) in
    record {
      before = h ∷ rest.before;
      bad = rest.bad;
      after = rest.after;
      is = ap (λ (l : List HeadValue). h ∷ l) rest.is;
      each = (goes, rest.each);
      never = subst (λ (es : List EntryValue). goes_behind es (next_entry (h ∷ rest.before) rest.bad rows) ≡ false) (append_assoc first (one ∷ []) tail)
          (subst (λ (rs : List Charge). goes_behind ((first ++ one ∷ []) ++ tail) (entry_of rest.bad (take (row_count rest.bad.content) rs)) ≡ false) left_rows rest.never);
      place = omega (arith, rest.place, length-append (head h) (flat_map head rest.before));
    })
    (λ never.
    let here : left ≡ at = same_place left at (rw never at read) in
    let none : drop (row_counts []) rows ≡ rows = ap (λ (k : ℕ). drop k rows) no_row_counts in
    record {
      before = [];
      bad = h;
      after = heads;
      is = refl;
      each = tt;
      never = subst (λ (es : List EntryValue). goes_behind es (next_entry [] h rows) ≡ false) (sym (append-nil first))
          (subst (λ (rs : List Charge). goes_behind first (entry_of h (take n rs)) ≡ false) (sym none) never);
      place = omega (arith, here);
    })
