-- The lines of an hour that is dealt to shards are those of the shards, each once.
use Rattle.std.proofs.Common.{◌≡◌, ◌∙◌, ℕ, zero, suc, ◌+◌, ◌<◌, ◌≤◌, ◌==◌, Bool, true, false, not, cond, List, [], ◌∷◌, ◌++◌, All, get_or, length, map, filter, refl, sym, ap, subst, arith}
use Rattle.std.specs.List.{AllZip, enumerate_from, flat_map, range_with_len, zip}
use Rattle.std.specs.List.Sorted.{IsPermutation}
use Rattle.std.proofs.lemmas.List.{length-map}
use Rattle.std.proofs.lemmas.List.Elements.{All-cons, All-head, All-nil, All-tail}
use Rattle.std.proofs.lemmas.List.Folds.{flat_map-map}
use Rattle.std.proofs.lemmas.List.Sorted.{IsPermutation-append, IsPermutation-sym, IsPermutation-trans}
use Rattle.std.proofs.lemmas.Option.{slice_get_within}
use Rattle.fw_amortise.specs.LineValue.{LineValue}
use Rattle.fw_amortise.specs.Lines.{AreHourLines, AreLines, AreLinesAt, given_line, given_lines, purchase_lines, purchase_lines_of, rest_lines, rest_of, running}
use Rattle.fw_amortise.proofs.OneList.{hour_lines_same}
use Rattle.fw_charge.specs.Charge.{Charge}
use Rattle.fw_cover.specs.Eligible.{is_eligible}
use Rattle.fw_cover.specs.Hour.{hour_cover, left_of}
use Rattle.fw_cover.specs.Meeting.{Meets}
use Rattle.fw_cover.specs.declared.taken.Taken.{Taken}
use Rattle.fw_cover.proofs.Within.{all_enumerate}
use Rattle.fw_entry.specs.Entry.{EntryValue}
use Rattle.fw_shards.specs.Asked.{AreShardsOf, AskedValue, HoldHours, asked_for}
use Rattle.fw_shards.specs.Dealt.{AreDealt, IsDealt, charges_in, commitments_in, dealt_to}
use Rattle.fw_shards.proofs.LineFacts.{hour_kept, hour_with, items_of, picked, running_there}
use Rattle.fw_shards.proofs.ListFacts.{by_number, flat_both, flat_same, two_ways}
use Rattle.fw_shards.proofs.RangeFacts.{AddUp, AreHourOf}
use Rattle.fw_shards.proofs.RankFacts.{kept_from}
use Rattle.fw_snapshot.specs.History.{commitments_of, rows_of}
use Rattle.fw_sums.specs.RangeLines.{joined}
use Rattle.fw_terms.specs.Commitment.{CommitmentValue}

-- ---- what each item brings, once it is dealt
items_bring : {X Y : Type 0} (f : X → List Y) (n : ℕ) (xs : List X) → flat_map (λ x. f x.1) (enumerate_from n xs) ≡ flat_map f xs
items_bring f n [] = refl
items_bring f n (x ∷ xs) = ap (λ l. f x ++ l) (items_bring f (n + 1) xs)

dealt_bring : {X Y : Type 0} (f : X → List Y) (owner : ℕ → ℕ) (n : ℕ) (xs : List X) → ((place : ℕ) → place < length xs → owner place < n)
    → IsPermutation (flat_map (λ k. flat_map f (dealt_to owner xs k)) (range_with_len 0 n)) (flat_map f xs)
unfolding dealt_to
dealt_bring {X} f owner n xs each =
    let labelled : List (ℕ × X) = enumerate_from 0 xs in
    let below : All (λ x. owner x.0 < n) labelled = all_enumerate (λ x. owner x.0 < n) xs (λ k d lt. each k lt) in
    let same : flat_map (λ k. flat_map (λ x. f x.1) (filter (λ x. owner x.0 == k) labelled)) (range_with_len 0 n) ≡ flat_map (λ k. flat_map f (map (λ x. x.1) (filter (λ x. owner x.0 == k) labelled))) (range_with_len 0 n) =
    flat_same (λ k. flat_map (λ x. f x.1) (filter (λ x. owner x.0 == k) labelled)) (λ k. flat_map f (map (λ x. x.1) (filter (λ x. owner x.0 == k) labelled))) 0 n
    (λ h low high. sym (flat_map-map f (λ x. x.1) (filter (λ x. owner x.0 == h) labelled))) in
    IsPermutation-sym (flat_map f xs) (flat_map (λ k. flat_map f (map (λ x. x.1) (filter (λ x. owner x.0 == k) labelled))) (range_with_len 0 n))
    (subst (IsPermutation (flat_map f xs)) same
    (subst (λ l. IsPermutation l (flat_map (λ k. flat_map (λ x. f x.1) (filter (λ x. owner x.0 == k) labelled)) (range_with_len 0 n))) (items_bring f 0 xs)
    (by_number (λ x. f x.1) (λ x. owner x.0) n labelled below)))

given_of : ℕ → Charge → List LineValue
given_of hour row = cond (not (is_eligible row)) (given_line hour row ∷ []) []

given_each : (hour : ℕ) (rows : List Charge) → flat_map (given_of hour) rows ≡ given_lines rows hour
unfolding given_of given_lines
given_each hour [] = refl
given_each hour (row ∷ rows) =
    let rest : List Charge = filter (λ r. not (is_eligible r)) rows in
    two_ways (not (is_eligible row))
    (λ holds.
    ap (λ b. cond b (given_line hour row ∷ []) [] ++ flat_map (given_of hour) rows) holds
    ∙ ap (λ l. given_line hour row ∷ l) (given_each hour rows)
    ∙ sym (ap (λ b. map (given_line hour) (cond b (row ∷ rest) rest)) holds))
    (λ fails.
    ap (λ b. cond b (given_line hour row ∷ []) [] ++ flat_map (given_of hour) rows) fails
    ∙ given_each hour rows
    ∙ sym (ap (λ b. map (given_line hour) (cond b (row ∷ rest) rest)) fails))

all_zip : {X Y : Type 0} (P : X → Type 0) (xs : List X) (ys : List Y) → All P xs → All (λ z. P z.0) (zip xs ys)
all_zip {X} {Y} P [] ys all = All-nil (λ (z : X × Y). P z.0)
all_zip {X} {Y} P (x ∷ xs) [] all = All-nil (λ (z : X × Y). P z.0)
all_zip {X} {Y} P (x ∷ xs) (y ∷ ys) all = All-cons (λ (z : X × Y). P z.0) (x, y) (zip xs ys) (All-head P x xs all) (all_zip P xs ys (All-tail P x xs all))

zip_brings : {X : Type 0} (R : X → List LineValue → Type 0) (xs : List X) (lists : List (List LineValue)) → AllZip R xs lists → flat_map (λ z. z.1) (zip xs lists) ≡ flat_map (λ ls. ls) lists
zip_brings R [] [] are = refl
zip_brings R [] (l ∷ lists) are = absurd are
zip_brings R (x ∷ xs) [] are = absurd are
zip_brings R (x ∷ xs) (l ∷ lists) are = ap (λ r. l ++ r) (zip_brings R xs lists are.1)

-- ---- four lists for each shard
four : (p q r s : ℕ → List LineValue) (n : ℕ) (a b c d : List LineValue) → IsPermutation (flat_map p (range_with_len 0 n)) a → IsPermutation (flat_map q (range_with_len 0 n)) b → IsPermutation (flat_map r (range_with_len 0 n)) c
    → IsPermutation (flat_map s (range_with_len 0 n)) d → IsPermutation (flat_map (λ k. ((p k ++ q k) ++ r k) ++ s k) (range_with_len 0 n)) (((a ++ b) ++ c) ++ d)
four p q r s n a b c d pa pb pc pd =
    let hours : List ℕ = range_with_len 0 n in
    let two : IsPermutation (flat_map (λ k. p k ++ q k) hours) (a ++ b) =
    IsPermutation-trans (flat_map (λ k. p k ++ q k) hours) (flat_map p hours ++ flat_map q hours) (a ++ b) (flat_both p q hours) (IsPermutation-append (flat_map p hours) a (flat_map q hours) b pa pb) in
    let three : IsPermutation (flat_map (λ k. (p k ++ q k) ++ r k) hours) ((a ++ b) ++ c) =
    IsPermutation-trans (flat_map (λ k. (p k ++ q k) ++ r k) hours) (flat_map (λ k. p k ++ q k) hours ++ flat_map r hours) ((a ++ b) ++ c) (flat_both (λ k. p k ++ q k) r hours)
    (IsPermutation-append (flat_map (λ k. p k ++ q k) hours) (a ++ b) (flat_map r hours) c two pc) in
    IsPermutation-trans (flat_map (λ k. ((p k ++ q k) ++ r k) ++ s k) hours) (flat_map (λ k. (p k ++ q k) ++ r k) hours ++ flat_map s hours) (((a ++ b) ++ c) ++ d) (flat_both (λ k. (p k ++ q k) ++ r k) s hours)
    (IsPermutation-append (flat_map (λ k. (p k ++ q k) ++ r k) hours) ((a ++ b) ++ c) (flat_map s hours) d three pd)

-- ---- the lines of an hour, dealt
module _ (cs : List CommitmentValue) (rows : List Charge) (hour : ℕ) (owner row_owner : ℕ → ℕ) (n : ℕ) (each : (place : ℕ) → place < length cs → owner place < n) (each_row : (place : ℕ) → place < length rows → row_owner place < n)
    (apart : (place row : ℕ) → Meets cs rows hour place row → owner place ≡ row_owner row) (lines : List LineValue) (are : AreHourLines cs rows hour lines) where
  purchases_at : ℕ → List LineValue
  purchases_at k = purchase_lines (dealt_to owner cs k) hour

  givens_at : ℕ → List LineValue
  givens_at k = given_lines (dealt_to row_owner rows k) hour

  shares_at : ℕ → List LineValue
  shares_at k = flat_map (λ ls. ls) (picked (λ i. owner i == k) (running cs hour) are.shared)

  rests_at : ℕ → List LineValue
  rests_at k = flat_map (λ r. rest_of hour r.1 (left_of rows (hour_cover cs rows hour) r.0)) (kept_from (λ j. row_owner j == k) 0 rows)

  pub lines_at : ℕ → List LineValue
  lines_at k = ((purchases_at k ++ givens_at k) ++ shares_at k) ++ rests_at k

  pub lines_at_are : (k : ℕ) → AreHourLines (dealt_to owner cs k) (dealt_to row_owner rows k) hour (lines_at k)
  unfolding dealt_to lines_at purchases_at givens_at shares_at rests_at
  lines_at_are k = hour_kept cs rows hour (λ i. owner i == k) (λ j. row_owner j == k) (λ place row meets. ap (λ o. o == k) (apart place row meets)) are.shared are.are_shared

  purchases_add : IsPermutation (flat_map purchases_at (range_with_len 0 n)) (purchase_lines cs hour)
  unfolding purchases_at purchase_lines
  purchases_add = dealt_bring (purchase_lines_of hour) owner n cs each

  givens_add : IsPermutation (flat_map givens_at (range_with_len 0 n)) (given_lines rows hour)
  unfolding givens_at
  givens_add =
      let same : flat_map (λ k. flat_map (given_of hour) (dealt_to row_owner rows k)) (range_with_len 0 n) ≡ flat_map (λ k. given_lines (dealt_to row_owner rows k) hour) (range_with_len 0 n) =
      flat_same (λ k. flat_map (given_of hour) (dealt_to row_owner rows k)) (λ k. given_lines (dealt_to row_owner rows k) hour) 0 n (λ h low high. given_each hour (dealt_to row_owner rows h)) in
      subst (λ l. IsPermutation l (given_lines rows hour)) same
      (subst (IsPermutation (flat_map (λ k. flat_map (given_of hour) (dealt_to row_owner rows k)) (range_with_len 0 n))) (given_each hour rows) (dealt_bring (given_of hour) row_owner n rows each_row))

  runs_below : All (λ c. owner c.0 < n) (running cs hour)
  runs_below = λ k d lt. let c : ℕ × CommitmentValue = get_or (running cs hour) k d in each c.0 (slice_get_within cs c.0 c.1 (running_there cs hour k d lt))

  shares_add : IsPermutation (flat_map shares_at (range_with_len 0 n)) (flat_map (λ ls. ls) are.shared)
  unfolding shares_at
  shares_add =
      let zipped : List ((ℕ × CommitmentValue) × List LineValue) = zip (running cs hour) are.shared in
      let below : All (λ z. owner z.0.0 < n) zipped = all_zip (λ c. owner c.0 < n) (running cs hour) are.shared runs_below in
      let same : flat_map (λ k. flat_map (λ z. z.1) (filter (λ z. owner z.0.0 == k) zipped)) (range_with_len 0 n) ≡ flat_map (λ k. flat_map (λ ls. ls) (picked (λ i. owner i == k) (running cs hour) are.shared)) (range_with_len 0 n) =
      flat_same (λ k. flat_map (λ z. z.1) (filter (λ z. owner z.0.0 == k) zipped)) (λ k. flat_map (λ ls. ls) (picked (λ i. owner i == k) (running cs hour) are.shared)) 0 n
      (λ h low high. sym (flat_map-map (λ ls. ls) (λ z. z.1) (filter (λ z. owner z.0.0 == h) zipped))) in
      IsPermutation-sym (flat_map (λ ls. ls) are.shared) (flat_map (λ k. flat_map (λ ls. ls) (picked (λ i. owner i == k) (running cs hour) are.shared)) (range_with_len 0 n))
      (subst (IsPermutation (flat_map (λ ls. ls) are.shared)) same
      (subst (λ l. IsPermutation l (flat_map (λ k. flat_map (λ z. z.1) (filter (λ z. owner z.0.0 == k) zipped)) (range_with_len 0 n)))
      (zip_brings (AreLinesAt cs rows (hour_cover cs rows hour) hour) (running cs hour) are.shared are.are_shared)
      (by_number (λ z. z.1) (λ z. owner z.0.0) n zipped below)))

  rests_add : IsPermutation (flat_map rests_at (range_with_len 0 n)) (rest_lines rows (hour_cover cs rows hour) hour)
  unfolding rests_at rest_lines
  rests_add =
      let below : All (λ r. row_owner r.0 < n) (enumerate_from 0 rows) = all_enumerate (λ r. row_owner r.0 < n) rows (λ k d lt. each_row k lt) in
      IsPermutation-sym (flat_map (λ r. rest_of hour r.1 (left_of rows (hour_cover cs rows hour) r.0)) (enumerate_from 0 rows)) (flat_map rests_at (range_with_len 0 n))
      (by_number (λ r. rest_of hour r.1 (left_of rows (hour_cover cs rows hour) r.0)) (λ r. row_owner r.0) n (enumerate_from 0 rows) below)

  pub lines_at_add : IsPermutation (flat_map lines_at (range_with_len 0 n)) lines
  unfolding lines_at
  lines_at_add =
      subst (IsPermutation (flat_map (λ k. ((purchases_at k ++ givens_at k) ++ shares_at k) ++ rests_at k) (range_with_len 0 n))) (sym are.are_lines)
      (four purchases_at givens_at shares_at rests_at n (purchase_lines cs hour) (given_lines rows hour) (flat_map (λ ls. ls) are.shared) (rest_lines rows (hour_cover cs rows hour) hour)
      purchases_add givens_add shares_add rests_add)

-- ---- the shards' lines are these
hour_of_lines : (hour : ℕ) (history : List EntryValue) (lines : List LineValue) → AreHourOf hour history lines → AreHourLines (commitments_in hour history) (charges_in hour history) hour lines
unfolding AreLines
hour_of_lines hour history lines are = hour_with (commitments_of history) (charges_in hour history) hour lines are

lists_same : (hour : ℕ) (ds : List CommitmentValue) (rs : List Charge) (owner row_owner : ℕ → ℕ) (lines : ℕ → List LineValue) → ((k : ℕ) → AreHourLines (dealt_to owner ds k) (dealt_to row_owner rs k) hour (lines k))
    → (shards : List (List EntryValue)) (each : List (List LineValue)) (n from : ℕ) → map (commitments_in hour) shards ≡ map (dealt_to owner ds) (range_with_len from n) → map (charges_in hour) shards ≡ map (dealt_to row_owner rs) (range_with_len from n)
    → AllZip (AreHourOf hour) shards each → joined each ≡ flat_map lines (range_with_len from n)
lists_same hour ds rs owner row_owner lines are [] [] zero from same same_rows zipped = refl
lists_same hour ds rs owner row_owner lines are [] [] (suc n) from same same_rows zipped = absurd (cc)
lists_same hour ds rs owner row_owner lines are [] (l ∷ each) n from same same_rows zipped = absurd zipped
lists_same hour ds rs owner row_owner lines are (s ∷ shards) [] n from same same_rows zipped = absurd zipped
lists_same hour ds rs owner row_owner lines are (s ∷ shards) (l ∷ each) zero from same same_rows zipped = absurd (cc)
lists_same hour ds rs owner row_owner lines are (s ∷ shards) (l ∷ each) (suc n) from same same_rows zipped =
    let first : commitments_in hour s ≡ dealt_to owner ds from = cc in
    let others : map (commitments_in hour) shards ≡ map (dealt_to owner ds) (range_with_len (from + 1) n) = cc in
    let first_rows : charges_in hour s ≡ dealt_to row_owner rs from = cc in
    let other_rows : map (charges_in hour) shards ≡ map (dealt_to row_owner rs) (range_with_len (from + 1) n) = cc in
    let mine : AreHourLines (dealt_to owner ds from) (dealt_to row_owner rs from) hour l =
    subst (λ (es : List CommitmentValue). AreHourLines es (dealt_to row_owner rs from) hour l) first
    (subst (λ (ts : List Charge). AreHourLines (commitments_in hour s) ts hour l) first_rows (hour_of_lines hour s l zipped.0)) in
    let one : l ≡ lines from = hour_lines_same (dealt_to owner ds from) (dealt_to row_owner rs from) hour l (lines from) mine (are from) in
    let rest = lists_same hour ds rs owner row_owner lines are shards each n (from + 1) others other_rows zipped.1 in
    λ j. one j ++ rest j

pub shards_add : (whole : List EntryValue) (from to : ℕ) (asked : List AskedValue) → AreShardsOf whole from to asked → AddUp whole from to asked
shards_add whole from to asked shards = λ hour low high lines each are each_are.
    let dealt : IsDealt hour whole (asked_for hour asked) = shards.dealt hour low high in
    let ds : List CommitmentValue = commitments_in hour whole in
    let rs : List Charge = charges_in hour whole in
    let held : List (List EntryValue) = asked_for hour asked in
    let n : ℕ = length (map (commitments_in hour) held) in
    let many : length (map (charges_in hour) held) ≡ n = length-map held (charges_in hour) ∙ sym (length-map held (commitments_in hour)) in
    let each_row : (place : ℕ) → place < length rs → dealt.row_owner place < n = λ place lt. subst (λ m. dealt.row_owner place < m) many (dealt.rows.each place lt) in
    let rows_are : map (charges_in hour) held ≡ map (dealt_to dealt.row_owner rs) (range_with_len 0 n) = dealt.rows.shards_are ∙ ap (λ m. map (dealt_to dealt.row_owner rs) (range_with_len 0 m)) many in
    let own : AreHourLines ds rs hour lines = hour_of_lines hour whole lines are in
    let at : ℕ → List LineValue = lines_at ds rs hour dealt.owner dealt.row_owner n dealt.commitments.each each_row dealt.apart lines own in
    let same : joined each ≡ flat_map at (range_with_len 0 n) =
    lists_same hour ds rs dealt.owner dealt.row_owner at (lines_at_are ds rs hour dealt.owner dealt.row_owner n dealt.commitments.each each_row dealt.apart lines own) held each n 0 dealt.commitments.shards_are rows_are each_are in
    subst (λ l. IsPermutation l lines) (sym same) (lines_at_add ds rs hour dealt.owner dealt.row_owner n dealt.commitments.each each_row dealt.apart lines own)
