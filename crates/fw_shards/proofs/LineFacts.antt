-- The lines of some commitments and of their own rows are those that they have among others.
use Rattle.std.proofs.Common.{◌≡◌, ◌∙◌, ℕ, ◌+◌, ◌==◌, ◌||◌, ◌&&◌, Bool, true, false, not, cond, List, [], ◌∷◌, ◌++◌, All, get_or, length, map, filter, Option, Some, refl, sym, ap, subst}
use Rattle.std.specs.Prelude.{slice_get}
use Rattle.std.specs.List.{AllZip, enumerate_from, flat_map, list_any, zip}
use Rattle.std.specs.Option.{option_map_or}
use Rattle.std.proofs.lemmas.Bool.{and_parts, eqb-true}
use Rattle.std.proofs.lemmas.List.{length-map}
use Rattle.std.proofs.lemmas.List.Elements.{All-filter, All-head, All-tail, filter_passes}
use Rattle.std.proofs.lemmas.List.Folds.{flat_map-map}
use Rattle.std.proofs.lemmas.Option.{slice_get-get_or}
use Rattle.fw_amortise.specs.LineValue.{LineValue}
use Rattle.fw_amortise.specs.Lines.{AreCommitmentLines, AreHourLines, AreLinesAt, amount_in, given_lines, purchase_lines, purchase_lines_of, rest_lines, rest_of, running, shared_lines, used_line, weights_of}
use Rattle.fw_charge.specs.Charge.{Charge, hour_of}
use Rattle.fw_cover.specs.Applies.{allows, applied, fits, has_unit, is_in_term, is_open}
use Rattle.fw_cover.specs.Hour.{hour_cover, left_of, takes_of, unused_of}
use Rattle.fw_cover.specs.Meeting.{Meets}
use Rattle.fw_cover.specs.Order.{commitments_in_order}
use Rattle.fw_cover.specs.declared.taken.Taken.{Taken}
use Rattle.fw_cover.proofs.ByCommitment.{filter_every}
use Rattle.fw_cover.proofs.Index.{filter_map_of}
use Rattle.fw_cover.proofs.Whole.{takes_meet}
use Rattle.fw_cover.proofs.Within.{all_enumerate, commitments_in_order_places, open_from}
use Rattle.fw_shares.specs.Shares.{IsShares}
use Rattle.fw_sums.specs.Hours.{has_line}
use Rattle.fw_terms.specs.Commitment.{CommitmentValue, PurchaseValue}
use Rattle.fw_shards.proofs.CoverFacts.{filter_swap, left_kept, order_kept, take_to, takes_kept, unused_kept}
use Rattle.fw_shards.proofs.ListFacts.{two_ways}
use Rattle.fw_shards.proofs.RankFacts.{kept, kept_at, kept_from, rank, ranked, ranked_kept}

-- of some lists of lines, one for each commitment, those of the commitments that are kept
abbrev pub picked : (ℕ → Bool) → List (ℕ × CommitmentValue) → List (List LineValue) → List (List LineValue)
picked mine cs shared = map (λ z. z.1) (filter (λ z. mine z.0.0) (zip cs shared))

-- ---- the commitments that run are where the list has them
pub running_there : (cs : List CommitmentValue) (hour : ℕ) → All (λ c. slice_get cs c.0 ≡ Some c.1) (running cs hour)
unfolding running
running_there cs hour = All-filter (λ c. is_in_term c.1 hour) (λ c. slice_get cs c.0 ≡ Some c.1) (commitments_in_order cs) (commitments_in_order_places cs)

running_run : (cs : List CommitmentValue) (hour : ℕ) → All (λ c. is_in_term c.1 hour ≡ true) (running cs hour)
unfolding running
running_run cs hour = filter_passes (λ c. is_in_term c.1 hour) (commitments_in_order cs)

-- ---- the weights of takes
each_weight : (mine own : ℕ → Bool) (ts : List Taken) → map (λ t. t.weight) (map (take_to mine own) ts) ≡ map (λ t. t.weight) ts
each_weight mine own [] = refl
each_weight mine own (t ∷ ts) = ap (λ l. t.weight ∷ l) (each_weight mine own ts)

same_weights : (mine own : ℕ → Bool) (ts : List Taken) (unused : ℕ) → weights_of (map (take_to mine own) ts) unused ≡ weights_of ts unused
unfolding weights_of
same_weights mine own ts unused = rw (each_weight mine own ts) refl

module _ (cs : List CommitmentValue) (rows : List Charge) (hour : ℕ) (mine own : ℕ → Bool) (apart : (place row : ℕ) → Meets cs rows hour place row → mine place ≡ own row) where
  -- ---- the lines of one commitment
  abbrev IsSameRow : Taken → Type 0
  IsSameRow t = slice_get (kept own rows) (rank own t.row) ≡ slice_get rows t.row

  same_line : (c : CommitmentValue) (t : Taken) (share : ℕ) → IsSameRow t → used_line hour c (kept own rows) (take_to mine own t) share ≡ used_line hour c rows t share
  unfolding used_line
  same_line c t share same = rw same refl

  same_used : (c : CommitmentValue) (ts : List Taken) (shares : List ℕ) → All IsSameRow ts
      → map (λ p. used_line hour c (kept own rows) p.0 p.1) (zip (map (take_to mine own) ts) shares) ≡ map (λ p. used_line hour c rows p.0 p.1) (zip ts shares)
  same_used c [] shares all = refl
  same_used c (t ∷ ts) [] all = refl
  same_used c (t ∷ ts) (share ∷ shares) all = λ j. same_line c t share (All-head IsSameRow t ts all) j ∷ same_used c ts shares (All-tail IsSameRow t ts all) j

  same_shared : (c : CommitmentValue) (ts : List Taken) (shares : List ℕ) → All IsSameRow ts → shared_lines hour c (kept own rows) (map (take_to mine own) ts) shares ≡ shared_lines hour c rows ts shares
  unfolding shared_lines
  same_shared c ts shares all = rw (length-map ts (take_to mine own), same_used c ts shares all) refl

  lines_kept : (c : CommitmentValue) (ts : List Taken) (unused : ℕ) (lines : List LineValue) → All IsSameRow ts → AreCommitmentLines hour c rows ts unused lines
      → AreCommitmentLines hour c (kept own rows) (map (take_to mine own) ts) unused lines
  lines_kept c ts unused lines all are = record {
    shares = are.shares;
    are_shares = subst (λ weights. IsShares (amount_in c hour) weights are.shares) (sym (same_weights mine own ts unused)) are.are_shares;
    are_lines = are.are_lines ∙ sym (same_shared c ts are.shares all);
  }

  same_rows : (i : ℕ) → mine i ≡ true → All IsSameRow (takes_of i (hour_cover cs rows hour))
  unfolding takes_of
  same_rows i here = λ k d lt.
      let cover : List Taken = hour_cover cs rows hour in
      let t : Taken = get_or (filter (λ u. u.commitment == i) cover) k d in
      let meets : Meets cs rows hour t.commitment t.row = All-filter (λ u. u.commitment == i) (λ u. Meets cs rows hour u.commitment u.row) cover (takes_meet cs rows hour) k d lt in
      let is : (t.commitment == i) ≡ true = filter_passes (λ u. u.commitment == i) cover k d lt in
      let owns : own t.row ≡ true = sym (apart t.commitment t.row meets) ∙ ap mine (eqb-true t.commitment i is) ∙ here in
      kept_at own rows t.row meets.charge meets.at_row owns ∙ sym meets.at_row

  one_kept : (c : ℕ × CommitmentValue) (lines : List LineValue) → slice_get cs c.0 ≡ Some c.1 → mine c.0 ≡ true → AreLinesAt cs rows (hour_cover cs rows hour) hour c lines
      → AreLinesAt (kept mine cs) (kept own rows) (hour_cover (kept mine cs) (kept own rows) hour) hour (ranked mine c) lines
  one_kept c lines at here are =
      let takes = takes_kept cs rows hour mine own apart c.0 here in
      let unused = unused_kept cs rows hour mine own apart c.0 c.1 at here in
      subst (λ (ts : List Taken). AreCommitmentLines hour c.1 (kept own rows) ts (unused_of (kept mine cs) (hour_cover (kept mine cs) (kept own rows) hour) (rank mine c.0)) lines) (sym takes)
      (subst (λ (u : ℕ). AreCommitmentLines hour c.1 (kept own rows) (map (take_to mine own) (takes_of c.0 (hour_cover cs rows hour))) u lines) (sym unused)
      (lines_kept c.1 (takes_of c.0 (hour_cover cs rows hour)) (unused_of cs (hour_cover cs rows hour) c.0) lines (same_rows c.0 here) are))

  -- ---- the lines of all
  running_kept : running (kept mine cs) hour ≡ map (ranked mine) (filter (λ c. mine c.0) (running cs hour))
  unfolding running
  running_kept =
      ap (filter (λ c. is_in_term c.1 hour)) (order_kept cs mine)
      ∙ filter_map_of (ranked mine) (λ c. is_in_term c.1 hour) (filter (λ c. mine c.0) (commitments_in_order cs))
      ∙ ap (map (ranked mine)) (filter_swap (λ c. is_in_term c.1 hour) (λ c. mine c.0) (commitments_in_order cs))

  shared_kept : (some : List (ℕ × CommitmentValue)) (shared : List (List LineValue)) → All (λ c. slice_get cs c.0 ≡ Some c.1) some → AllZip (AreLinesAt cs rows (hour_cover cs rows hour) hour) some shared
      → AllZip (AreLinesAt (kept mine cs) (kept own rows) (hour_cover (kept mine cs) (kept own rows) hour) hour) (map (ranked mine) (filter (λ c. mine c.0) some)) (picked mine some shared)
  shared_kept [] [] there are = tt
  shared_kept [] (l ∷ shared) there are = absurd are
  shared_kept (c ∷ some) [] there are = absurd are
  shared_kept (c ∷ some) (l ∷ shared) there are =
      let P : ℕ × CommitmentValue → Type 0 = λ d. slice_get cs d.0 ≡ Some d.1 in
      let rest = shared_kept some shared (All-tail P c some there) are.1 in
      let left : List (ℕ × CommitmentValue) = filter (λ d. mine d.0) some in
      let zipped : List ((ℕ × CommitmentValue) × List LineValue) = filter (λ z. mine z.0.0) (zip some shared) in
      let Q : Bool → Type 0 = λ b. AllZip (AreLinesAt (kept mine cs) (kept own rows) (hour_cover (kept mine cs) (kept own rows) hour) hour) (map (ranked mine) (cond b (c ∷ left) left)) (map (λ z. z.1) (cond b ((c, l) ∷ zipped) zipped)) in
      two_ways (mine c.0)
      (λ holds. subst Q (sym holds) (one_kept c l (All-head P c some there) holds are.0, rest))
      (λ fails. subst Q (sym fails) rest)

  -- what is left of the rows
  rests_same : (xs : List (ℕ × Charge)) → All (λ r. (slice_get rows r.0 ≡ Some r.1) × (own r.0 ≡ true)) xs
      → flat_map (λ r. rest_of hour r.1 (left_of (kept own rows) (hour_cover (kept mine cs) (kept own rows) hour) (rank own r.0))) xs ≡ flat_map (λ r. rest_of hour r.1 (left_of rows (hour_cover cs rows hour) r.0)) xs
  rests_same [] all = refl
  rests_same (r ∷ xs) all =
      let P : ℕ × Charge → Type 0 = λ x. (slice_get rows x.0 ≡ Some x.1) × (own x.0 ≡ true) in
      let is = All-head P r xs all in
      let one = left_kept cs rows hour mine own apart r.0 r.1 is.0 is.1 in
      let rest = rests_same xs (All-tail P r xs all) in
      λ j. rest_of hour r.1 (one j) ++ rest j

  rows_there : All (λ r. (slice_get rows r.0 ≡ Some r.1) × (own r.0 ≡ true)) (kept_from own 0 rows)
  rows_there = λ k d lt. (
    All-filter (λ r. own r.0) (λ r. slice_get rows r.0 ≡ Some r.1) (enumerate_from 0 rows) (all_enumerate (λ r. slice_get rows r.0 ≡ Some r.1) rows (slice_get-get_or rows)) k d lt,
    filter_passes (λ r. own r.0) (enumerate_from 0 rows) k d lt,
  )

  rests_kept : rest_lines (kept own rows) (hour_cover (kept mine cs) (kept own rows) hour) hour ≡ flat_map (λ r. rest_of hour r.1 (left_of rows (hour_cover cs rows hour) r.0)) (kept_from own 0 rows)
  unfolding rest_lines
  rests_kept =
      ap (flat_map (λ r. rest_of hour r.1 (left_of (kept own rows) (hour_cover (kept mine cs) (kept own rows) hour) r.0))) (ranked_kept own rows)
      ∙ flat_map-map (λ r. rest_of hour r.1 (left_of (kept own rows) (hour_cover (kept mine cs) (kept own rows) hour) r.0)) (ranked own) (kept_from own 0 rows)
      ∙ rests_same (kept_from own 0 rows) rows_there

  pub hour_kept : (shared : List (List LineValue)) → AllZip (AreLinesAt cs rows (hour_cover cs rows hour) hour) (running cs hour) shared
      → AreHourLines (kept mine cs) (kept own rows) hour
      (purchase_lines (kept mine cs) hour ++ given_lines (kept own rows) hour ++ flat_map (λ ls. ls) (picked mine (running cs hour) shared) ++ flat_map (λ r. rest_of hour r.1 (left_of rows (hour_cover cs rows hour) r.0)) (kept_from own 0 rows))
  hour_kept shared are = record {
    shared = picked mine (running cs hour) shared;
    are_shared =
        subst (λ some. AllZip (AreLinesAt (kept mine cs) (kept own rows) (hour_cover (kept mine cs) (kept own rows) hour) hour) some (picked mine (running cs hour) shared)) (sym running_kept)
        (shared_kept (running cs hour) shared (running_there cs hour) are);
    are_lines = ap (λ l. purchase_lines (kept mine cs) hour ++ given_lines (kept own rows) hour ++ flat_map (λ ls. ls) (picked mine (running cs hour) shared) ++ l) (sym rests_kept);
  }

-- ---- commitments without a line in the hour
pub items_of : {X : Type 0} (n : ℕ) (xs : List X) → map (λ x. x.1) (enumerate_from n xs) ≡ xs
items_of n [] = refl
items_of n (x ∷ xs) = ap (λ l. x ∷ l) (items_of (n + 1) xs)

filter_alike : {X : Type 0} (p q : X → Bool) (xs : List X) → All (λ x. p x ≡ q x) xs → filter p xs ≡ filter q xs
filter_alike p q [] all = refl
filter_alike {X} p q (x ∷ xs) all =
    let P : X → Type 0 = λ y. p y ≡ q y in
    let rest = filter_alike p q xs (All-tail P x xs all) in
    λ j. cond (All-head P x xs all j) (x ∷ rest j) (rest j)

no_purchase : (hour : ℕ) (ps : List PurchaseValue) → list_any (λ p. hour_of p.at == hour) ps ≡ false → filter (λ p. hour_of p.at == hour) ps ≡ []
no_purchase hour [] none = refl
no_purchase hour (p ∷ ps) none = two_ways (hour_of p.at == hour)
    (λ here. absurd (let clash : true ≡ false = sym (ap (λ b. b || list_any (λ q. hour_of q.at == hour) ps) here) ∙ none in cc))
    (λ other.
    ap (λ b. cond b (p ∷ filter (λ q. hour_of q.at == hour) ps) (filter (λ q. hour_of q.at == hour) ps)) other
    ∙ no_purchase hour ps (sym (ap (λ b. b || list_any (λ q. hour_of q.at == hour) ps) other) ∙ none))

or_parts : (a b : Bool) → (a || b) ≡ false → b ≡ false
or_parts true b h = absurd (let clash : true ≡ false = h in cc)
or_parts false b h = h

no_lines : (hour : ℕ) (c : CommitmentValue) → has_line hour c ≡ false → purchase_lines_of hour c ≡ []
unfolding purchase_lines_of
no_lines hour c none = rw (no_purchase hour c.purchases (or_parts (is_in_term c hour) (list_any (λ p. hour_of p.at == hour) c.purchases) none)) refl

purchases_with : (hour : ℕ) (cs : List CommitmentValue) → flat_map (purchase_lines_of hour) (filter (has_line hour) cs) ≡ flat_map (purchase_lines_of hour) cs
purchases_with hour [] = refl
purchases_with hour (c ∷ cs) = two_ways (has_line hour c)
    (λ some. ap (λ b. flat_map (purchase_lines_of hour) (cond b (c ∷ filter (has_line hour) cs) (filter (has_line hour) cs))) some ∙ ap (λ l. purchase_lines_of hour c ++ l) (purchases_with hour cs))
    (λ none.
    ap (λ b. flat_map (purchase_lines_of hour) (cond b (c ∷ filter (has_line hour) cs) (filter (has_line hour) cs))) none
    ∙ purchases_with hour cs ∙ ap (λ l. l ++ flat_map (purchase_lines_of hour) cs) (sym (no_lines hour c none)))

all_picked : (R : ℕ × CommitmentValue → List LineValue → Type 0) (mine : ℕ → Bool) (some : List (ℕ × CommitmentValue)) (shared : List (List LineValue)) → All (λ c. mine c.0 ≡ true) some → AllZip R some shared → picked mine some shared ≡ shared
all_picked R mine [] [] all are = refl
all_picked R mine [] (l ∷ shared) all are = absurd are
all_picked R mine (c ∷ some) [] all are = absurd are
all_picked R mine (c ∷ some) (l ∷ shared) all are =
    let P : ℕ × CommitmentValue → Type 0 = λ d. mine d.0 ≡ true in
    let zipped : List ((ℕ × CommitmentValue) × List LineValue) = filter (λ z. mine z.0.0) (zip some shared) in
    ap (λ b. map (λ z. z.1) (cond b ((c, l) ∷ zipped) zipped)) (All-head P c some all)
    ∙ ap (λ ls. l ∷ ls) (all_picked R mine some shared (All-tail P c some all) are.1)

-- whether the commitment at a place has one
abbrev has_line_at : ℕ → List CommitmentValue → ℕ → Bool
has_line_at hour cs i = option_map_or (has_line hour) (slice_get cs i) false

there_has : (hour : ℕ) (cs : List CommitmentValue) (i : ℕ) (c : CommitmentValue) → slice_get cs i ≡ Some c → has_line_at hour cs i ≡ has_line hour c
there_has hour cs i c at = ap (λ o. option_map_or (has_line hour) o false) at

kept_with : (hour : ℕ) (cs : List CommitmentValue) → kept (has_line_at hour cs) cs ≡ filter (has_line hour) cs
kept_with hour cs =
    ap (map (λ x. x.1)) (filter_alike (λ x. has_line_at hour cs x.0) (λ x. has_line hour x.1) (enumerate_from 0 cs)
    (all_enumerate (λ x. has_line_at hour cs x.0 ≡ has_line hour x.1) cs (λ k d lt. there_has hour cs k (get_or cs k d) (slice_get-get_or cs k d lt))))
    ∙ sym (filter_map_of (λ (x : ℕ × CommitmentValue). x.1) (has_line hour) (enumerate_from 0 cs))
    ∙ ap (filter (has_line hour)) (items_of 0 cs)

in_term_from : (c : CommitmentValue) (hour : ℕ) (row : Charge) → fits c hour row ≡ true → is_in_term c hour ≡ true
unfolding fits
in_term_from c hour row h =
    let both : (is_in_term c hour && allows c.sub_account row.sub_account) ≡ true = (and_parts (is_in_term c hour && allows c.sub_account row.sub_account) (has_unit c.terms row.unit) h).0 in
    (and_parts (is_in_term c hour) (allows c.sub_account row.sub_account) both).0

or_true : (a b : Bool) → a ≡ true → (a || b) ≡ true
or_true a b h = ap (λ t. t || b) h

purchases : (hour : ℕ) (ds : List CommitmentValue) → purchase_lines (filter (has_line hour) ds) hour ≡ purchase_lines ds hour
unfolding purchase_lines
purchases hour ds = purchases_with hour ds

rests : (hour : ℕ) (rs : List Charge) (taken : List Taken) → flat_map (λ r. rest_of hour r.1 (left_of rs taken r.0)) (enumerate_from 0 rs) ≡ rest_lines rs taken hour
unfolding rest_lines
rests hour rs taken = refl

pub hour_with : (cs : List CommitmentValue) (rows : List Charge) (hour : ℕ) (lines : List LineValue) → AreHourLines cs rows hour lines → AreHourLines (filter (has_line hour) cs) rows hour lines
hour_with cs rows hour lines are =
    let mine : ℕ → Bool = has_line_at hour cs in
    let own : ℕ → Bool = λ j. true in
    let apart : (place row : ℕ) → Meets cs rows hour place row → mine place ≡ own row = λ place row meets.
    let runs : is_in_term meets.commitment hour ≡ true =
    in_term_from meets.commitment hour meets.charge (and_parts (is_open hour meets.charge) (fits meets.commitment hour meets.charge) (open_from meets.commitment hour meets.charge meets.applies)).1 in
    there_has hour cs place meets.commitment meets.at_place ∙ or_true (is_in_term meets.commitment hour) _ runs in
    let all : kept_from own 0 rows ≡ enumerate_from 0 rows = filter_every (λ x. own x.0) (enumerate_from 0 rows) (λ k d lt. refl) in
    let whole : kept own rows ≡ rows = ap (map (λ x. x.1)) all ∙ items_of 0 rows in
    let mined : All (λ c. mine c.0 ≡ true) (running cs hour) = λ k d lt.
    let c : ℕ × CommitmentValue = get_or (running cs hour) k d in
    there_has hour cs c.0 c.1 (running_there cs hour k d lt) ∙ or_true (is_in_term c.1 hour) _ (running_run cs hour k d lt) in
    let some = hour_kept cs rows hour mine own apart are.shared are.are_shared in
    let same : purchase_lines (kept mine cs) hour ++ given_lines (kept own rows) hour ++ flat_map (λ ls. ls) (picked mine (running cs hour) are.shared)
    ++ flat_map (λ r. rest_of hour r.1 (left_of rows (hour_cover cs rows hour) r.0)) (kept_from own 0 rows) ≡ lines =
    (λ j. (ap (λ ds. purchase_lines ds hour) (kept_with hour cs) ∙ purchases hour cs) j ++ given_lines (whole j) hour ++ flat_map (λ ls. ls) (all_picked (AreLinesAt cs rows (hour_cover cs rows hour) hour) mine (running cs hour) are.shared mined are.are_shared j)
    ++ (ap (flat_map (λ r. rest_of hour r.1 (left_of rows (hour_cover cs rows hour) r.0))) all ∙ rests hour rows (hour_cover cs rows hour)) j) ∙ sym are.are_lines in
    subst (λ (ds : List CommitmentValue). AreHourLines ds rows hour lines) (kept_with hour cs)
    (subst (λ (rs : List Charge). AreHourLines (kept mine cs) rs hour lines) whole
    (subst (λ ls. AreHourLines (kept mine cs) (kept own rows) hour ls) same some))
