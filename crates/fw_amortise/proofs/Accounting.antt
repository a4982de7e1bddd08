-- Each line of an hour comes from one purchase, row or commitment; each row is accounted for, and so is each commitment's amount.
use Rattle.std.proofs.Common.{◌≡◌, ◌∙◌, ℕ, ◌+◌, ◌≤◌, ◌==◌, ◌&&◌, Bool, true, false, cond, nat_lt, ℤ, pos, ◌+ℤ◌, List, [], ◌∷◌, ◌++◌, length, get_or, map, filter, drop, sum_by, All, Option, Some, None, refl, sym, ap, subst, arith, append-nil}
use Rattle.std.specs.Prelude.{int_lt, is_some, negsuc, not, slice_get, unsigned_abs, unwrap_or}
use Rattle.std.specs.Option.{IsSome}
use Rattle.std.specs.List.{AllZip, Contains, flat_map, zip}
use Rattle.std.proofs.lemmas.Bool.{and_parts, eqb-true, eqb-false, eq-eqb, ne_eqb, not-true}
use Rattle.std.proofs.lemmas.Bool.Decides.{nat_tests}
use Rattle.std.proofs.lemmas.Int.{ints}
use Rattle.std.proofs.lemmas.List.{map-append}
use Rattle.std.proofs.lemmas.List.Elements.{All-append, All-cons, All-contains_itself, All-filter, All-head, All-map, All-nil, All-tail, filter_passes}
use Rattle.std.proofs.lemmas.List.Sums.{sum_by-append, sum_by-cons}
use Rattle.std.specs.List.{enumerate_from}
use Rattle.fw_charge.specs.Charge.{Charge}
use Rattle.fw_terms.specs.Commitment.{CommitmentValue}
use Rattle.fw_cover.specs.declared.taken.Taken.{Taken}
use Rattle.fw_cover.specs.Applies.{allows, applied, fits, has_unit, is_in_term, is_open}
use Rattle.fw_cover.specs.Cover.{taken_of_row}
use Rattle.fw_cover.specs.Eligible.{is_eligible, is_measured, is_open_use, is_positive}
use Rattle.fw_cover.specs.Hour.{hour_cover, left_of, quantity_of, takes_of, unused_of}
use Rattle.fw_cover.specs.Meeting.{Meets}
use Rattle.fw_cover.specs.Order.{commitment_before, commitments_in_order, in_order}
use Rattle.fw_cover.proofs.ByCommitment.{filter_none}
use Rattle.fw_cover.proofs.Filling.{element_at, number_at, of_in_order}
use Rattle.fw_cover.proofs.Grouping.{PlacesApart, cover_grouped, order_places_apart}
use Rattle.fw_cover.proofs.Left.{sum_kept}
use Rattle.fw_cover.proofs.Sorting.{two_ways}
use Rattle.fw_cover.proofs.Whole.{row_whole, takes_meet}
use Rattle.fw_cover.proofs.Within.{commitments_in_order_places, eligible_from, open_from}
use Rattle.fw_cover.proofs.RosterFacts.{filter_apart}
use Rattle.fw_amortise.specs.LineValue.{LineValue}
use Rattle.fw_amortise.specs.Lines.{AreHourLines, AreLinesAt, given_line, given_lines, purchase_lines, purchase_lines_of, rest_line, rest_lines, rest_of, running, shared_lines, unused_line, used_line, weights_of}
use Rattle.fw_amortise.specs.Sources.{AreAccounted, SourceValue, is_bought_by, is_of_row, is_rest_of, is_share_by, lines_from, lines_of_row, quantity_of_all}
use Rattle.fw_amortise.specs.Sources.SourceValue.{used_by, unused_by}
use Rattle.fw_amortise.proofs.Carrying.{fold_from}
use Rattle.fw_amortise.proofs.Sourced.{FromIts, Sourced, bought, bought_at, bought_from, bought_lines, bought_none, given, given_are, given_at, given_from, given_none, given_own, lines_of, own_append, own_every, own_nil, own_none, own_one, rest_at, rests, rests_are, rests_from, rests_none, seconds_of}
use Rattle.fw_amortise.proofs.Weights.{length-weights_of, spare_weight}

-- ---- what the commitments took, and what they left unused
abbrev uses : ℕ → ℕ × CommitmentValue → List Charge → List Taken → List ℕ → List Sourced
uses hour c rows takes shares = map (λ p. (used_by c.0 p.0.row, used_line hour c.1 rows p.0 p.1)) (zip takes shares)

abbrev spares : ℕ → ℕ × CommitmentValue → List ℕ → List Sourced
spares hour c shares = map (λ share. (unused_by c.0, unused_line hour c.1 share)) shares

shared_by : ℕ → ℕ × CommitmentValue → List Charge → List Taken → List ℕ → List Sourced
shared_by hour c rows takes shares = uses hour c rows takes shares ++ spares hour c (drop (length takes) shares)

shared_by_are : (hour : ℕ) (c : ℕ × CommitmentValue) (rows : List Charge) (takes : List Taken) (shares : List ℕ) → lines_of (shared_by hour c rows takes shares) ≡ shared_lines hour c.1 rows takes shares
unfolding shared_by shared_lines
shared_by_are hour c rows takes shares =
    map-append (λ (s : Sourced). s.1) (uses hour c rows takes shares) (spares hour c (drop (length takes) shares))
    ∙ (rw (seconds_of (λ p. used_by c.0 p.0.row) (λ p. used_line hour c.1 rows p.0 p.1) (zip takes shares), seconds_of (λ share. unused_by c.0) (unused_line hour c.1) (drop (length takes) shares)) refl)

-- the lines of the commitments that run, beside their sources
record SharedBy (cs : List CommitmentValue) (rows : List Charge) (hour : ℕ) (some : List (ℕ × CommitmentValue)) (lines : List LineValue) : Type 0 where
  sourced : List Sourced
  lines_are : lines ≡ lines_of sourced
  each : All (FromIts cs rows hour) sourced
  unmatched : (test : SourceValue → Bool) → ((place row : ℕ) → test (used_by place row) ≡ false) → ((place : ℕ) → test (unused_by place) ≡ false) → lines_from test sourced ≡ []
  untaken : (r : ℕ) → All (λ t. (t.row == r) ≡ false) (hour_cover cs rows hour) → lines_of_row r sourced ≡ []
  quantity : (r : ℕ) → quantity_of_all (lines_of_row r sourced) ≡ pos (sum_by (λ c. taken_of_row r (takes_of c.0 (hour_cover cs rows hour))) some)
  unshared : (place : ℕ) → All (λ c. (c.0 == place) ≡ false) some → lines_from (is_share_by place) sourced ≡ []
  shares : All (λ c. AreLinesAt cs rows (hour_cover cs rows hour) hour c (lines_from (is_share_by c.0) sourced)) some

all_zip : {X Y : Type 0} (Q : X → Type 0) (xs : List X) (ys : List Y) → All Q xs → All (λ p. Q p.0) (zip xs ys)
all_zip Q [] ys all = All-nil (λ p. Q p.0)
all_zip Q (x ∷ xs) [] all = All-nil (λ p. Q p.0)
all_zip Q (x ∷ xs) (y ∷ ys) all = All-cons (λ p. Q p.0) (x, y) (zip xs ys) (All-head Q x xs all) (all_zip Q xs ys (All-tail Q x xs all))

-- a commitment that runs, beside its place
abbrev Runs : List CommitmentValue → ℕ → ℕ × CommitmentValue → Type 0
Runs cs hour c = (slice_get cs c.0 ≡ Some c.1) × (is_in_term c.1 hour ≡ true)

takes_of_meet : (cs : List CommitmentValue) (rows : List Charge) (hour place : ℕ) → All (λ t. Meets cs rows hour place t.row) (takes_of place (hour_cover cs rows hour))
unfolding takes_of
takes_of_meet cs rows hour place k d l =
    let taken : List Taken = hour_cover cs rows hour in
    let t : Taken = get_or (filter (λ t. t.commitment == place) taken) k d in
    let m : Meets cs rows hour t.commitment t.row = All-filter (λ t. t.commitment == place) (λ t. Meets cs rows hour t.commitment t.row) taken (takes_meet cs rows hour) k d l in
    let e : t.commitment ≡ place = eqb-true t.commitment place (filter_passes (λ (t : Taken). t.commitment == place) taken k d l) in
    subst (λ (x : ℕ). Meets cs rows hour x t.row) e m

shared_by_from : (cs : List CommitmentValue) (rows : List Charge) (hour : ℕ) (c : ℕ × CommitmentValue) (shares : List ℕ) → Runs cs hour c
    → length shares ≡ length (weights_of (takes_of c.0 (hour_cover cs rows hour)) (unused_of cs (hour_cover cs rows hour) c.0)) → All (FromIts cs rows hour) (shared_by hour c rows (takes_of c.0 (hour_cover cs rows hour)) shares)
unfolding shared_by
shared_by_from cs rows hour c shares runs one_each =
    let F : Sourced → Type 0 = FromIts cs rows hour in
    let takes : List Taken = takes_of c.0 (hour_cover cs rows hour) in
    let met = all_zip (λ (t : Taken). Meets cs rows hour c.0 t.row) takes shares (takes_of_meet cs rows hour c.0) in
    let own = all_zip (Contains takes) takes shares (All-contains_itself takes) in
    All-append F (uses hour c rows takes shares) (spares hour c (drop (length takes) shares))
    (All-map F (λ p. (used_by c.0 p.0.row, used_line hour c.1 rows p.0 p.1)) (zip takes shares)
    (λ k d l.
    let m = met k d l in
    let same : c.1 ≡ m.commitment = (let e : Some c.1 ≡ Some m.commitment = sym runs.0 ∙ m.at_place in cc) in
    record {
      meets = m;
      take = (get_or (zip takes shares) k d).0;
      share = (get_or (zip takes shares) k d).1;
      taken = own k d l;
      of_row = refl;
      line_is = ap (λ (b : CommitmentValue). used_line hour b rows (get_or (zip takes shares) k d).0 (get_or (zip takes shares) k d).1) same;
    }))
    (All-map F (λ share. (unused_by c.0, unused_line hour c.1 share)) (drop (length takes) shares)
    (λ k d l. record {
      commitment = c.1;
      share = get_or (drop (length takes) shares) k d;
      at_place = runs.0;
      runs = runs.1;
      some = spare_weight takes (unused_of cs (hour_cover cs rows hour) c.0) shares k one_each l;
      line_is = refl;
    }))

-- a test that all sources of a commitment pass, or none
shared_by_tested : (test : SourceValue → Bool) (b : Bool) (hour : ℕ) (c : ℕ × CommitmentValue) (rows : List Charge) (takes : List Taken) (shares : List ℕ) → ((row : ℕ) → test (used_by c.0 row) ≡ b) → test (unused_by c.0) ≡ b
    → All (λ s. test s.0 ≡ b) (shared_by hour c rows takes shares)
unfolding shared_by
shared_by_tested test b hour c rows takes shares used unused =
    All-append (λ s. test s.0 ≡ b) (uses hour c rows takes shares) (spares hour c (drop (length takes) shares))
    (All-map (λ s. test s.0 ≡ b) (λ p. (used_by c.0 p.0.row, used_line hour c.1 rows p.0 p.1)) (zip takes shares) (λ k d l. used (get_or (zip takes shares) k d).0.row))
    (All-map (λ s. test s.0 ≡ b) (λ share. (unused_by c.0, unused_line hour c.1 share)) (drop (length takes) shares) (λ k d l. unused))

-- the shares of a commitment are its own lines, all of them
shared_by_own : (hour : ℕ) (c : ℕ × CommitmentValue) (rows : List Charge) (takes : List Taken) (shares : List ℕ) → lines_from (is_share_by c.0) (shared_by hour c rows takes shares) ≡ shared_lines hour c.1 rows takes shares
shared_by_own hour c rows takes shares =
    let same : (c.0 == c.0) ≡ true = eq-eqb c.0 c.0 refl in
    own_every (is_share_by c.0) (shared_by hour c rows takes shares) (shared_by_tested (is_share_by c.0) true hour c rows takes shares (λ row. same) same) ∙ shared_by_are hour c rows takes shares

shared_by_other : (hour place : ℕ) (c : ℕ × CommitmentValue) (rows : List Charge) (takes : List Taken) (shares : List ℕ) → (c.0 == place) ≡ false → lines_from (is_share_by place) (shared_by hour c rows takes shares) ≡ []
shared_by_other hour place c rows takes shares other =
    own_none (is_share_by place) (shared_by hour c rows takes shares) (shared_by_tested (is_share_by place) false hour c rows takes shares (λ row. other) other)

unused_none : (hour r : ℕ) (c : ℕ × CommitmentValue) (shares : List ℕ) → lines_of_row r (spares hour c shares) ≡ []
unused_none hour r c shares = own_none (is_of_row r) (spares hour c shares) (All-map (λ s. is_of_row r s.0 ≡ false) (λ share. (unused_by c.0, unused_line hour c.1 share)) shares (λ k d l. refl))

uses_none : (hour r : ℕ) (c : ℕ × CommitmentValue) (rows : List Charge) (takes : List Taken) (shares : List ℕ) → All (λ t. (t.row == r) ≡ false) takes → lines_of_row r (uses hour c rows takes shares) ≡ []
uses_none hour r c rows takes shares none =
    own_none (is_of_row r) (uses hour c rows takes shares)
    (All-map (λ s. is_of_row r s.0 ≡ false) (λ p. (used_by c.0 p.0.row, used_line hour c.1 rows p.0 p.1)) (zip takes shares) (all_zip (λ (t : Taken). (t.row == r) ≡ false) takes shares none))

shared_by_none : (hour r : ℕ) (c : ℕ × CommitmentValue) (rows : List Charge) (takes : List Taken) (shares : List ℕ) → All (λ t. (t.row == r) ≡ false) takes → lines_of_row r (shared_by hour c rows takes shares) ≡ []
unfolding shared_by
shared_by_none hour r c rows takes shares none =
    own_append (is_of_row r) (uses hour c rows takes shares) (spares hour c (drop (length takes) shares))
    ∙ (rw (uses_none hour r c rows takes shares none, unused_none hour r c (drop (length takes) shares)) refl)

-- ---- sums of quantities
quantity_cons : (line : LineValue) (lines : List LineValue) → quantity_of_all (line ∷ lines) ≡ unwrap_or line.quantity (pos 0) +ℤ quantity_of_all lines
unfolding quantity_of_all
quantity_cons line lines =
    let from = fold_from (pos 0 +ℤ unwrap_or line.quantity (pos 0)) (map (λ (l : LineValue). unwrap_or l.quantity (pos 0)) lines) in
    omega (arith, ints)

quantity_none : quantity_of_all [] ≡ pos 0
unfolding quantity_of_all
quantity_none = refl

quantity_append : (xs ys : List LineValue) → quantity_of_all (xs ++ ys) ≡ quantity_of_all xs +ℤ quantity_of_all ys
quantity_append [] ys = let none = quantity_none in omega (arith, ints)
quantity_append (x ∷ xs) ys =
    let whole = quantity_cons x (xs ++ ys) in
    let part = quantity_cons x xs in
    let rest = quantity_append xs ys in
    omega (arith, ints)

use_quantity : (test : Bool) (hour : ℕ) (c : CommitmentValue) (rows : List Charge) (t : Taken) (share : ℕ) → quantity_of_all (cond test (used_line hour c rows t share ∷ []) []) ≡ pos (cond test t.quantity 0)
unfolding used_line
use_quantity true hour c rows t share = let one = quantity_cons (used_line hour c rows t share) [] in let none = quantity_none in omega (arith, ints)
use_quantity false hour c rows t share = quantity_none

uses_quantity : (hour r : ℕ) (c : ℕ × CommitmentValue) (rows : List Charge) (takes : List Taken) (shares : List ℕ) → length takes ≤ length shares
    → quantity_of_all (lines_of_row r (uses hour c rows takes shares)) ≡ pos (taken_of_row r takes)
unfolding taken_of_row
uses_quantity hour r c rows [] shares long = ap quantity_of_all (own_nil (is_of_row r)) ∙ quantity_none
uses_quantity hour r c rows (t ∷ takes) [] long = absurd (omega arith)
uses_quantity hour r c rows (t ∷ takes) (s ∷ shares) long =
    let rest : List Sourced = uses hour c rows takes shares in
    let one : lines_of_row r ((used_by c.0 t.row, used_line hour c.1 rows t s) ∷ []) ≡ cond (t.row == r) (used_line hour c.1 rows t s ∷ []) [] = own_one (is_of_row r) (used_by c.0 t.row) (used_line hour c.1 rows t s) in
    let later : quantity_of_all (lines_of_row r rest) ≡ pos (taken_of_row r takes) = uses_quantity hour r c rows takes shares (omega arith) in
    ap quantity_of_all (own_append (is_of_row r) ((used_by c.0 t.row, used_line hour c.1 rows t s) ∷ []) rest)
    ∙ quantity_append (lines_of_row r ((used_by c.0 t.row, used_line hour c.1 rows t s) ∷ [])) (lines_of_row r rest)
    ∙ (rw (one, later, use_quantity (t.row == r) hour c.1 rows t s) (ap pos (sym (sum_by-cons (λ (u : Taken). cond (u.row == r) u.quantity 0) t takes))))

shared_by_quantity : (hour r : ℕ) (c : ℕ × CommitmentValue) (rows : List Charge) (takes : List Taken) (shares : List ℕ) → length takes ≤ length shares
    → quantity_of_all (lines_of_row r (shared_by hour c rows takes shares)) ≡ pos (taken_of_row r takes)
unfolding shared_by
shared_by_quantity hour r c rows takes shares long =
    ap quantity_of_all (own_append (is_of_row r) (uses hour c rows takes shares) (spares hour c (drop (length takes) shares))
    ∙ ap (λ l. lines_of_row r (uses hour c rows takes shares) ++ l) (unused_none hour r c (drop (length takes) shares)) ∙ append-nil (lines_of_row r (uses hour c rows takes shares)))
    ∙ uses_quantity hour r c rows takes shares long

takes_of_others : (place r : ℕ) (taken : List Taken) → All (λ t. (t.row == r) ≡ false) taken → All (λ t. (t.row == r) ≡ false) (takes_of place taken)
unfolding takes_of
takes_of_others place r taken none = All-filter (λ t. t.commitment == place) (λ t. (t.row == r) ≡ false) taken none

all_shared_by : (cs : List CommitmentValue) (rows : List Charge) (hour : ℕ) (some : List (ℕ × CommitmentValue)) (shared : List (List LineValue)) → All (Runs cs hour) some → PlacesApart some → AllZip (AreLinesAt cs rows (hour_cover cs rows hour) hour) some shared
    → SharedBy cs rows hour some (flat_map (λ ls. ls) shared)
all_shared_by cs rows hour [] [] runs apart a = record {
  sourced = [];
  lines_are = refl;
  each = All-nil (FromIts cs rows hour);
  unmatched = λ test used unused. own_nil test;
  untaken = λ r none. own_nil (is_of_row r);
  quantity = λ r. ap quantity_of_all (own_nil (is_of_row r)) ∙ quantity_none;
  unshared = λ place none. own_nil (is_share_by place);
  shares = All-nil (λ c. AreLinesAt cs rows (hour_cover cs rows hour) hour c (lines_from (is_share_by c.0) []));
}
all_shared_by cs rows hour [] (ls ∷ shared) runs apart a = absurd a
all_shared_by cs rows hour (c ∷ some) [] runs apart a = absurd a
all_shared_by cs rows hour (c ∷ some) (ls ∷ shared) runs apart a =
    let taken : List Taken = hour_cover cs rows hour in
    let rest = all_shared_by cs rows hour some shared (All-tail (Runs cs hour) c some runs) apart.1 a.1 in
    let takes : List Taken = takes_of c.0 taken in
    let own : List Sourced = shared_by hour c rows takes a.0.shares in
    let long : length takes ≤ length a.0.shares = omega (arith, a.0.are_shares.one_each, length-weights_of takes (unused_of cs taken c.0)) in
    record {
      sourced = own ++ rest.sourced;
      lines_are =
          let here : ls ≡ lines_of own = a.0.are_lines ∙ sym (shared_by_are hour c rows takes a.0.shares) in
          let later : flat_map (λ (l : List LineValue). l) shared ≡ lines_of rest.sourced = rest.lines_are in
          (rw (here, later) refl) ∙ sym (map-append (λ (s : Sourced). s.1) own rest.sourced);
      each = All-append (FromIts cs rows hour) own rest.sourced (shared_by_from cs rows hour c a.0.shares (All-head (Runs cs hour) c some runs) a.0.are_shares.one_each) rest.each;
      unmatched = λ test used unused.
          own_append test own rest.sourced
          ∙ (rw (own_none test own (shared_by_tested test false hour c rows takes a.0.shares (used c.0) (unused c.0)), rest.unmatched test used unused) refl);
      untaken = λ r none. own_append (is_of_row r) own rest.sourced ∙ (rw (shared_by_none hour r c rows takes a.0.shares (takes_of_others c.0 r taken none), rest.untaken r none) refl);
      quantity = λ r.
          let here : quantity_of_all (lines_of_row r own) ≡ pos (taken_of_row r takes) = shared_by_quantity hour r c rows takes a.0.shares long in
          let later : quantity_of_all (lines_of_row r rest.sourced) ≡ pos (sum_by (λ c. taken_of_row r (takes_of c.0 taken)) some) = rest.quantity r in
          let sum = sum_by-cons (λ (c : ℕ × CommitmentValue). taken_of_row r (takes_of c.0 taken)) c some in
          ap quantity_of_all (own_append (is_of_row r) own rest.sourced) ∙ quantity_append (lines_of_row r own) (lines_of_row r rest.sourced) ∙ (rw (here, later) (ap pos (sym sum)));
      unshared = λ place none.
          let P : ℕ × CommitmentValue → Type 0 = λ c. (c.0 == place) ≡ false in
          own_append (is_share_by place) own rest.sourced
          ∙ (rw (shared_by_other hour place c rows takes a.0.shares (All-head P c some none), rest.unshared place (All-tail P c some none)) refl);
      shares = All-cons (λ d. AreLinesAt cs rows taken hour d (lines_from (is_share_by d.0) (own ++ rest.sourced))) c some
          (record {
            shares = a.0.shares;
            are_shares = a.0.are_shares;
            are_lines = own_append (is_share_by c.0) own rest.sourced ∙ (rw (shared_by_own hour c rows takes a.0.shares, rest.unshared c.0 apart.0) (append-nil (shared_lines hour c.1 rows takes a.0.shares)));
          })
          (λ k e l.
          let d : ℕ × CommitmentValue = get_or some k e in
          let other : (c.0 == d.0) ≡ false = ne_eqb c.0 d.0 (λ same. eqb-false d.0 c.0 (apart.0 k e l) (sym same)) in
          let past : lines_from (is_share_by d.0) (own ++ rest.sourced) ≡ lines_from (is_share_by d.0) rest.sourced =
          own_append (is_share_by d.0) own rest.sourced ∙ (rw (shared_by_other hour d.0 c rows takes a.0.shares other) refl) in
          subst (AreLinesAt cs rows taken hour d) (sym past) (rest.shares k e l));
    }

-- ---- what is known of what applies
term_from : (c : CommitmentValue) (hour : ℕ) (row : Charge) → IsSome (applied c hour row) → is_in_term c hour ≡ true
unfolding fits
term_from c hour row some =
    let both = and_parts (is_open hour row) (fits c hour row) (open_from c hour row some) in
    let fitting = and_parts (is_in_term c hour && allows c.sub_account row.sub_account) (has_unit c.terms row.unit) both.1 in
    (and_parts (is_in_term c hour) (allows c.sub_account row.sub_account) fitting.0).0

-- nothing is taken of a row that commitments may not cover
not_taken : (cs : List CommitmentValue) (rows : List Charge) (hour r : ℕ) (row : Charge) → slice_get rows r ≡ Some row → is_eligible row ≡ false → All (λ t. (t.row == r) ≡ false) (hour_cover cs rows hour)
not_taken cs rows hour r row there never k d l =
    let t : Taken = get_or (hour_cover cs rows hour) k d in
    let m : Meets cs rows hour t.commitment t.row = takes_meet cs rows hour k d l in
    two_ways (t.row == r)
    (λ same.
    let here : t.row ≡ r = eqb-true t.row r same in
    let at : slice_get rows r ≡ Some m.charge = subst (λ (x : ℕ). slice_get rows x ≡ Some m.charge) here m.at_row in
    let e : Some row ≡ Some m.charge = sym there ∙ at in
    let value : m.charge ≡ row = cc in
    let covered : is_eligible row ≡ true = subst (λ (x : Charge). is_eligible x ≡ true) value (eligible_from m.commitment hour m.charge m.applies) in
    let clash : true ≡ false = sym covered ∙ never in absurd (cc))
    (λ other. other)

-- a commitment that doesn't run takes nothing
idle_takes : (cs : List CommitmentValue) (rows : List Charge) (hour r : ℕ) (c : ℕ × CommitmentValue) → slice_get cs c.0 ≡ Some c.1 → is_in_term c.1 hour ≡ false → taken_of_row r (takes_of c.0 (hour_cover cs rows hour)) ≡ 0
unfolding takes_of taken_of_row
idle_takes cs rows hour r c at idle = ap (sum_by (λ (t : Taken). cond (t.row == r) t.quantity 0)) (filter_none (λ t. t.commitment == c.0) (hour_cover cs rows hour) (λ k d l.
    let t : Taken = get_or (hour_cover cs rows hour) k d in
    let m : Meets cs rows hour t.commitment t.row = takes_meet cs rows hour k d l in
    two_ways (t.commitment == c.0)
    (λ same.
    let here : t.commitment ≡ c.0 = eqb-true t.commitment c.0 same in
    let place : slice_get cs c.0 ≡ Some m.commitment = subst (λ (x : ℕ). slice_get cs x ≡ Some m.commitment) here m.at_place in
    let e : Some c.1 ≡ Some m.commitment = sym at ∙ place in
    let value : m.commitment ≡ c.1 = cc in
    let runs : is_in_term c.1 hour ≡ true = subst (λ (x : CommitmentValue). is_in_term x hour ≡ true) value (term_from m.commitment hour m.charge m.applies) in
    let clash : true ≡ false = sym runs ∙ idle in absurd (cc))
    (λ other. other)))

-- ---- what all commitments took
taken_flat : {X : Type 0} (r : ℕ) (f : X → List Taken) (xs : List X) → taken_of_row r (flat_map f xs) ≡ sum_by (λ x. taken_of_row r (f x)) xs
unfolding taken_of_row
taken_flat r f [] = refl
taken_flat r f (x ∷ xs) =
    sum_by-append (λ (t : Taken). cond (t.row == r) t.quantity 0) (f x) (flat_map f xs) ∙ (rw (taken_flat r f xs) (sym (sum_by-cons (λ x. sum_by (λ (t : Taken). cond (t.row == r) t.quantity 0) (f x)) x xs)))

running_took : (cs : List CommitmentValue) (rows : List Charge) (hour r : ℕ) → sum_by (λ c. taken_of_row r (takes_of c.0 (hour_cover cs rows hour))) (running cs hour) ≡ taken_of_row r (hour_cover cs rows hour)
unfolding running
running_took cs rows hour r =
    let f : ℕ × CommitmentValue → ℕ = λ c. taken_of_row r (takes_of c.0 (hour_cover cs rows hour)) in
    sum_kept (λ c. is_in_term c.1 hour) f (commitments_in_order cs)
    (λ k d l idle. idle_takes cs rows hour r (get_or (commitments_in_order cs) k d) (commitments_in_order_places cs k d l) idle)
    ∙ sym (taken_flat r (λ c. takes_of c.0 (hour_cover cs rows hour)) (commitments_in_order cs))
    ∙ ap (taken_of_row r) (sym (cover_grouped cs rows hour))

running_known : (cs : List CommitmentValue) (hour : ℕ) → All (Runs cs hour) (running cs hour)
unfolding running
running_known cs hour k d l = (
  All-filter (λ c. is_in_term c.1 hour) (λ c. slice_get cs c.0 ≡ Some c.1) (commitments_in_order cs) (commitments_in_order_places cs) k d l,
  filter_passes (λ (c : ℕ × CommitmentValue). is_in_term c.1 hour) (commitments_in_order cs) k d l,
)

-- ---- each row is accounted for
whole_quantity : (q : Option ℤ) → is_positive q ≡ true → q ≡ Some (pos (unsigned_abs (unwrap_or q (pos 0))))
whole_quantity None h = absurd (let e : false ≡ true = h in cc)
whole_quantity (Some (pos n)) h = refl
whole_quantity (Some (negsuc n)) h = absurd (let e : false ≡ true = h in cc)

-- what a row that commitments may cover has
pub record Measured (row : Charge) : Type 0 where
  pub quantity : is_positive row.quantity ≡ true
  pub billed : int_lt row.billed (pos 0) ≡ false
  pub effective : int_lt row.effective (pos 0) ≡ false

measured_parts : (row : Charge) → is_measured row ≡ true → Measured row
measured_parts row h =
    let sku = and_parts (is_positive row.quantity && not (int_lt row.billed (pos 0)) && not (int_lt row.effective (pos 0))) (is_some row.sku) h in
    let effective = and_parts (is_positive row.quantity && not (int_lt row.billed (pos 0))) (not (int_lt row.effective (pos 0))) sku.0 in
    let billed = and_parts (is_positive row.quantity) (not (int_lt row.billed (pos 0))) effective.0 in
    record { quantity = billed.0; billed = not-true _ billed.1; effective = not-true _ effective.1 }

pub measured_of : (row : Charge) → is_eligible row ≡ true → Measured row
unfolding is_eligible
measured_of row h = measured_parts row (and_parts (is_open_use row) (is_measured row) h).1

pub eligible_whole : (row : Charge) → is_eligible row ≡ true → row.quantity ≡ Some (pos (quantity_of row))
eligible_whole row h = whole_quantity row.quantity (measured_of row h).quantity

rest_quantity : (hour : ℕ) (row : Charge) (u : ℕ) → is_eligible row ≡ true → quantity_of_all (rest_of hour row u) ≡ pos u
unfolding rest_of rest_line
rest_quantity hour row u eligible = two_ways (nat_lt 0 u)
    (λ some. let one = quantity_cons (rest_line hour row u) [] in let none = quantity_none in rw (eligible, some) (omega (arith, ints)))
    (λ nothing. let zero_left : u ≡ 0 = grind (arith, nat_tests) in rw (eligible, nothing) (quantity_none ∙ ap pos (sym zero_left)))

accounted_eligible : (cs : List CommitmentValue) (rows : List Charge) (hour r : ℕ) (row : Charge) → slice_get rows r ≡ Some row → is_eligible row ≡ true → (own used : List LineValue)
    → own ≡ given_own hour (r, row) ++ used ++ rest_of hour row (left_of rows (hour_cover cs rows hour) r)
    → quantity_of_all used ≡ pos (sum_by (λ c. taken_of_row r (takes_of c.0 (hour_cover cs rows hour))) (running cs hour))
    → row.quantity ≡ Some (quantity_of_all own)
unfolding given_own
accounted_eligible cs rows hour r row there eligible own used is took =
    let taken : List Taken = hour_cover cs rows hour in
    let none : given_own hour (r, row) ≡ [] = rw eligible refl in
    let sum : quantity_of_all own ≡ quantity_of_all used +ℤ quantity_of_all (rest_of hour row (left_of rows taken r)) =
    ap quantity_of_all (is ∙ (rw none refl)) ∙ quantity_append used (rest_of hour row (left_of rows taken r)) in
    let all : taken_of_row r taken + left_of rows taken r ≡ quantity_of row = row_whole cs rows hour r ∙ number_at quantity_of rows r row there in
    let part : quantity_of_all used ≡ pos (taken_of_row r taken) = took ∙ ap pos (running_took cs rows hour r) in
    let left : quantity_of_all (rest_of hour row (left_of rows taken r)) ≡ pos (left_of rows taken r) = rest_quantity hour row (left_of rows taken r) eligible in
    eligible_whole row eligible ∙ ap Some (ap pos (sym all) ∙ sym (sum ∙ (rw (part, left) refl)))

accounted_given : (cs : List CommitmentValue) (rows : List Charge) (hour r : ℕ) (row : Charge) → is_eligible row ≡ false → (own used : List LineValue) → own ≡ given_own hour (r, row) ++ used ++ rest_of hour row (left_of rows (hour_cover cs rows hour) r) → used ≡ []
    → own ≡ given_line hour row ∷ []
unfolding given_own rest_of
accounted_given cs rows hour r row never own used is none = is ∙ (rw (never, none) refl)

-- ---- the shares of the commitment at a place
running_apart : (cs : List CommitmentValue) (hour : ℕ) → PlacesApart (running cs hour)
unfolding running
running_apart cs hour = filter_apart (λ c. is_in_term c.1 hour) (commitments_in_order cs) (order_places_apart cs)

of_filter : {X : Type 0} (p : X → Bool) (P : X → Type 0) (xs : List X) → All P (filter p xs) → All (λ x. p x ≡ true → P x) xs
of_filter p P [] all = All-nil (λ x. p x ≡ true → P x)
of_filter p P (x ∷ xs) all = two_ways (p x)
    (λ holds. let all' : All P (x ∷ filter p xs) = rw holds at all in All-cons (λ x. p x ≡ true → P x) x xs (λ h. All-head P x (filter p xs) all') (of_filter p P xs (All-tail P x (filter p xs) all')))
    (λ fails. let all' : All P (filter p xs) = rw fails at all in All-cons (λ x. p x ≡ true → P x) x xs (λ h. let clash : false ≡ true = sym fails ∙ h in absurd (cc)) (of_filter p P xs all'))

running_at : (P : ℕ × CommitmentValue → Type 0) (cs : List CommitmentValue) (hour place : ℕ) (c : CommitmentValue) → All P (running cs hour) → slice_get cs place ≡ Some c → is_in_term c hour ≡ true → P (place, c)
unfolding running commitments_in_order
running_at P cs hour place c all there runs =
    let Q : ℕ × CommitmentValue → Type 0 = λ c. is_in_term c.1 hour ≡ true → P c in
    element_at Q cs place c (of_in_order commitment_before Q (enumerate_from 0 cs) (of_filter (λ c. is_in_term c.1 hour) P (in_order commitment_before (enumerate_from 0 cs)) all)) there runs

pub hour_accounted : (cs : List CommitmentValue) (rows : List Charge) (hour : ℕ) (lines : List LineValue) → AreHourLines cs rows hour lines → AreAccounted cs rows hour lines
hour_accounted cs rows hour lines a =
    let taken : List Taken = hour_cover cs rows hour in
    let by = all_shared_by cs rows hour (running cs hour) a.shared (running_known cs hour) (running_apart cs hour) a.are_shared in
    let first : List Sourced = bought cs hour ++ given rows hour in
    let most : List Sourced = first ++ by.sourced in
    let all : List Sourced = most ++ rests rows taken hour in
    let parts : (test : SourceValue → Bool) → lines_from test all ≡ ((lines_from test (bought cs hour) ++ lines_from test (given rows hour)) ++ lines_from test by.sourced) ++ lines_from test (rests rows taken hour) =
    (λ test. own_append test most (rests rows taken hour) ∙ (rw (own_append test first by.sourced, own_append test (bought cs hour) (given rows hour)) refl)) in
    let own_all : (r : ℕ) (row : Charge) → slice_get rows r ≡ Some row → lines_of_row r all ≡ given_own hour (r, row) ++ lines_of_row r by.sourced ++ rest_of hour row (left_of rows taken r) =
    (λ r row there. parts (is_of_row r) ∙ (rw (bought_none (is_of_row r) (λ place. refl) cs hour, given_at rows hour r row there, rest_at (is_of_row r) r (λ k. refl) rows taken hour row there) refl)) in
    record {
      sourced = all;
      lines_are =
          let shared : flat_map (λ (ls : List LineValue). ls) a.shared ≡ lines_of by.sourced = by.lines_are in
          let made : lines_of all ≡ lines_of (bought cs hour) ++ lines_of (given rows hour) ++ lines_of by.sourced ++ lines_of (rests rows taken hour) =
          map-append (λ (s : Sourced). s.1) most (rests rows taken hour)
          ∙ ap (λ l. l ++ lines_of (rests rows taken hour)) (map-append (λ (s : Sourced). s.1) first by.sourced ∙ ap (λ l. l ++ lines_of by.sourced) (map-append (λ (s : Sourced). s.1) (bought cs hour) (given rows hour))) in
          let known : lines_of (bought cs hour) ++ lines_of (given rows hour) ++ lines_of by.sourced ++ lines_of (rests rows taken hour) ≡ purchase_lines cs hour ++ given_lines rows hour ++ flat_map (λ (ls : List LineValue). ls) a.shared ++ rest_lines rows taken hour =
          rw (bought_lines cs hour, given_are rows hour, rests_are rows taken hour, ← shared) refl in
          a.are_lines ∙ sym (made ∙ known);
      each = All-append (FromIts cs rows hour) most (rests rows taken hour)
          (All-append (FromIts cs rows hour) first by.sourced (All-append (FromIts cs rows hour) (bought cs hour) (given rows hour) (bought_from cs rows hour) (given_from cs rows hour)) by.each)
          (rests_from cs rows hour);
      rows_are = λ r row there. two_ways (is_eligible row)
          (λ eligible. rw eligible (accounted_eligible cs rows hour r row there eligible (lines_of_row r all) (lines_of_row r by.sourced) (own_all r row there) (by.quantity r)))
          (λ never. rw never (accounted_given cs rows hour r row never (lines_of_row r all) (lines_of_row r by.sourced) (own_all r row there) (by.untaken r (not_taken cs rows hour r row there never))));
      rests_are = λ r row there.
          parts (is_rest_of r)
          ∙ (rw (bought_none (is_rest_of r) (λ place. refl) cs hour, given_none (is_rest_of r) (λ row. refl) rows hour, by.unmatched (is_rest_of r) (λ place row. refl) (λ place. refl), rest_at (is_rest_of r) r (λ k. refl) rows taken hour row there) refl);
      shares_are = λ place c there runs.
          let P : ℕ × CommitmentValue → Type 0 = λ c. AreLinesAt cs rows taken hour c (lines_from (is_share_by c.0) by.sourced) in
          let same : lines_from (is_share_by place) all ≡ lines_from (is_share_by place) by.sourced =
          parts (is_share_by place)
          ∙ (rw (bought_none (is_share_by place) (λ p. refl) cs hour, given_none (is_share_by place) (λ row. refl) rows hour, rests_none (is_share_by place) (λ row. refl) rows taken hour) (append-nil (lines_from (is_share_by place) by.sourced))) in
          subst (AreLinesAt cs rows taken hour (place, c)) (sym same) (running_at P cs hour place c by.shares there runs);
      purchases_are = λ place c there.
          parts (is_bought_by place)
          ∙ (rw (bought_at cs hour place c there, given_none (is_bought_by place) (λ row. refl) rows hour, by.unmatched (is_bought_by place) (λ p row. refl) (λ p. refl), rests_none (is_bought_by place) (λ row. refl) rows taken hour)
          (append-nil _ ∙ append-nil _ ∙ append-nil (purchase_lines_of hour c)));
    }
