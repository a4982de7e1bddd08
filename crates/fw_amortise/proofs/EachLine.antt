-- What holds of lines of each kind holds of the lines of an hour.
use Rattle.std.proofs.Common.{◌≡◌, ◌==◌, ℕ, Bool, true, false, ◌&&◌, cond, nat_lt, List, [], ◌∷◌, ◌++◌, length, get_or, map, filter, All, drop, not}
use Rattle.std.specs.List.{AllZip, flat_map, enumerate_from, zip}
use Rattle.std.proofs.lemmas.List.Elements.{All-append, All-filter, All-map, All-nil, All-cons, filter_passes}
use Rattle.std.proofs.lemmas.Bool.{eqb-true}
use Rattle.fw_charge.specs.Charge.{Charge, hour_of}
use Rattle.fw_terms.specs.Commitment.{CommitmentValue, PurchaseValue}
use Rattle.fw_cover.specs.declared.taken.Taken.{Taken}
use Rattle.fw_cover.specs.Eligible.{is_eligible, is_of_hour}
use Rattle.fw_cover.specs.Hour.{hour_cover, takes_of, left_of}
use Rattle.fw_cover.proofs.Within.{all_enumerate, all_flat_map}
use Rattle.fw_amortise.specs.LineValue.{LineValue}
use Rattle.fw_amortise.specs.Lines.{purchase_line, purchase_lines_of, purchase_lines, given_line, given_lines, used_line, unused_line, shared_lines, rest_line, rest_of, rest_lines, AreLinesAt, AreHourLines, AreLines, rows_in, running}

-- the rows of an hour are of that hour
pub rows_are_of_hour : (hour : ℕ) (rows : List Charge) → All (λ r. hour_of r.start ≡ hour) (rows_in hour rows)
unfolding rows_in is_of_hour
rows_are_of_hour hour rows k d l = eqb-true (hour_of (get_or (filter (λ r. hour_of r.start == hour) rows) k d).start) hour (filter_passes (λ (r : Charge). hour_of r.start == hour) rows k d l)

-- P holds of each kind of line, where Q holds of the rows
pub record HoldsOfEach (P : LineValue → Type 0) (Q : Charge → Type 0) (hour : ℕ) : Type 0 where
  pub purchase : (c : CommitmentValue) (p : PurchaseValue) → P (purchase_line hour c p)
  pub given : (row : Charge) → Q row → P (given_line hour row)
  pub used : (c : CommitmentValue) (rows : List Charge) (t : Taken) (share : ℕ) → P (used_line hour c rows t share)
  pub unused : (c : CommitmentValue) (share : ℕ) → P (unused_line hour c share)
  pub rest : (row : Charge) (u : ℕ) → Q row → P (rest_line hour row u)

all_flat : {X : Type 0} (P : LineValue → Type 0) (f : X → List LineValue) → ((x : X) → All P (f x)) → (xs : List X) → All P (flat_map f xs)
all_flat P f each [] = All-nil P
all_flat P f each (x ∷ xs) = All-append P (f x) (flat_map f xs) (each x) (all_flat P f each xs)

all_mapped : {X : Type 0} (P : LineValue → Type 0) (f : X → LineValue) → ((x : X) → P (f x)) → (xs : List X) → All P (map f xs)
all_mapped P f each xs = All-map P f xs (λ k d l. each (get_or xs k d))

purchases_each : (P : LineValue → Type 0) (Q : Charge → Type 0) (hour : ℕ) → HoldsOfEach P Q hour → (cs : List CommitmentValue) → All P (purchase_lines cs hour)
unfolding purchase_lines purchase_lines_of
purchases_each P Q hour h cs = all_flat P (purchase_lines_of hour) (λ c. all_mapped P (purchase_line hour c) (h.purchase c) _) cs

given_each : (P : LineValue → Type 0) (Q : Charge → Type 0) (hour : ℕ) → HoldsOfEach P Q hour → (rows : List Charge) → All Q rows → All P (given_lines rows hour)
unfolding given_lines
given_each P Q hour h rows known =
    let kept : All Q (filter (λ row. not (is_eligible row)) rows) = All-filter (λ row. not (is_eligible row)) Q rows known in
    All-map P (given_line hour) (filter (λ row. not (is_eligible row)) rows) (λ k d l. h.given (get_or (filter (λ row. not (is_eligible row)) rows) k d) (kept k d l))

shared_each : (P : LineValue → Type 0) (Q : Charge → Type 0) (hour : ℕ) → HoldsOfEach P Q hour → (c : CommitmentValue) (rows : List Charge) (takes : List Taken) (shares : List ℕ) → All P (shared_lines hour c rows takes shares)
unfolding shared_lines
shared_each P Q hour h c rows takes shares =
    All-append P _ _ (all_mapped P (λ p. used_line hour c rows p.0 p.1) (λ p. h.used c rows p.0 p.1) (zip takes shares)) (all_mapped P (unused_line hour c) (h.unused c) (drop (length takes) shares))

all_shared : (P : LineValue → Type 0) (Q : Charge → Type 0) (hour : ℕ) → HoldsOfEach P Q hour → (cs : List CommitmentValue) (rows : List Charge) (taken : List Taken) (some : List (ℕ × CommitmentValue)) (shared : List (List LineValue))
    → AllZip (AreLinesAt cs rows taken hour) some shared → All P (flat_map (λ ls. ls) shared)
all_shared P Q hour h cs rows taken [] [] a = All-nil P
all_shared P Q hour h cs rows taken [] (ls ∷ shared) a = absurd a
all_shared P Q hour h cs rows taken (c ∷ some) [] a = absurd a
all_shared P Q hour h cs rows taken (c ∷ some) (ls ∷ shared) a =
    All-append P ls (flat_map (λ ls. ls) shared) (rw a.0.are_lines (shared_each P Q hour h c.1 rows (takes_of c.0 taken) a.0.shares)) (all_shared P Q hour h cs rows taken some shared a.1)

rest_each : (P : LineValue → Type 0) (Q : Charge → Type 0) (hour : ℕ) → HoldsOfEach P Q hour → (test : Bool) (row : Charge) (u : ℕ) → Q row → All P (cond test (rest_line hour row u ∷ []) [])
rest_each P Q hour h true row u known = All-cons P (rest_line hour row u) [] (h.rest row u known) (All-nil P)
rest_each P Q hour h false row u known = All-nil P

rests_each : (P : LineValue → Type 0) (Q : Charge → Type 0) (hour : ℕ) → HoldsOfEach P Q hour → (rows : List Charge) (taken : List Taken) → All Q rows → All P (rest_lines rows taken hour)
unfolding rest_lines rest_of
rests_each P Q hour h rows taken known =
    all_flat_map P (λ r. rest_of hour r.1 (left_of rows taken r.0)) (enumerate_from 0 rows)
    (all_enumerate (λ r. All P (rest_of hour r.1 (left_of rows taken r.0))) rows
    (λ k d l. rest_each P Q hour h (is_eligible (get_or rows k d) && nat_lt 0 (left_of rows taken k)) (get_or rows k d) (left_of rows taken k) (known k d l)))

pub hour_each : (P : LineValue → Type 0) (Q : Charge → Type 0) (cs : List CommitmentValue) (rows : List Charge) (hour : ℕ) (lines : List LineValue) → HoldsOfEach P Q hour → All Q rows → AreHourLines cs rows hour lines → All P lines
hour_each P Q cs rows hour lines h known a =
    let taken : List Taken = hour_cover cs rows hour in
    let one : All P (purchase_lines cs hour ++ given_lines rows hour) = All-append P (purchase_lines cs hour) (given_lines rows hour) (purchases_each P Q hour h cs) (given_each P Q hour h rows known) in
    let two : All P (purchase_lines cs hour ++ given_lines rows hour ++ flat_map (λ ls. ls) a.shared) =
    All-append P (purchase_lines cs hour ++ given_lines rows hour) (flat_map (λ ls. ls) a.shared) one (all_shared P Q hour h cs rows taken (running cs hour) a.shared a.are_shared) in
    rw a.are_lines (All-append P (purchase_lines cs hour ++ given_lines rows hour ++ flat_map (λ ls. ls) a.shared) (rest_lines rows taken hour) two (rests_each P Q hour h rows taken known))

-- the same of the lines of an hour among rows of any hours
pub lines_each : (P : LineValue → Type 0) (Q : Charge → Type 0) (cs : List CommitmentValue) (rows : List Charge) (hour : ℕ) (lines : List LineValue) → HoldsOfEach P Q hour → All Q rows → AreLines cs rows hour lines → All P lines
unfolding AreLines rows_in
lines_each P Q cs rows hour lines h known a = hour_each P Q cs (rows_in hour rows) hour lines h (All-filter (is_of_hour hour) Q rows known) a
