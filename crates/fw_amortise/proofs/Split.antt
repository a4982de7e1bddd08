-- How a commitment's amount of an hour is split: its used and unused lines are the shares of the amount over its capacity.
use Rattle.std.proofs.Common.{◌≡◌, ◌∙◌, ℕ, zero, suc, ◌<◌, ◌==◌, Bool, true, List, [], ◌∷◌, length, get_or, filter, map, sum, Some, refl, sym, ap, subst, arith}
use Rattle.std.specs.Prelude.{slice_get}
use Rattle.std.specs.Str.{bytes_eq}
use Rattle.std.proofs.lemmas.Bool.{eqb-true, eqb-false}
use Rattle.std.proofs.lemmas.Option.{slice_get_within, get_or_from_slice_get}
use Rattle.std.proofs.lemmas.Slice.Eq.{bytes_eq-Decides}
use Rattle.fw_charge.specs.Charge.{Charge}
use Rattle.fw_terms.specs.Commitment.{CommitmentValue}
use Rattle.fw_cover.specs.Applies.{is_in_term}
use Rattle.fw_cover.specs.Hour.{hour_cover, takes_of, unused_of}
use Rattle.fw_cover.proofs.Index.{filter_map_of}
use Rattle.fw_cover.proofs.Sorting.{two_ways}
use Rattle.fw_cover.proofs.Whole.{commitment_whole}
use Rattle.fw_amortise.specs.Carrying.{IsOnly, is_share_of}
use Rattle.fw_amortise.specs.LineValue.{LineValue}
use Rattle.fw_amortise.specs.Lines.{AreCommitmentLines, AreHourLines, given_line, purchase_line, rest_line, unused_line, used_line, weights_of}
use Rattle.fw_amortise.specs.Sources.{ComesFrom, SourceValue, is_share_by, lines_from}
use Rattle.fw_amortise.specs.Sources.SourceValue.{bought_by, row_given, used_by, unused_by, row_left}
use Rattle.fw_amortise.proofs.Accounting.{hour_accounted}
use Rattle.fw_amortise.proofs.Named.{filter_same}
use Rattle.fw_amortise.proofs.Sharing.{whole_capacity}
use Rattle.fw_amortise.proofs.Sourced.{Sourced}
use Rattle.fw_amortise.proofs.Weights.{sum-weights_of}

-- ---- of what passes a test once there is one place
some_passes : {X : Type 0} (p : X → Bool) (xs : List X) (k : ℕ) (x : X) → slice_get xs k ≡ Some x → p x ≡ true → 0 < length (filter p xs)
some_passes p [] k x there holds = absurd (cc)
some_passes p (y ∷ xs) zero x there holds =
    let same : y ≡ x = cc in
    let here : p y ≡ true = ap p same ∙ holds in
    rw here (omega arith)
some_passes p (y ∷ xs) (suc k) x there holds =
    let rest : 0 < length (filter p xs) = some_passes p xs k x there holds in
    two_ways (p y) (λ passes. rw passes (omega arith)) (λ fails. rw fails rest)

one_place : {X : Type 0} (p : X → Bool) (xs : List X) (i j : ℕ) (x y : X) → slice_get xs i ≡ Some x → slice_get xs j ≡ Some y → p x ≡ true → p y ≡ true → length (filter p xs) ≡ 1 → i ≡ j
one_place p [] i j x y at_i at_j px py one = absurd (cc)
one_place p (z ∷ xs) zero zero x y at_i at_j px py one = refl
one_place p (z ∷ xs) zero (suc j) x y at_i at_j px py one =
    let same : z ≡ x = cc in
    let here : p z ≡ true = ap p same ∙ px in
    let one' = rw here at one in
    let more = some_passes p xs j y at_j py in
    absurd (omega (arith, one', more))
one_place p (z ∷ xs) (suc i) zero x y at_i at_j px py one =
    let same : z ≡ y = cc in
    let here : p z ≡ true = ap p same ∙ py in
    let one' = rw here at one in
    let more = some_passes p xs i x at_i px in
    absurd (omega (arith, one', more))
one_place p (z ∷ xs) (suc i) (suc j) x y at_i at_j px py one = ap suc (two_ways (p z)
    (λ passes. let one' = rw passes at one in let more = some_passes p xs i x at_i px in absurd (omega (arith, one', more)))
    (λ fails. let one' = rw fails at one in one_place p xs i j x y at_i at_j px py one'))

-- ---- a line carries a share of the commitment exactly where it comes from one
same_id : (cs : List CommitmentValue) (place k : ℕ) (c d : CommitmentValue) → IsOnly cs c → slice_get cs place ≡ Some c → slice_get cs k ≡ Some d → bytes_eq d.id c.id ≡ (k == place)
unfolding IsOnly
same_id cs place k c d only there at = two_ways (k == place)
    (λ same.
    let at' : slice_get cs place ≡ Some d = subst (λ (x : ℕ). slice_get cs x ≡ Some d) (eqb-true k place same) at in
    let e : Some d ≡ Some c = sym at' ∙ there in
    let value : d ≡ c = cc in
    (bytes_eq-Decides d.id c.id).1 (ap (λ (x : CommitmentValue). x.id) value) ∙ sym same)
    (λ apart. two_ways (bytes_eq d.id c.id)
    (λ holds. absurd (eqb-false k place apart (one_place (λ (x : CommitmentValue). bytes_eq x.id c.id) cs k place d c at there holds ((bytes_eq-Decides c.id c.id).1 refl) (ap length only))))
    (λ fails. fails ∙ sym apart))

shared_as : (cs : List CommitmentValue) (rows : List Charge) (hour place : ℕ) (c : CommitmentValue) → IsOnly cs c → slice_get cs place ≡ Some c → (s : SourceValue) (line : LineValue) → ComesFrom cs rows hour s line → is_share_of c.id line ≡ is_share_by place s
unfolding is_share_of purchase_line given_line used_line unused_line rest_line
shared_as cs rows hour place c only there (bought_by k) line from = ap (is_share_of c.id) from.line_is
shared_as cs rows hour place c only there (row_given r) line from = ap (is_share_of c.id) from.line_is
shared_as cs rows hour place c only there (used_by k r) line from = ap (is_share_of c.id) from.line_is ∙ same_id cs place k c from.meets.commitment only there from.meets.at_place
shared_as cs rows hour place c only there (unused_by k) line from = ap (is_share_of c.id) from.line_is ∙ same_id cs place k c from.commitment only there from.at_place
shared_as cs rows hour place c only there (row_left r) line from = ap (is_share_of c.id) from.line_is

pub lines_shared : (cs : List CommitmentValue) (rows : List Charge) (hour : ℕ) (lines : List LineValue) (place : ℕ) (c : CommitmentValue) → AreHourLines cs rows hour lines → IsOnly cs c → slice_get cs place ≡ Some c → is_in_term c hour ≡ true
    → AreCommitmentLines hour c rows (takes_of place (hour_cover cs rows hour)) (unused_of cs (hour_cover cs rows hour) place) (filter (is_share_of c.id) lines)
unfolding lines_from
lines_shared cs rows hour lines place c are only there runs =
    let account = hour_accounted cs rows hour lines are in
    let named : filter (is_share_of c.id) lines ≡ lines_from (is_share_by place) account.sourced =
    ap (filter (is_share_of c.id)) account.lines_are
    ∙ filter_map_of (λ (s : Sourced). s.1) (is_share_of c.id) account.sourced
    ∙ ap (map (λ (s : Sourced). s.1)) (filter_same (λ (s : Sourced). is_share_of c.id s.1) (λ s. is_share_by place s.0) account.sourced
    (λ k d l. shared_as cs rows hour place c only there (get_or account.sourced k d).0 (get_or account.sourced k d).1 (account.each k d l))) in
    subst (AreCommitmentLines hour c rows (takes_of place (hour_cover cs rows hour)) (unused_of cs (hour_cover cs rows hour) place)) (sym named) (account.shares_are place c there runs)

pub weights_are_the_capacity : (cs : List CommitmentValue) (rows : List Charge) (hour place : ℕ) (c : CommitmentValue) → slice_get cs place ≡ Some c
    → sum (weights_of (takes_of place (hour_cover cs rows hour)) (unused_of cs (hour_cover cs rows hour) place)) ≡ c.capacity
weights_are_the_capacity cs rows hour place c there =
    sum-weights_of (takes_of place (hour_cover cs rows hour)) (unused_of cs (hour_cover cs rows hour) place)
    ∙ whole_capacity cs (hour_cover cs rows hour) place (unused_of cs (hour_cover cs rows hour) place) c (slice_get_within cs place c there) (sym (get_or_from_slice_get cs place c c there)) (commitment_whole cs rows hour place)
