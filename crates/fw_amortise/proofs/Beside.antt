-- What a commitment left unused and what is left of a row that it applies to: only one of the two has a line or, at a rate, the rest is out of reach.
use Rattle.std.proofs.Common.{◌≡◌, ℕ, ◌<◌, ◌==◌, ◌⊎◌, inl, inr, ⊎_elim, false, List, [], Some, get_or, refl, subst, arith}
use Rattle.std.specs.Prelude.{unsigned_abs}
use Rattle.std.proofs.lemmas.Bool.{cases_lt, eqb-true}
use Rattle.fw_charge.specs.Charge.{Charge}
use Rattle.fw_charge.specs.declared.discount.DiscountKind.TheVariants as discount
use Rattle.fw_terms.specs.Commitment.{CommitmentValue, kind_of}
use Rattle.fw_cover.specs.Applies.{applied}
use Rattle.fw_cover.specs.Hour.{hour_cover, left_of, quantity_of, unused_of}
use Rattle.fw_cover.specs.Meeting.{Meets}
use Rattle.fw_cover.specs.Part.{IsOutOfReach}
use Rattle.fw_cover.proofs.Filling.{row_out_of_reach, row_used_up}
use Rattle.fw_cover.proofs.Sorting.{two_ways}
use Rattle.fw_amortise.specs.LineValue.{LineValue}
use Rattle.fw_amortise.specs.Sources.{AreAccounted, ComesFrom, SourceValue, is_rest_of, is_unused_by, lines_from}
use Rattle.fw_amortise.specs.Sources.SourceValue.{bought_by, row_given, used_by, unused_by, row_left}
use Rattle.fw_amortise.proofs.Sourced.{own_none}

no_unused : (cs : List CommitmentValue) (rows : List Charge) (hour place : ℕ) → unused_of cs (hour_cover cs rows hour) place ≡ 0 → (s : SourceValue) (line : LineValue) → ComesFrom cs rows hour s line → is_unused_by place s ≡ false
no_unused cs rows hour place none (bought_by k) line from = refl
no_unused cs rows hour place none (row_given r) line from = refl
no_unused cs rows hour place none (used_by k r) line from = refl
no_unused cs rows hour place none (unused_by k) line from = two_ways (k == place)
    (λ same. let some : 0 < unused_of cs (hour_cover cs rows hour) place = subst (λ (x : ℕ). 0 < unused_of cs (hour_cover cs rows hour) x) (eqb-true k place same) from.some in absurd (omega (arith, none, some)))
    (λ other. other)
no_unused cs rows hour place none (row_left r) line from = refl

no_rest : (cs : List CommitmentValue) (rows : List Charge) (hour row : ℕ) → left_of rows (hour_cover cs rows hour) row ≡ 0 → (s : SourceValue) (line : LineValue) → ComesFrom cs rows hour s line → is_rest_of row s ≡ false
no_rest cs rows hour row none (bought_by k) line from = refl
no_rest cs rows hour row none (row_given r) line from = refl
no_rest cs rows hour row none (used_by k r) line from = refl
no_rest cs rows hour row none (unused_by k) line from = refl
no_rest cs rows hour row none (row_left r) line from = two_ways (r == row)
    (λ same. let left : from.left ≡ left_of rows (hour_cover cs rows hour) row = subst (λ (x : ℕ). from.left ≡ left_of rows (hour_cover cs rows hour) x) (eqb-true r row same) from.left_is in absurd (omega (arith, none, left, from.some)))
    (λ other. other)

none_unused : (cs : List CommitmentValue) (rows : List Charge) (hour : ℕ) (lines : List LineValue) (account : AreAccounted cs rows hour lines) (place : ℕ) → unused_of cs (hour_cover cs rows hour) place ≡ 0 → lines_from (is_unused_by place) account.sourced ≡ []
none_unused cs rows hour lines account place none =
    own_none (is_unused_by place) account.sourced (λ k d l. no_unused cs rows hour place none (get_or account.sourced k d).0 (get_or account.sourced k d).1 (account.each k d l))

none_left : (cs : List CommitmentValue) (rows : List Charge) (hour : ℕ) (lines : List LineValue) (account : AreAccounted cs rows hour lines) (row : ℕ) → left_of rows (hour_cover cs rows hour) row ≡ 0 → lines_from (is_rest_of row) account.sourced ≡ []
none_left cs rows hour lines account row none =
    own_none (is_rest_of row) account.sourced (λ k d l. no_rest cs rows hour row none (get_or account.sourced k d).0 (get_or account.sourced k d).1 (account.each k d l))

pub one_beside : (cs : List CommitmentValue) (rows : List Charge) (hour : ℕ) (lines : List LineValue) (account : AreAccounted cs rows hour lines) (place row : ℕ) (meets : Meets cs rows hour place row) → kind_of meets.commitment.terms ≡ discount.Usage
    → (lines_from (is_unused_by place) account.sourced ≡ []) ⊎ (lines_from (is_rest_of row) account.sourced ≡ [])
one_beside cs rows hour lines account place row meets is = ⊎_elim
    (λ (none : unused_of cs (hour_cover cs rows hour) place < 1). inl (none_unused cs rows hour lines account place (omega arith)))
    (λ some. inr (none_left cs rows hour lines account row (row_used_up cs rows hour place row meets is some)))
    (cases_lt (unused_of cs (hour_cover cs rows hour) place) 1)

pub far_beside : (cs : List CommitmentValue) (rows : List Charge) (hour : ℕ) (lines : List LineValue) (account : AreAccounted cs rows hour lines) (place row : ℕ) (meets : Meets cs rows hour place row) (rate : ℕ) → applied meets.commitment hour meets.charge ≡ Some (Some rate)
    → (lines_from (is_unused_by place) account.sourced ≡ []) ⊎ ((lines_from (is_rest_of row) account.sourced ≡ [])
    ⊎ IsOutOfReach (unsigned_abs meets.charge.billed) (quantity_of meets.charge) rate (left_of rows (hour_cover cs rows hour) row) (unused_of cs (hour_cover cs rows hour) place))
far_beside cs rows hour lines account place row meets rate by = ⊎_elim
    (λ (none : unused_of cs (hour_cover cs rows hour) place < 1). inl (none_unused cs rows hour lines account place (omega arith)))
    (λ some. inr (⊎_elim
    (λ (none : left_of rows (hour_cover cs rows hour) row < 1). inl (none_left cs rows hour lines account row (omega arith)))
    (λ left. inr (row_out_of_reach cs rows hour place row meets rate by some left))
    (cases_lt (left_of rows (hour_cover cs rows hour) row) 1)))
    (cases_lt (unused_of cs (hour_cover cs rows hour) place) 1)
