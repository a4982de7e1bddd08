-- The order in which the commitments of an hour meet its rows.
use Rattle.std.specs.Prelude.{◌≡◌, ℕ, Bool, false, List, [], ◌∷◌, length, All, Option, if◌then◌else◌, nat_lt, unwrap_or, option_map}
use Rattle.std.specs.List.{enumerate_from, flat_map, filter_map}
use Rattle.std.specs.Ordering.{is_lt, nat_cmp, ordering_then}
use Rattle.std.specs.declared.cmp.Ordering.{Ordering}
use Rattle.std.specs.Cmp.Lexicographic.{slice_cmp}
use Rattle.fw_charge.specs.Charge.{Charge}
use Rattle.fw_terms.specs.Commitment.{CommitmentValue, TermsValue}
use Rattle.fw_terms.specs.Commitment.TermsValue.{usage, spend}
use Rattle.fw_cover.specs.Applies.{applied}
use Rattle.fw_cover.specs.declared.pair.Pair.{Pair}

-- a list in the order of a test, `before x y`; what the test leaves open keeps its order
abbrev pub insert_by : {X : Type 0} → (X → X → Bool) → X → List X → List X
insert_by before x [] = x ∷ []
insert_by before x (y ∷ ys) = if before y x then y ∷ insert_by before x ys else (x ∷ (y ∷ ys))

abbrev pub in_order : {X : Type 0} → (X → X → Bool) → List X → List X
in_order before [] = []
in_order before (x ∷ xs) = insert_by before x (in_order before xs)

-- commitments to a quantity go before those to a cost
abbrev pub kind_rank : TermsValue → ℕ
kind_rank (usage unit skus) = 0
kind_rank (spend rates) = 1

-- by kind, then by the first hour, then by the bytes of the id
unfoldable pub compare_commitments : ℕ × CommitmentValue → ℕ × CommitmentValue → Ordering
compare_commitments x y =
    ordering_then (ordering_then (nat_cmp (kind_rank x.1.terms) (kind_rank y.1.terms)) (nat_cmp x.1.start y.1.start)) (slice_cmp nat_cmp x.1.id y.1.id)

abbrev pub commitment_before : ℕ × CommitmentValue → ℕ × CommitmentValue → Bool
commitment_before x y = is_lt (compare_commitments x y)

-- the commitments in their order, each beside its place in the list
unfoldable pub commitments_in_order : List CommitmentValue → List (ℕ × CommitmentValue)
commitments_in_order cs = in_order commitment_before (enumerate_from 0 cs)

-- a commitment that comes behind the list goes before none of it, and so after all of it
abbrev pub GoesLast : List CommitmentValue → CommitmentValue → Type 0
GoesLast cs c = All (λ d. commitment_before (length cs, c) d ≡ false) (enumerate_from 0 cs)

-- the pair of a commitment and a row, each beside its place, where the commitment applies to the row
unfoldable pub pair_for : ℕ → ℕ × CommitmentValue → ℕ × Charge → Option Pair
pair_for hour c row = option_map (λ rate. record { commitment = c.0; row = row.0; rate = rate }) (applied c.1 hour row.1)

-- the pair at the lower rate goes first; a commitment to a quantity has no rate, which counts as 0
abbrev pub has_lower_rate : Pair → Pair → Bool
has_lower_rate p q = nat_lt (unwrap_or p.rate 0) (unwrap_or q.rate 0)

-- the pairs of a commitment with the rows that it applies to, in the order of their rates; rows at one rate keep their order
unfoldable pub pairs_of_commitment : ℕ → List Charge → ℕ × CommitmentValue → List Pair
pairs_of_commitment hour rows c = in_order has_lower_rate (filter_map (pair_for hour c) (enumerate_from 0 rows))

-- the pairs of an hour: those of each commitment in turn, in the order of the commitments
unfoldable pub pairs_of : List CommitmentValue → List Charge → ℕ → List Pair
pairs_of cs rows hour = flat_map (pairs_of_commitment hour rows) (commitments_in_order cs)
