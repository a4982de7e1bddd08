-- At most one list is the lines of an hour.
use Rattle.std.proofs.Common.{◌≡◌, ℕ, List, [], ◌∷◌, ◌++◌, refl, sym, ap, ◌∙◌}
use Rattle.std.specs.List.{AllZip, flat_map}
use Rattle.fw_shares.proofs.Unique.{shares_same}
use Rattle.fw_charge.specs.Charge.{Charge}
use Rattle.fw_terms.specs.Commitment.{CommitmentValue}
use Rattle.fw_cover.specs.declared.taken.Taken.{Taken}
use Rattle.fw_cover.specs.Hour.{hour_cover, takes_of, unused_of}
use Rattle.fw_amortise.specs.LineValue.{LineValue}
use Rattle.fw_amortise.specs.Lines.{amount_in, weights_of, shared_lines, AreCommitmentLines, AreLinesAt, AreHourLines, AreLines, rows_in, running, purchase_lines, given_lines, rest_lines}

commitment_lines_same : (hour : ℕ) (c : CommitmentValue) (rows : List Charge) (takes : List Taken) (unused : ℕ) (xs ys : List LineValue) → AreCommitmentLines hour c rows takes unused xs → AreCommitmentLines hour c rows takes unused ys → xs ≡ ys
commitment_lines_same hour c rows takes unused xs ys a b =
    a.are_lines ∙ (ap (shared_lines hour c rows takes) (shares_same (amount_in c hour) (weights_of takes unused) a.shares b.shares a.are_shares b.are_shares) ∙ sym b.are_lines)

pub AllZip-same : {A B : Type 0} (R : A → B → Type 0) → ((a : A) (x y : B) → R a x → R a y → x ≡ y) → (ws : List A) (xs ys : List B) → AllZip R ws xs → AllZip R ws ys → xs ≡ ys
AllZip-same R one [] [] [] p q = refl
AllZip-same R one [] [] (y ∷ ys) p q = absurd q
AllZip-same R one [] (x ∷ xs) ys p q = absurd p
AllZip-same R one (a ∷ ws) [] ys p q = absurd p
AllZip-same R one (a ∷ ws) (x ∷ xs) [] p q = absurd q
AllZip-same R one (a ∷ ws) (x ∷ xs) (y ∷ ys) p q = rw (one a x y p.0 q.0, AllZip-same R one ws xs ys p.1 q.1) refl

pub hour_lines_same : (cs : List CommitmentValue) (rows : List Charge) (hour : ℕ) (xs ys : List LineValue) → AreHourLines cs rows hour xs → AreHourLines cs rows hour ys → xs ≡ ys
hour_lines_same cs rows hour xs ys a b =
    let taken : List Taken = hour_cover cs rows hour in
    let same : a.shared ≡ b.shared =
    AllZip-same (AreLinesAt cs rows taken hour) (λ c x y p q. commitment_lines_same hour c.1 rows (takes_of c.0 taken) (unused_of cs taken c.0) x y p q) (running cs hour) a.shared b.shared a.are_shared b.are_shared in
    a.are_lines ∙ (ap (λ s. purchase_lines cs hour ++ given_lines rows hour ++ flat_map (λ ls. ls) s ++ rest_lines rows taken hour) same ∙ sym b.are_lines)

pub lines_same : (cs : List CommitmentValue) (rows : List Charge) (hour : ℕ) (xs ys : List LineValue) → AreLines cs rows hour xs → AreLines cs rows hour ys → xs ≡ ys
unfolding AreLines
lines_same cs rows hour xs ys a b = hour_lines_same cs (rows_in hour rows) hour xs ys a b
