-- Commitments with the purchases that are added to them: their number, their ids, and who carries these.
use Rattle.std.proofs.Common.{◌≡◌, ◌||◌, ◌++◌, ◌∷◌, List, [], Option, Some, None, false, length, map, refl, sym, ap, ◌∙◌}
use Rattle.std.specs.Option.{option_map_or}
use Rattle.std.specs.Str.{bytes_eq}
use Rattle.std.specs.Prelude.{ℕ}
use Rattle.std.proofs.lemmas.List.{flat_map_more, length-map}
use Rattle.fw_charge.specs.Charge.{Charge, DiscountText}
use Rattle.fw_terms.specs.Commitment.{CommitmentValue}
use Rattle.fw_entry.specs.Entry.{EntryValue}
use Rattle.fw_snapshot.specs.History.{added, committed_of, purchases_added, with_added, commitments_of}
use Rattle.fw_snapshot.specs.Judging.{is_registered, has_registered_id, carries_any}

pub purchases_added_more : (id : List ℕ) (es : List EntryValue) (e : EntryValue) → purchases_added id (es ++ e ∷ []) ≡ purchases_added id es ++ added id e.command
unfolding purchases_added
purchases_added_more id es e = sym (flat_map_more (λ e. added id e.command) [] es e)

pub commitments_count : (es : List EntryValue) → length (commitments_of es) ≡ length (committed_of es)
unfolding commitments_of
commitments_count es = length-map (committed_of es) (with_added es)

-- a commitment that has purchases added keeps its id
pub same_ids : (es : List EntryValue) (id : List ℕ) (cs : List CommitmentValue) → is_registered id (map (with_added es) cs) ≡ is_registered id cs
unfolding is_registered
same_ids es id [] = refl
same_ids es id (c ∷ cs) = ap (λ b. bytes_eq id c.id || b) (same_ids es id cs)

pub registered_same : (es : List EntryValue) (id : List ℕ) → is_registered id (commitments_of es) ≡ is_registered id (committed_of es)
unfolding commitments_of
registered_same es id = same_ids es id (committed_of es)

same_discount : (es : List EntryValue) (discount : Option DiscountText) → option_map_or (λ d. is_registered d.id (commitments_of es)) discount false ≡ option_map_or (λ d. is_registered d.id (committed_of es)) discount false
same_discount es None = refl
same_discount es (Some d) = registered_same es d.id

-- so the same rows carry one of the ids
pub carries_same : (es : List EntryValue) (rows : List Charge) → carries_any rows (commitments_of es) ≡ carries_any rows (committed_of es)
unfolding carries_any
carries_same es [] = refl
carries_same es (row ∷ rows) =
    ap (λ b. b || carries_any rows (commitments_of es)) (same_discount es row.discount)
    ∙ ap (λ b. has_registered_id (committed_of es) row || b) (carries_same es rows)
