-- Each row of an hour has a line with its tags: as it was given, what a commitment took of it, or what is left of it.
use Rattle.std.proofs.Common.{◌≡◌, ◌∙◌, ℕ, ◌==◌, Bool, true, false, List, [], ◌∷◌, get_or, All, Some, sym, ap}
use Rattle.std.specs.Prelude.{pos, slice_get}
use Rattle.std.specs.List.{list_any}
use Rattle.std.specs.Option.{option_map_or}
use Rattle.std.proofs.lemmas.Bool.{MatchBool-at_false, MatchBool-at_true, eqb-true}
use Rattle.std.proofs.lemmas.List.{get_or-map, length-map}
use Rattle.std.proofs.lemmas.List.Folds.{list_any_at}
use Rattle.fw_charge.specs.Charge.{Charge}
use Rattle.fw_charge.specs.Tags.{TagText}
use Rattle.fw_terms.specs.Commitment.{CommitmentValue}
use Rattle.fw_cover.specs.Eligible.{is_eligible, is_positive}
use Rattle.fw_cover.proofs.Sorting.{two_ways}
use Rattle.fw_amortise.specs.LineValue.{LineValue}
use Rattle.fw_amortise.specs.Lines.{AreHourLines, given_line, rest_line, used_line}
use Rattle.fw_amortise.specs.Sources.{ComesFrom, IsAccounted, SourceValue, is_of_row, lines_of_row, quantity_of_all}
use Rattle.fw_amortise.specs.Sources.SourceValue.{bought_by, row_given, used_by, unused_by, row_left}
use Rattle.fw_amortise.proofs.Accounting.{hour_accounted, measured_of}
use Rattle.fw_amortise.proofs.Sourced.{FromIts, Sourced, lines_of, own_none}

-- the row at a place is one
same_row : (rows : List Charge) (k r : ℕ) (a b : Charge) → slice_get rows k ≡ Some a → slice_get rows r ≡ Some b → (k == r) ≡ true → a ≡ b
same_row rows k r a b at there same =
    let e : Some a ≡ Some b = sym at ∙ ap (slice_get rows) (eqb-true k r same) ∙ there in
    cc

-- a line that comes from a row, or from a part of it, has the tags of the row
own_tags : (cs : List CommitmentValue) (rows : List Charge) (hour r : ℕ) (row : Charge) → slice_get rows r ≡ Some row → (s : SourceValue) (line : LineValue) → ComesFrom cs rows hour s line → is_of_row r s ≡ true → line.tags ≡ row.tags
unfolding given_line used_line rest_line
own_tags cs rows hour r row there (bought_by k) line from own = absurd (cc)
own_tags cs rows hour r row there (row_given k) line from own = ap (λ (l : LineValue). l.tags) from.line_is ∙ ap (λ (x : Charge). x.tags) (same_row rows k r from.charge row from.at_row there own)
own_tags cs rows hour r row there (used_by place k) line from own =
    let at : slice_get rows from.take.row ≡ Some row = ap (slice_get rows) (from.of_row ∙ eqb-true k r own) ∙ there in
    ap (λ (l : LineValue). l.tags) from.line_is ∙ ap (λ x. option_map_or (λ (y : Charge). y.tags) x []) at
own_tags cs rows hour r row there (unused_by k) line from own = absurd (cc)
own_tags cs rows hour r row there (row_left k) line from own = ap (λ (l : LineValue). l.tags) from.line_is ∙ ap (λ (x : Charge). x.tags) (same_row rows k r from.charge row from.at_row there own)

-- where no line passes that would with the tags of the row, none comes from it
none_of_row : (cs : List CommitmentValue) (rows : List Charge) (hour r : ℕ) (row : Charge) (p : List TagText → Bool) → slice_get rows r ≡ Some row → p row.tags ≡ true → (sourced : List Sourced) → All (FromIts cs rows hour) sourced
    → list_any (λ line. p line.tags) (lines_of sourced) ≡ false → lines_of_row r sourced ≡ []
none_of_row cs rows hour r row p there holds sourced each none =
    own_none (is_of_row r) sourced
    (λ k d l.
    let s : Sourced = get_or sourced k d in
    two_ways (is_of_row r s.0)
    (λ own.
    let line : get_or (lines_of sourced) k d.1 ≡ s.1 = get_or-map (λ (x : Sourced). x.1) sourced k d d.1 l in
    let passes : p (get_or (lines_of sourced) k d.1).tags ≡ true = ap (λ (x : LineValue). p x.tags) line ∙ ap p (own_tags cs rows hour r row there s.0 s.1 (each k d l) own) ∙ holds in
    let found : list_any (λ line. p line.tags) (lines_of sourced) ≡ true = list_any_at (λ line. p line.tags) (lines_of sourced) k d.1 (rw (length-map sourced (λ (x : Sourced). x.1)) l) passes in
    let clash : true ≡ false = sym found ∙ none in absurd (cc))
    (λ other. other))

-- a row that is accounted for has a line
some_line : (hour : ℕ) (row : Charge) (own : List LineValue) → IsAccounted hour row own → own ≡ [] → ⊥
unfolding quantity_of_all
some_line hour row own account none = two_ways (is_eligible row)
    (λ eligible.
    let whole : row.quantity ≡ Some (quantity_of_all own) = MatchBool-at_true (row.quantity ≡ Some (quantity_of_all own)) (own ≡ given_line hour row ∷ []) eligible account in
    let zero : row.quantity ≡ Some (pos 0) = whole ∙ ap (λ l. Some (quantity_of_all l)) none in
    let clash : false ≡ true = ap is_positive (sym zero) ∙ (measured_of row eligible).quantity in absurd (cc))
    (λ never.
    let one : own ≡ given_line hour row ∷ [] = MatchBool-at_false (row.quantity ≡ Some (quantity_of_all own)) (own ≡ given_line hour row ∷ []) never account in
    let clash : [] ≡ given_line hour row ∷ [] = sym none ∙ one in absurd (cc))

pub row_tagged : (cs : List CommitmentValue) (rows : List Charge) (hour : ℕ) (lines : List LineValue) (r : ℕ) (row : Charge) (p : List TagText → Bool) → AreHourLines cs rows hour lines → slice_get rows r ≡ Some row → p row.tags ≡ true
    → list_any (λ line. p line.tags) lines ≡ true
row_tagged cs rows hour lines r row p are there holds =
    let account = hour_accounted cs rows hour lines are in
    two_ways (list_any (λ line. p line.tags) lines)
    (λ found. found)
    (λ none.
    let missing : list_any (λ line. p line.tags) (lines_of account.sourced) ≡ false = ap (list_any (λ line. p line.tags)) (sym account.lines_are) ∙ none in
    absurd (some_line hour row (lines_of_row r account.sourced) (account.rows_are r row there) (none_of_row cs rows hour r row p there holds account.sourced account.each missing)))
