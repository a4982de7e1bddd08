-- A withdrawal changes nothing in hours in which the post has no row.
use Rattle.std.proofs.Common.{◌≡◌, ◌∙◌, ◌+◌, ◌-◌, ◌≤◌, ◌<◌, ◌==◌, ◌&&◌, ◌||◌, ℕ, zero, suc, Bool, true, false, cond, nat_le, nat_lt, List, [], ◌∷◌, ◌++◌, Some, slice_get, refl, sym, ap, subst, arith}
use Rattle.std.specs.Prelude.{◌↔◌, All}
use Rattle.std.specs.List.{AllZip, list_any, range_with_len}
use Rattle.std.proofs.lemmas.Bool.Decides.{nat_tests}
use Rattle.std.proofs.lemmas.List.Elements.{All-get_or}
use Rattle.std.proofs.lemmas.Option.{get_or_from_slice_get, slice_get_within}
use Rattle.fw_charge.specs.Charge.{Charge, hour_of}
use Rattle.fw_terms.specs.Commitment.{CommitmentValue}
use Rattle.fw_terms.specs.Policy.{PolicyValue}
use Rattle.fw_cover.specs.Eligible.{is_of_hour}
use Rattle.fw_amortise.specs.LineValue.{LineValue}
use Rattle.fw_amortise.specs.Lines.{AreHourLines, AreLines, rows_in}
use Rattle.fw_entry.specs.Entry as entry
use Rattle.fw_entry.specs.Entry.CommandValue.{withdraw}
use Rattle.fw_snapshot.specs.Adding.{commitments_after}
use Rattle.fw_snapshot.specs.History.{commitments_of, policy_after, policy_of, posted, rows_of}
use Rattle.fw_snapshot.specs.Judging.{IsLegal, judged}
use Rattle.fw_snapshot.specs.declared.verdict.Verdict.TheVariants as verdict
use Rattle.fw_snapshot.proofs.AddingFacts.{commitments_of_more}
use Rattle.fw_snapshot.proofs.EntryFacts.{policy_of_more}
use Rattle.fw_snapshot.proofs.WithdrawnFacts.{rows_elsewhere_if}
use Rattle.fw_sums.specs.RangeLines.{AreRangeLines}
use Rattle.fw_query.specs.Accounted.{rows_between}
use Rattle.fw_query.specs.Elsewhere.{HasNoRowBetween}
use Rattle.fw_query.specs.OfHistory.{AreLinesOf, IsReportOn}
use Rattle.fw_query.specs.Reports.{EntryValue, IsReportOf}

-- ---- a post that has no row in a range has none in an hour of it
first_out : (keep : Bool) (row : Charge) (kept : List Charge) → cond keep (row ∷ kept) kept ≡ [] → (keep ≡ false) × (kept ≡ [])
first_out true row kept none = absurd (cc)
first_out false row kept none = (refl, none)

not_here : (from to hour h : ℕ) → from ≤ hour → hour < to → (nat_le from h && nat_lt h to) ≡ false → (h == hour) ≡ false
not_here from to hour h low high out = grind (arith, nat_tests)

none_of_hour : (from to hour : ℕ) (rows : List Charge) → from ≤ hour → hour < to → rows_between from to rows ≡ [] → list_any (is_of_hour hour) rows ≡ false
unfolding is_of_hour
none_of_hour from to hour [] low high none = refl
none_of_hour from to hour (row ∷ rows) low high none =
    let parts = first_out (nat_le from (hour_of row.start) && nat_lt (hour_of row.start) to) row (rows_between from to rows) none in
    ap (λ b. b || list_any (is_of_hour hour) rows) (not_here from to hour (hour_of row.start) low high parts.0)
    ∙ none_of_hour from to hour rows low high parts.1

-- ---- the rows of each hour of the range are the same
holds_at : (P : entry.EntryValue → Type 0) (history : List entry.EntryValue) (place : ℕ) (e : entry.EntryValue) → All P history → slice_get history place ≡ Some e → P e
holds_at P history place e each there =
    subst P (get_or_from_slice_get history place e e there) (All-get_or P history place e (slice_get_within history place e there) each)

same_rows : (history : List entry.EntryValue) (e : entry.EntryValue) (seq from to : ℕ) → e.command ≡ withdraw seq → HasNoRowBetween from to e.origin seq history
    → (hour : ℕ) → from ≤ hour → hour < to → rows_in hour (rows_of (history ++ e ∷ [])) ≡ rows_in hour (rows_of history)
unfolding rows_in
same_rows history e seq from to command none hour low high =
    rows_elsewhere_if history e seq command (is_of_hour hour)
    (λ place x there origin number.
    let apart = holds_at (λ y. y.origin ≡ e.origin → y.seq ≡ seq → rows_between from to (posted y.command) ≡ []) history place x none there in
    none_of_hour from to hour (posted x.command) low high (apart origin number))

-- ---- so are the lines
hourly_same : (cs : List CommitmentValue) (rows others : List Charge) (n from : ℕ) (hourly : List (List LineValue)) → ((hour : ℕ) → from ≤ hour → hour < from + n → rows_in hour rows ≡ rows_in hour others)
    → AllZip (AreLines cs rows) (range_with_len from n) hourly → AllZip (AreLines cs others) (range_with_len from n) hourly
unfolding AreLines
hourly_same cs rows others zero from [] same are = tt
hourly_same cs rows others zero from (lines ∷ hourly) same are = absurd are
hourly_same cs rows others (suc n) from [] same are = absurd are
hourly_same cs rows others (suc n) from (lines ∷ hourly) same are = (
  subst (λ (r : List Charge). AreHourLines cs r from lines) (same from (omega arith) (omega arith)) are.0,
  hourly_same cs rows others n (from + 1) hourly (λ hour low high. same hour (omega arith) (omega arith)) are.1,
)

range_same : (cs : List CommitmentValue) (rows others : List Charge) (from to : ℕ) (lines : List LineValue) → ((hour : ℕ) → from ≤ hour → hour < to → rows_in hour rows ≡ rows_in hour others)
    → AreRangeLines cs rows from to lines → AreRangeLines cs others from to lines
range_same cs rows others from to lines same are = record {
  hourly = are.hourly;
  are_hourly = hourly_same cs rows others (to - from) from are.hourly (λ hour low high. same hour low (omega arith)) are.are_hourly;
  lines_are = are.lines_are;
}

same_commitments : (history : List entry.EntryValue) (e : entry.EntryValue) (seq : ℕ) → IsLegal history → judged history e ≡ verdict.Accept → e.command ≡ withdraw seq
    → commitments_of (history ++ e ∷ []) ≡ commitments_of history
same_commitments history e seq legal accepted command = commitments_of_more history e legal accepted ∙ ap (commitments_after (commitments_of history)) command

pub lines_stay : (history : List entry.EntryValue) (e : entry.EntryValue) (seq from to : ℕ) (lines : List LineValue) → IsLegal history → judged history e ≡ verdict.Accept → e.command ≡ withdraw seq
    → HasNoRowBetween from to e.origin seq history → (AreLinesOf history from to lines ↔ AreLinesOf (history ++ e ∷ []) from to lines)
lines_stay history e seq from to lines legal accepted command none =
    let all = history ++ e ∷ [] in
    let held = commitments_of history in
    let one = same_commitments history e seq legal accepted command in
    let same = same_rows history e seq from to command none in (
      λ before. subst (λ (cs : List CommitmentValue). AreRangeLines cs (rows_of all) from to lines) (sym one)
          (range_same held (rows_of history) (rows_of all) from to lines (λ hour low high. sym (same hour low high)) before),
      λ after. range_same held (rows_of all) (rows_of history) from to lines same
          (subst (λ (cs : List CommitmentValue). AreRangeLines cs (rows_of all) from to lines) one after),
    )

-- ---- and the reports
same_policy : (history : List entry.EntryValue) (e : entry.EntryValue) (seq : ℕ) → e.command ≡ withdraw seq → policy_of (history ++ e ∷ []) ≡ policy_of history
same_policy history e seq command = policy_of_more history e ∙ ap (policy_after (policy_of history)) command

pub reports_stay : (history : List entry.EntryValue) (e : entry.EntryValue) (seq : ℕ) (key : List ℕ) (from to : ℕ) (report : List EntryValue) → IsLegal history → judged history e ≡ verdict.Accept
    → e.command ≡ withdraw seq → HasNoRowBetween from to e.origin seq history → (IsReportOn history key from to report ↔ IsReportOn (history ++ e ∷ []) key from to report)
reports_stay history e seq key from to report legal accepted command none =
    let policy = same_policy history e seq command in (
      λ before. record {
        lines = before.lines;
        are_lines = (lines_stay history e seq from to before.lines legal accepted command none).0 before.are_lines;
        is_report = subst (λ held. IsReportOf held key before.lines report) (sym policy) before.is_report;
      },
      λ after. record {
        lines = after.lines;
        are_lines = (lines_stay history e seq from to after.lines legal accepted command none).1 after.are_lines;
        is_report = subst (λ held. IsReportOf held key after.lines report) policy after.is_report;
      },
    )
