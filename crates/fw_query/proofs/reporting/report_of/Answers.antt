use Rattle.std.proofs.Common.{◌≡◌, ◌∙◌, ◌≤◌, IfSome, true, false, ap, sym}
use Rattle.std.specs.Option.{option_copied}
use Rattle.std.specs.Str.{bytes_eq}
use Rattle.fw_sums.specs.Costs.{costs_of}
use Rattle.fw_query.specs.Entries.{AreEntries, AreUnder, PassesAtPlace, direct_size}
use Rattle.fw_query.specs.Limits.{most_total}
use Rattle.fw_query.proofs.ReportFacts.{IsReportOf-plain, IsReportOf-under, PassesIn-from_entries, plain_entries, rising_directs}
use Rattle.fw_query.proofs.reporting.report_of.Goals as goal
use Rattle.fw_query.proofs.reporting.report_of.Goals.{in_default-policy-via-in-Some-policy+else-eq, in_default-policy-via-in_default-policy}

pub returns-in-Some-clause-fault : goal.returns-in-Some-clause-fault
returns-in-Some-clause-fault c =
    let has = c.requires.totals in
    let are : AreEntries (costs_of c.args.query.now.key.now has.lines) c.in_ok-entries.entries.items = rw c.in_ok-entries.ensures (plain_entries _ _ has.are_totals) in
    let passes : PassesAtPlace c.in_ok-entries.entries.items c.in-Some.place = rw c.as_slice.ensures.value at c.in-Some.ensures in
    (c.requires.range, rw c.into_group.ensures (record { lines = has.lines; are_lines = has.are_lines; passes = PassesIn-from_entries _ _ _ _ are passes c.swap_remove.ensures.value }))

pub returns-in_default-policy-clause-report : goal.returns-in_default-policy-clause-report
returns-in_default-policy-clause-report c =
    let has = c.requires.totals in
    let are : AreEntries (costs_of c.args.query.now.key.now has.lines) c.in_ok-entries.entries.items = rw c.in_ok-entries.ensures (plain_entries _ _ has.are_totals) in
    let within : direct_size c.in_ok-entries.entries.items ≤ most_total = rw c.as_slice.ensures.value at c.in_default.ensures in
    let other : IfSome (option_copied c.policy.result) (λ p. bytes_eq p.key c.args.query.now.key.now ≡ false) =
    elim c.in_default-policy.branch [
      | in_default-policy-via-in-Some-policy+else-eq w ↦ rw w.in-Some-policy.is (ap (λ k. bytes_eq k c.args.query.now.key.now) (sym w.key.ensures.value) ∙ sym w.eq.ensures ∙ w.if-eq.false)
      | in_default-policy-via-in_default-policy w ↦ rw w.in_default-policy.is tt
    ] in
    rw (c.of_entries-in_default-policy.ensures, ← c.policy.ensures) (record { lines = has.lines; are_lines = has.are_lines; is_report = IsReportOf-plain _ _ has.lines _ are within other })

pub under_policy-requires-clause-rising : goal.under_policy-requires-clause-rising
under_policy-requires-clause-rising c =
    let has = c.requires.totals in
    let are : AreEntries (costs_of c.args.query.now.key.now has.lines) c.in_ok-entries.entries.items = rw c.in_ok-entries.ensures (plain_entries _ _ has.are_totals) in
    rw c.as_slice-in-Some-policy.ensures.value (rising_directs _ _ are)

pub returns-in_ok-under_policy-in-Some-policy-clause-report : goal.returns-in_ok-under_policy-in-Some-policy-clause-report
returns-in_ok-under_policy-in-Some-policy-clause-report c =
    let has = c.requires.totals in
    let are : AreEntries (costs_of c.args.query.now.key.now has.lines) c.in_ok-entries.entries.items = rw c.in_ok-entries.ensures (plain_entries _ _ has.are_totals) in
    let within : direct_size c.in_ok-entries.entries.items ≤ most_total = rw c.as_slice.ensures.value at c.in_default.ensures in
    let same : bytes_eq c.in-Some-policy.policy.now.key c.args.query.now.key.now ≡ true =
    ap (λ k. bytes_eq k c.args.query.now.key.now) (sym c.key.ensures.value) ∙ sym c.eq.ensures ∙ c.if-eq.true in
    let under : AreUnder c.in_ok-entries.entries.items c.in-Some-policy.policy.now.rules c.in_ok-under_policy-in-Some-policy.field-0.items =
    rw c.as_slice-in-Some-policy.ensures.value at c.in_ok-under_policy-in-Some-policy.ensures in
    rw (c.of_entries.ensures, ← c.policy.ensures, c.in-Some-policy.is) (record { lines = has.lines; are_lines = has.are_lines; is_report = IsReportOf-under _ _ has.lines _ _ are within same under })
