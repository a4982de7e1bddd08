use Rattle.std.proofs.Common.{refl, sym, ◌∙◌, inl}
use Rattle.std.specs.Prelude.{None, Some}
use Rattle.fw_rules.specs.Table.{FirstBroken, NoneBroken}
use Rattle.fw_rows.specs.Rules.{StatusReads, status_rules}
use Rattle.fw_rows.proofs.DiscountFacts.{status_alone, status_unread, status_missing}
use Rattle.fw_rows.proofs.WordFacts.{test-yes, test-no}
use Rattle.fw_rows.proofs.cells.Cells.status.Goals as goal

pub returns-then-is_null-2 : goal.returns-then-is_null-2
unfolding NoneBroken status_rules StatusReads
returns-then-is_null-2 c =
    let id = test-yes _ _ c.is_null.ensures c.if-is_null.true in
    let status = test-yes _ _ c.is_null-then-is_null.ensures c.if-is_null-2.true in
    ((λ bad. bad (None, (status, λ some. absurd (some id))), tt), (status, λ some. absurd (some id)))

pub returns-else-is_null-2 : goal.returns-else-is_null-2
unfolding FirstBroken status_rules
returns-else-is_null-2 c =
    let id = test-yes _ _ c.is_null.ensures c.if-is_null.true in
    let status = test-no _ _ c.is_null-then-is_null.ensures c.if-is_null-2.false in
    inl ((λ h. status_alone _ _ _ id status h.0 h.1), refl)

pub returns-then-is_usage : goal.returns-then-is_usage
unfolding FirstBroken status_rules
returns-then-is_usage c =
    let id = test-no _ _ c.is_null.ensures c.if-is_null.false in
    let status = test-yes _ _ c.is_null-2.ensures c.if-is_null-3.true in
    let usage = test-yes _ _ c.is_usage.ensures c.if-is_usage.true in
    inl ((λ h. status_missing _ _ _ id status usage h.0 h.1), refl)

pub returns-else-is_usage : goal.returns-else-is_usage
unfolding NoneBroken status_rules StatusReads
returns-else-is_usage c =
    let status = test-yes _ _ c.is_null-2.ensures c.if-is_null-3.true in
    let usage = test-no _ _ c.is_usage.ensures c.if-is_usage.false in
    ((λ bad. bad (None, (status, λ _. usage)), tt), (status, λ _. usage))

pub returns-in-Some : goal.returns-in-Some
unfolding NoneBroken status_rules StatusReads
returns-in-Some c =
    let id = test-no _ _ c.is_null.ensures c.if-is_null.false in
    let status = sym c.text.ensures ∙ c.in-Some.ensures in
    ((λ bad. bad (Some c.in-Some.status, (id, status)), tt), (id, status))

pub returns-in-None : goal.returns-in-None
unfolding FirstBroken status_rules
returns-in-None c =
    let status = test-no _ _ c.is_null-2.ensures c.if-is_null-3.false in
    inl ((λ h. status_unread _ _ _ status (λ s is. c.in-None.ensures s (c.text.ensures ∙ is)) h.0 h.1), refl)
