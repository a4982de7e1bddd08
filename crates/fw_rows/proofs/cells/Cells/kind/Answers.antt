use Rattle.std.proofs.Common.{refl, sym, ◌∙◌, inl}
use Rattle.fw_rules.specs.Table.{FirstBroken, NoneBroken}
use Rattle.fw_rows.specs.Rules.{KindReads, kind_rules}
use Rattle.fw_rows.proofs.DiscountFacts.{kind_alone, kind_unread}
use Rattle.fw_rows.proofs.WordFacts.{test-yes, test-no}
use Rattle.fw_rows.proofs.cells.Cells.kind.Goals as goal
use Rattle.std.specs.Prelude.{None, Some}

pub returns-then-is_null-2 : goal.returns-then-is_null-2
unfolding NoneBroken kind_rules KindReads
returns-then-is_null-2 c =
    let id = test-yes _ _ c.is_null.ensures c.if-is_null.true in
    let kind = test-yes _ _ c.is_null-then-is_null.ensures c.if-is_null-2.true in
    ((λ bad. bad (None, (id, kind)), tt), (id, kind))

pub returns-else-is_null-2 : goal.returns-else-is_null-2
unfolding FirstBroken kind_rules
returns-else-is_null-2 c =
    let id = test-yes _ _ c.is_null.ensures c.if-is_null.true in
    let kind = test-no _ _ c.is_null-then-is_null.ensures c.if-is_null-2.false in
    inl ((λ h. kind_alone _ _ id kind h.0 h.1), refl)

pub returns-in-Some : goal.returns-in-Some
unfolding NoneBroken kind_rules KindReads
returns-in-Some c =
    let id = test-no _ _ c.is_null.ensures c.if-is_null.false in
    let kind = sym c.text.ensures ∙ c.in-Some.ensures in
    ((λ bad. bad (Some c.in-Some.kind, (id, kind)), tt), (id, kind))

pub returns-in-None : goal.returns-in-None
unfolding FirstBroken kind_rules
returns-in-None c =
    let id = test-no _ _ c.is_null.ensures c.if-is_null.false in
    inl ((λ h. kind_unread _ _ id (λ k is. c.in-None.ensures k (c.text.ensures ∙ is)) h.0 h.1), refl)
