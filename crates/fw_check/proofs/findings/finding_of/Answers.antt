use Rattle.std.proofs.Common.{◌≡◌, ◌∙◌, ℕ, List, ap, sym, subst, true, arith, string_bytes}
use Rattle.std.proofs.lemmas.Bool.{and_from}
use Rattle.std.proofs.lemmas.List.Sums.{position_or_len_is}
use Rattle.std.specs.Str.{bytes_eq}
use Rattle.fw_check.specs.Faults.{is_of, finding_value}
use Rattle.fw_check.specs.declared.findings.Finding.{Finding}
use Rattle.fw_check.proofs.FaultFacts.{has_kind, none_passes}
use Rattle.fw_check.proofs.findings.finding_of.Goals as goal

pub returns-then-eq-2-clause-value : goal.returns-then-eq-2-clause-value
returns-then-eq-2-clause-value c =
    let test = has_kind c.args.code.now c.args.column.now in
    let found = c.index-findings-place.result in
    let column : bytes_eq (string_bytes found.column) c.args.column.now ≡ true =
    ap (λ (t : List ℕ). bytes_eq t c.args.column.now) (sym c.as_str.ensures.value) ∙ sym c.eq-then-eq.ensures ∙ c.if-eq-2.true in
    let here : test found ≡ true = and_from _ _ (sym c.eq.ensures ∙ c.if-eq.true) column in
    let P : Finding → Type 0 = λ f. test f ≡ true in
    sym (position_or_len_is test c.args.findings.now c.loop-place.place found (omega arith) (λ k lt. c.loop-place.invariant k found lt) (λ _. subst P c.index-findings-place.is here))

pub returns-clause-value : goal.returns-clause-value
returns-clause-value c =
    sym (none_passes (has_kind c.args.code.now c.args.column.now) c.args.findings.now (λ k d lt. c.loop-place.invariant k d (omega (arith, lt))))
