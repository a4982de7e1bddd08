use Rattle.std.proofs.Common.{◌≡◌, ◌∙◌, false, inl, inr, sym, true}
use Rattle.fw_selections.proofs.NameFacts.{unclear_cases}
use Rattle.fw_selections.proofs.names.is_unclear.Goals as goal

pub returns-then-has_slash : goal.returns-then-has_slash
returns-then-has_slash c = inl (c.has_slash.ensures.0 c.if-has_slash.true)

pub returns-then-begins_with : goal.returns-then-begins_with
returns-then-begins_with c = inr (inl (sym c.begins_with.ensures ∙ c.if-begins_with.true))

pub returns : goal.returns
returns c =
    unclear_cases c.args.text.now _ (λ h. let k : false ≡ true = sym c.if-has_slash.false ∙ c.has_slash.ensures.1 h in absurd (cc)) (sym c.begins_with.ensures ∙ c.if-begins_with.false) c.begins_with-2.ensures
