use Rattle.std.proofs.Common.{arith, sym, ◌∙◌, length}
use Rattle.std.proofs.lemmas.Bool.{eqb-true, eqb-false}
use Rattle.fw_policy.proofs.FieldFacts.{no_key, long_key, key_is}
use Rattle.fw_policy.proofs.reading.key_of.Goals as goal
use Rattle.fw_policy.proofs.reading.key_of.Goals.{then-is_empty-via-then-is_empty, then-is_empty-via-else-is_empty+then-key-gt-LONGEST_TEXT}

pub returns-in_default : goal.returns-in_default
returns-in_default c = no_key _ c.in_default.ensures

pub returns-then-is_empty : goal.returns-then-is_empty
returns-then-is_empty c = long_key _ c.in-Some.key.now c.in-Some.ensures (λ h. elim c.then-is_empty.branch [
  | then-is_empty-via-then-is_empty w ↦ let none = eqb-true (length c.in-Some.key.now) 0 (sym c.is_empty.ensures ∙ w.if-is_empty.true) in absurd (omega arith)
  | then-is_empty-via-else-is_empty+then-key-gt-LONGEST_TEXT w ↦ absurd (omega arith)
])

pub returns : goal.returns
returns c =
    let some = eqb-false (length c.in-Some.key.now) 0 (sym c.is_empty.ensures ∙ c.if-is_empty.false) in
    key_is _ c.in-Some.key.now c.in-Some.ensures (omega (arith, some)) (omega arith)
