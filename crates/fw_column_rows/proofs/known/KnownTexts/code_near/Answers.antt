use Rattle.fw_column_rows.proofs.KnownFacts.{more_texts, one_unknown}
use Rattle.fw_column_rows.proofs.known.KnownTexts.code_near.Goals as goal

pub invariant_of-self-in_err-push : goal.invariant_of-self-in_err-push
invariant_of-self-in_err-push c =
    rw (c.in_ok-code.ensures.names, c.in_err-push.ensures.items) (more_texts c.self.inside.texts c.args.text.now c.self.inside.tags.items c.self.invariant)

pub invariant_of-self-then-code-len : goal.invariant_of-self-then-code-len
invariant_of-self-then-code-len c =
    rw (c.in_ok-code.ensures.names, c.in_ok-push.ensures.items)
    (one_unknown _ _ (more_texts c.self.inside.texts c.args.text.now c.self.inside.tags.items c.self.invariant))

pub invariant_of-self-else-code-len : goal.invariant_of-self-else-code-len
invariant_of-self-else-code-len c = rw (c.in_ok-code.ensures.names) (more_texts c.self.inside.texts c.args.text.now c.self.inside.tags.items c.self.invariant)
