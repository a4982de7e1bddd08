use Rattle.std.proofs.Common.{◌≡◌, ◌∙◌, None, get_or, sym, ap, arith}
use Rattle.fw_column_rows.proofs.KnownFacts.{found_stated}
use Rattle.fw_column_rows.proofs.known.KnownTexts.tags.Goals as goal

pub returns-in-Some : goal.returns-in-Some
returns-in-Some c =
    let known = c.self.inside.tags.items in
    let code = c.args.code in
    let at : get_or known code None ≡ c.in-Some.tags.now = ap (λ items. get_or items code None) (sym c.as_slice.ensures.value) ∙ sym (c.in-Some.ensures.lookup.4 (omega arith) None) in
    rw (← c.self.view_is) (found_stated c.self.inside.texts known code c.in-Some.tags.now c.as_ref.result c.self.invariant at c.as_ref.ensures.value)
