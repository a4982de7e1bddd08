use Rattle.std.proofs.Common.{◌<◌, [], Ok, List, length, get_or, subst, sym, arith}
use Rattle.fw_row_table.specs.Names.{Text}
use Rattle.fw_rows.specs.Parts.{TagsAnswer}
use Rattle.fw_column_rows.proofs.KnownFacts.{one_noted}
use Rattle.fw_column_rows.proofs.known.KnownTexts.note.Goals as goal

pub invariant_of-self : goal.invariant_of-self
invariant_of-self c =
    let IsWithin : List Text → Type 0 = λ texts. c.args.code < length texts in
    let IsStated : List Text → Type 0 = λ texts. TagsAnswer (get_or texts c.args.code []) (Ok c.args.tags) in
    let there : c.args.code < length c.self.inside.tags.items = omega (arith, c.if-place-len.true, c.len.ensures) in
    one_noted c.self.inside.texts c.self.inside.tags.items c.args.code c.args.tags c.self.invariant (subst IsWithin (sym c.self.view_is) c.requires.within) there (subst IsStated (sym c.self.view_is) c.requires.stated)

pub invariant_of-self-then-place-len-2 : goal.invariant_of-self-then-place-len-2
invariant_of-self-then-place-len-2 c =
    let IsWithin : List Text → Type 0 = λ texts. c.args.code < length texts in
    let IsStated : List Text → Type 0 = λ texts. TagsAnswer (get_or texts c.args.code []) (Ok c.args.tags) in
    let there : c.args.code < length c.self.inside.tags.items = omega (arith, c.if-place-len.true, c.len.ensures) in
    one_noted c.self.inside.texts c.self.inside.tags.items c.args.code c.args.tags c.self.invariant (subst IsWithin (sym c.self.view_is) c.requires.within) there (subst IsStated (sym c.self.view_is) c.requires.stated)
