use Rattle.std.proofs.Common.{◌≡◌, ◌<◌, ◌+◌, ◌∷◌, [], ℕ, length, subst, sym, arith}
use Rattle.fw_row_table.specs.Table.{text_at}
use Rattle.fw_columns.specs.Parts.{HaveSeen}
use Rattle.fw_columns.proofs.PartFacts.{seen_again, seen_early, seen_new}
use Rattle.fw_columns.proofs.checking.see_place.Goals as goal

pub returns-then-place-seen-clause-some : goal.returns-then-place-seen-clause-some
returns-then-place-seen-clause-some c = seen_again c.args.names.now c.args.seen c.args.place c.requires.seen c.if-place-seen.true

pub returns-then-place-seen-2-clause-some : goal.returns-then-place-seen-2-clause-some
returns-then-place-seen-2-clause-some c =
    let same : c.args.place ≡ c.args.seen = c.if-place-seen-2.true in
    let lt : c.args.seen < length c.args.names.now = omega (arith, c.requires.place, same) in
    subst (λ (k : ℕ). HaveSeen c.args.names.now c.args.seen (c.args.seen + 1) (text_at c.args.names.now k ∷ [])) (sym same) (seen_new c.args.names.now c.args.seen c.len.ensures.each_once lt)

pub returns-else-place-seen-2-clause-none : goal.returns-else-place-seen-2-clause-none
returns-else-place-seen-2-clause-none c =
    let early : c.args.seen < c.args.place = omega (arith, c.if-place-seen.false, c.if-place-seen-2.false) in
    seen_early c.args.names.now c.args.seen c.args.place c.len.ensures.each_once early c.requires.place
