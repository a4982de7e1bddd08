use Rattle.std.proofs.Common.{◌≡◌, ◌∙◌, ℕ, false, [], get_or, sym, arith}
use borrow.Author.Count.{below_more}
use Rattle.std.specs.Cmp.Lexicographic.{pointwise}
use Rattle.std.proofs.lemmas.Option.{get_or_from_slice_get}
use Rattle.fw_row_table.proofs.PackedFacts.{first_passes, none_passes}
use Rattle.fw_row_table.proofs.packed.Packed.position.Goals as goal

pub returns-then-eq : goal.returns-then-eq
returns-then-eq g c =
    first_passes (pointwise g.T.PartialEq.eq c.args.list.now) c.args.self.now c.loop-place.place [] c.loop-place.invariant c.list.result.now c.list.ensures
    (sym c.eq.ensures ∙ c.if-eq.true)

pub loop-place-preserved : goal.loop-place-preserved
loop-place-preserved g c =
    let fails = pointwise g.T.PartialEq.eq c.args.list.now in
    let lists = c.args.self.now in
    let place = c.loop-place.place in
    let P : ℕ → Type 0 = λ k. fails (get_or lists k []) ≡ false in
    let same : get_or lists place [] ≡ c.list.result.now = get_or_from_slice_get lists place c.list.result.now [] c.list.ensures in
    let differs : fails c.list.result.now ≡ false = rw (← c.eq.ensures) c.if-eq.false in
    below_more P place c.loop-place.invariant (rw same differs)

pub returns : goal.returns
returns g c =
    none_passes (pointwise g.T.PartialEq.eq c.args.list.now) c.args.self.now c.loop-place.place [] c.loop-place.invariant
    (omega (arith, c.loop-place-test.false, c.len-place-end.ensures))
