use Rattle.std.proofs.Common.{length, ap, arith}
use Rattle.fw_row_table.proofs.PackedFacts.{list_at}
use Rattle.fw_row_table.proofs.packed.Packed.list.Goals as goal

pub start_of-start-requires : goal.start_of-start-requires
start_of-start-requires g c =
    let at = list_at _ _ _ c.args.place c.self.view_is c.self.invariant c.requires in
    rw c.as_slice-ends.ensures.value (omega (arith, at.below))

pub offset_bounds-ends-place : goal.offset_bounds-ends-place
offset_bounds-ends-place g c =
    let at = list_at _ _ _ c.args.place c.self.view_is c.self.invariant c.requires in
    omega (arith, at.below, ap length c.as_slice-ends.ensures.value, c.as_slice-ends.type_inv.1)

pub bounds-ends-place : goal.bounds-ends-place
bounds-ends-place g c =
    let at = list_at _ _ _ c.args.place c.self.view_is c.self.invariant c.requires in
    rw c.as_slice-ends.ensures.value at.below

pub offset_bounds-values-start : goal.offset_bounds-values-start
offset_bounds-values-start g c =
    let at = list_at _ _ _ c.args.place c.self.view_is c.self.invariant c.requires in
    rw (c.start_of-start.ensures, c.as_slice-ends.ensures.value, c.as_slice-values.ensures.value) (omega (arith, at.rises, at.within))

pub slice_bounds-result-count : goal.slice_bounds-result-count
slice_bounds-result-count g c =
    let at = list_at _ _ _ c.args.place c.self.view_is c.self.invariant c.requires in
    rw (c.start_of-start.ensures, c.as_slice-ends.ensures.value) at.rises

pub slice_bounds-result-start : goal.slice_bounds-result-start
slice_bounds-result-start g c = slice_bounds-result-count g c

pub slice_bounds-result-end : goal.slice_bounds-result-end
slice_bounds-result-end g c =
    let at = list_at _ _ _ c.args.place c.self.view_is c.self.invariant c.requires in
    rw (c.as_slice-ends.ensures.value, c.as_slice-values.ensures.value) at.within

pub returns : goal.returns
returns g c =
    let at = list_at _ _ _ c.args.place c.self.view_is c.self.invariant c.requires in
    rw (c.start_of-start.ensures, c.as_slice-ends.ensures.value, c.as_slice-values.ensures.value) at.is
