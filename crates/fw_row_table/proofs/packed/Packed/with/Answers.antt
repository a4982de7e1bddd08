use Rattle.std.proofs.Common.{◌≡◌, length, arith}
use Rattle.fw_row_table.proofs.PackedFacts.{packed_more}
use Rattle.fw_row_table.proofs.packed.Packed.with.Goals as goal

pub invariant_of-result : goal.invariant_of-result
invariant_of-result g c =
    let end : c.in-Ok.end ≡ length c.extend_from_slice.new.self.items = omega (arith, c.in-Ok.ensures, c.len.ensures) in
    (packed_more _ c.args.list.now _ _ _ _ c.in-Ok.end c.self.view_is c.self.invariant c.in_ok-extend_from_slice.ensures.items c.in_ok-push.ensures.items end).0

pub returns : goal.returns
returns g c =
    let end : c.in-Ok.end ≡ length c.extend_from_slice.new.self.items = omega (arith, c.in-Ok.ensures, c.len.ensures) in
    (packed_more _ c.args.list.now _ _ _ _ c.in-Ok.end c.self.view_is c.self.invariant c.in_ok-extend_from_slice.ensures.items c.in_ok-push.ensures.items end).1
