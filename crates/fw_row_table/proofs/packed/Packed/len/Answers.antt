use Rattle.std.proofs.Common.{◌≡◌, ◌∙◌, length, sym, ap, arith}
use Rattle.fw_row_table.proofs.PackedFacts.{length-pieces}
use Rattle.fw_row_table.proofs.packed.Packed.len.Goals as goal

pub returns : goal.returns
returns g c =
    let size : length c.args.self.now ≡ length c.self.inside.ends.items =
    ap length (sym c.self.view_is) ∙ length-pieces 0 c.self.inside.values.items c.self.inside.ends.items in
    omega (arith, size, c.len.ensures)
