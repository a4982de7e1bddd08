use Rattle.std.proofs.Common.{ℕ, List, arith}
use Rattle.fw_column_bytes.specs.PartsView.{front_view}
use Rattle.fw_column_bytes.specs.Reading.{Front}
use Rattle.fw_column_bytes.proofs.PartsFormat.{front_format}
use Rattle.fw_column_bytes.proofs.RowsRead.{front_within}
use Rattle.fw_column_bytes.proofs.reading.parts_of.Goals as goal

pub body_of-requires : goal.body_of-requires
body_of-requires c =
    let f : Front × List ℕ = (front_view c.in_ok-front.front, c.in_ok-front.rest.now) in
    front_within f.0 (front_format.takes c.args.bytes.now f (λ i. omega (arith, c.type_inv.bytes i)) c.in_ok-front.ensures).1
