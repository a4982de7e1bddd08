use Rattle.std.proofs.Common.{◌≤◌, take, map}
use Rattle.std.specs.List.{All, AllZip}
use Rattle.fw_charge.specs.Charge.{last_second}
use Rattle.fw_toml.specs.Tree.{stated}
use Rattle.fw_commitment.specs.Fields.{IsPayment}
use Rattle.fw_commitment.proofs.purchases.payments.Given as goal

abbrev pub invariant-loop-table : goal.invariant-loop-table
invariant-loop-table l = record { paid : AllZip IsPayment (map (λ t. stated t.now) (take l.table-index l.tables)) l.payments.items; dated : All (λ p. p.0 ≤ last_second) l.payments.items }
