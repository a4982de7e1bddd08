use Rattle.std.proofs.Common.{◌+◌, ◌++◌, ◌∷◌, [], ◌≤◌, map, take, sym, subst}
use Rattle.std.specs.List.{AllZip}
use Rattle.fw_charge.specs.Charge.{last_second}
use Rattle.fw_toml.specs.Tree.{stated}
use Rattle.fw_commitment.specs.Fields.{IsPayment}
use Rattle.fw_commitment.proofs.ListFacts.{zip-more, zip-at-map, map-more, all-grown}
use Rattle.fw_commitment.proofs.purchases.payments.Goals as goal

pub returns-in_default : goal.returns-in_default
returns-in_default c = λ ps paid.
    let tables = c.args.tables.now in
    let e = c.table-item.result in
    let here = zip-at-map IsPayment (λ t. stated t.now) tables ps c.loop-table.table-index e paid c.loop-table-test.true in
    c.in_default.ensures.value here.0 (subst (λ t. IsPayment (stated t.now) here.0) (sym c.table-item.is) here.1)

pub loop-table-preserved : goal.loop-table-preserved
loop-table-preserved c =
    let tables = c.args.tables.now in
    let i = c.loop-table.table-index in
    let e = c.table-item.result in
    let more = c.in_ok-push.ensures.items in
    let here = rw c.table-item.is at c.in-Some.ensures.value in
    record {
      paid = subst (λ ps. AllZip IsPayment (map (λ t. stated t.now) (take (i + 1) tables)) ps) (sym more)
          (subst (λ ts. AllZip IsPayment ts (c.loop-table.payments.items ++ c.in-Some.payment ∷ [])) (sym (map-more (λ t. stated t.now) tables i e c.loop-table-test.true))
          (zip-more IsPayment _ _ _ _ c.loop-table.invariant.paid here));
      dated = all-grown (λ p. p.0 ≤ last_second) c.loop-table.payments.items c.push.new.self.items c.in-Some.payment more c.loop-table.invariant.dated c.in-Some.ensures.in_range;
    }
