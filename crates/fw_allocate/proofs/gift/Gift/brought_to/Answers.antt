use Rattle.std.proofs.Common.{rules, ◌≤◌, ◌^◌, unsigned_abs, All, sym, subst}
use Rattle.std.proofs.lemmas.Int.{to_z-of_z}
use Rattle.std.specs.Int.{w128}
use Rattle.fw_allocate.specs.GiftView.{texts}
use Rattle.fw_allocate.proofs.Amounts.{amount_small}
use Rattle.fw_allocate.proofs.gift.Gift.brought_to.Goals as goal

pub returns-clause-small : goal.returns-clause-small
returns-clause-small c =
    let shares = subst (λ s. All (λ x. unsigned_abs x ≤ 10 ^ 19) s) (sym c.deref-2.ensures.value) c.self.invariant.shares in
    rw (to_z-of_z w128 c.amount_of.result (search rules), c.amount_of.ensures) (amount_small (texts c.deref.result.now) c.deref-2.result.now c.args.group.now (10 ^ 19) shares)
