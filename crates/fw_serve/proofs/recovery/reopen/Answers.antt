use Rattle.std.proofs.Common.{◌≤◌, ◌^◌, ℕ, arith, length, subst, sym}
use Rattle.std.proofs.lemmas.Result.{IfErr-weaker, IfOk-weaker}
use Rattle.fw_disk.specs.declared.volume.Side.{Side}
use Rattle.fw_recover.proofs.Running.{stands_else_fault}
use Rattle.fw_serve.proofs.RecoveryFacts.{left_stands, promised}
use Rattle.fw_serve.proofs.recovery.reopen.Goals as goal

pub returns-clause-promise : goal.returns-clause-promise
returns-clause-promise g c = λ held earlier last told left.
    let seen = (g.V.Volume.view c.args.volume).seen in
    let short : (side : Side) → length (seen side) ≤ 2 ^ 40 =
    λ side. subst (λ (n : ℕ). n ≤ 2 ^ 40) (sym (g.met.V.Volume.sized c.args.volume told side))
    (omega (
      arith,
      g.met.V.Volume.within c.args.volume side,
      g.met.V.Volume.bounded c.args.volume,
    )) in
    let (h, stands) = left_stands g.V.Volume.tells g.V.Volume.view held earlier last seen told left in (
      IfOk-weaker c.open.result _ _
          (λ s found. promised g.V.Volume.tells g.V.Volume.view held earlier last seen s.history told
          left (found.1 told) short) c.open.ensures.found,
      IfErr-weaker c.open.result _ _ (λ e fault. fault told)
          (stands_else_fault g.V.Volume.tells seen (λ _. h) c.open.result (λ _. stands) c.open.ensures.which c.open.ensures.none c.open.ensures.corrupt),
    )
