use Rattle.std.proofs.Common.{◌≡◌, ◌<◌, ◌∙◌, ◌+◌, ◌^◌, sym, ap, arith}
use Rattle.std.proofs.Math.Facts.{to_z_pos}
use Rattle.std.specs.Int.{w64}
use Rattle.fw_sums.proofs.MarkFacts.{every_between}
use Rattle.fw_sums.proofs.marks.every_second.Goals as goal

pub returns-clause-between : goal.returns-clause-between
returns-clause-between c s =
    let end_fits : c.in_ok-end.end < 2 ^ 63 = omega arith in
    let end_is : c.in_ok-end.end ≡ c.in_ok-first.first + c.in_ok-len.len = c.in_ok-end.ensures.1 in
    let first_fits : c.in_ok-first.first < 2 ^ 63 = omega (arith, end_fits, end_is) in
    rw (to_z_pos w64 first_fits, to_z_pos w64 end_fits)
    (every_between c.args.marks.now c.args.from c.in_ok-first.first c.in_ok-end.end s (sym c.if-not-are_all.ensures) c.in_ok-first.ensures.1
    (end_is ∙ ap (λ n. c.in_ok-first.first + n) c.in_ok-len.ensures.1))
