use Rattle.std.proofs.Common.{◌≡◌, ◌∙◌, ◌+◌, ◌-◌, ◌&&◌, ℕ, Bool, List, arith, if◌then◌else◌, nat_le, take, ap}
use Rattle.std.specs.Prelude.{slice_range}
use Rattle.std.proofs.lemmas.Bool.Decides.{nat_tests}
use Rattle.std.proofs.lemmas.List.{take_all}
use Rattle.fw_charge.specs.Charge.{Charge}
use Rattle.fw_persistent.specs.Counts.{count_of}
use Rattle.fw_snapshot.specs.Judging.{carries}
use Rattle.fw_snapshot.proofs.parts.carried_with_rows.Goals as goal

-- no count is above itself
once : (n : ℕ) (b : Bool) → n + (if b && nat_le n n then 1 else 0) ≡ n + (if b then 1 else 0)
once n b = grind (arith, nat_tests)

pub returns : goal.returns
returns c = λ id.
    let rows = c.args.rows.now in
    let start = count_of id c.args.carried.now in
    let whole : c.len.result - 0 ≡ c.len.result = omega arith in
    let all : slice_range rows 0 c.len.result ≡ rows = ap (λ n. take n rows) whole ∙ take_all c.len.result rows (omega (arith, c.len.ensures.count)) in
    c.in_ok-after.ensures id ∙ once start (carries id (slice_range rows 0 c.len.result)) ∙ ap (λ (rs : List Charge). start + (if carries id rs then 1 else 0)) all
