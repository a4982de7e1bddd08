use Rattle.std.proofs.Common.{◌≡◌, ◌∙◌, ◌+◌, ◌++◌, ◌∷◌, [], Bool, ℕ, ap, arith, false, get_or, length, map, sym}
use Rattle.std.proofs.lemmas.List.FromFn.{map-range_with_len_more}
use Rattle.std.specs.List.{range_with_len}
use Rattle.fw_sums.specs.ReportCache.{is_open}
use Rattle.fw_sums.proofs.cache.HourSums.open_hours.Goals as goal

pub loop-place-preserved : goal.loop-place-preserved
loop-place-preserved c =
    let mark : ℕ → Bool = λ k. is_open c.args.self.now (get_or c.args.touched.now k false) (c.args.from + k) in
    let i = c.loop-place.place in
    c.in_ok-push.ensures.items
    ∙ ap (λ l. l ++ c.is_open.result ∷ []) c.loop-place.invariant
    ∙ ap (λ b. map mark (range_with_len 0 i) ++ b ∷ []) c.is_open.ensures
    ∙ sym (map-range_with_len_more mark 0 i i (omega arith))

pub returns : goal.returns
returns c =
    let mark : ℕ → Bool = λ k. is_open c.args.self.now (get_or c.args.touched.now k false) (c.args.from + k) in
    let end : c.loop-place.place ≡ length c.args.touched.now = omega arith in
    c.loop-place.invariant ∙ ap (λ n. map mark (range_with_len 0 n)) end
