use Rattle.std.proofs.Common.{◌≡◌, ◌∙◌, ◌*◌, ◌≤◌, ◌<◌, ℕ, List, arith, get_or, length, map, refl, rules, subst}
use Rattle.std.specs.Prelude.{Result}
use Rattle.std.specs.List.{AllZip, range_with_len}
use Rattle.std.specs.declared.alloc.AllocError.{AllocError}
use Rattle.std.proofs.lemmas.Grind.{div_ceil_times}
use Rattle.std.proofs.lemmas.Result.{IfOk-weaker}
use Rattle.fw_sums.specs.Costs.{Cost}
use Rattle.fw_sums.specs.Parts.{PartCounts, in_turn}
use Rattle.fw_sums.specs.Sums.{Counts}
use Rattle.fw_sums.specs.declared.groups.Groups.{Groups}
use Rattle.fw_sums.proofs.PieceFacts.{all_pieces, collected, piece_of, segment_costs, segments_behind}
use Rattle.fw_sums.proofs.groups.Groups.of_segments.Goals as goal

pub of_parts-requires : goal.of_parts-requires
of_parts-requires g c =
    let costs : ℕ → List Cost = λ w. segment_costs c.args.key.now c.args.marks.now c.args.from (piece_of c.div_ceil-size.result c.args.segments.now w) in
    let each : (k : ℕ) (p : Result Groups AllocError) → k < c.max-workers.result → PartCounts (costs k) (get_or c.in_ok-parts.parts.items k p) = λ k p l. let h = (c.in_ok-parts.ensures.each k p l).1 in search rules in
    (_, collected costs c.max-workers.result c.in_ok-parts.parts.items c.as_slice.result.now c.as_slice.ensures.value (c.as_slice.ensures.len ∙ c.in_ok-parts.ensures.len) each)

pub returns : goal.returns
returns g c =
    let segments = c.args.segments.now in
    let size = c.div_ceil-size.result in
    let workers = c.max-workers.result in
    let costs : ℕ → List Cost = λ w. segment_costs c.args.key.now c.args.marks.now c.args.from (piece_of size segments w) in
    let each : (k : ℕ) (p : Result Groups AllocError) → k < workers → PartCounts (costs k) (get_or c.in_ok-parts.parts.items k p) = λ k p l. let h = (c.in_ok-parts.ensures.each k p l).1 in search rules in
    let parts = collected costs workers c.in_ok-parts.parts.items c.as_slice.result.now c.as_slice.ensures.value (c.as_slice.ensures.len ∙ c.in_ok-parts.ensures.len) each in
    let enough : length segments ≤ size * workers = rw c.div_ceil-size.ensures (div_ceil_times (length segments) workers (let some = c.max-workers.ensures in omega (arith, some))).0 in
    let whole : in_turn (map costs (range_with_len 0 workers)) ≡ segment_costs c.args.key.now c.args.marks.now c.args.from segments =
    all_pieces (segment_costs c.args.key.now c.args.marks.now c.args.from) refl (segments_behind c.args.key.now c.args.marks.now c.args.from) size segments workers enough in
    IfOk-weaker c.of_parts.result (λ groups. (pieces : List (List Cost)) → AllZip PartCounts pieces c.as_slice.result.now → Counts groups (in_turn pieces)) (λ groups. Counts groups (segment_costs c.args.key.now c.args.marks.now c.args.from segments))
    (λ groups counts. subst (Counts groups) whole (counts _ parts))
    c.of_parts.ensures
