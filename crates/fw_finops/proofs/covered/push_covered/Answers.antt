use Rattle.std.proofs.Common.{◌≡◌, ◌∙◌, ◌+◌, ◌<◌, ◌++◌, ◌∷◌, [], Bor, Some, ap, arith, get_or, length, map, refl, sym, take}
use Rattle.std.specs.Prelude.{slice_get}
use Rattle.std.proofs.lemmas.Grind.{get_or_default_zero}
use Rattle.std.proofs.lemmas.List.{get_or-map, length-map, take_more}
use Rattle.std.proofs.lemmas.Option.{slice_get_read}
use Rattle.fw_charge.specs.Charge.{Charge}
use Rattle.fw_cover.specs.Hour.{left_of}
use Rattle.fw_finops.proofs.CoveredFacts.{left_at_first, left_more, left_within, line_more}
use Rattle.fw_finops.proofs.covered.push_covered.Goals as goal

pub loop-take-init : goal.loop-take-init
loop-take-init c = record { lines = refl; left = rw c.in_ok-left.ensures (left_at_first (map (λ r. r.now) c.args.rows.now)) }

pub covered_line-requires-clause-before : goal.covered_line-requires-clause-before
covered_line-requires-clause-before c =
    let at = c.loop-take.take-index in
    let t = get_or c.args.taken.now at _ in
    let within = c.requires at _ c.loop-take-test.true in
    let many = length-map c.args.rows.now (λ (r : Bor Charge). r.now) in
    let inside : t.row < length c.loop-take.left.items = omega (arith, within.row, c.loop-take.invariant.left.many, many) in
    let before : c.index-before.result.now ≡ left_of (map (λ r. r.now) c.args.rows.now) (take at c.args.taken.now) t.row =
    c.index-before.ensures ∙ get_or_default_zero _ _ _ inside ∙ c.loop-take.invariant.left.each t.row in
    let row : c.index-rows-take.result.now ≡ get_or (map (λ r. r.now) c.args.rows.now) t.row c.index-rows-take.result.now =
    ap (λ r. r.now) c.index-rows-take.is ∙ sym (get_or-map (λ r. r.now) c.args.rows.now t.row c.index-rows-take.result c.index-rows-take.result.now within.row) in
    let most = left_within (map (λ r. r.now) c.args.rows.now) (take at c.args.taken.now) t.row c.index-rows-take.result.now (omega (arith, within.row, many)) row in
    omega (arith, before, most)

pub loop-take-preserved : goal.loop-take-preserved
loop-take-preserved c =
    let at = c.loop-take.take-index in
    let t = get_or c.args.taken.now at _ in
    let rows = map (λ (r : Bor Charge). r.now) c.args.rows.now in
    let within = c.requires at _ c.loop-take-test.true in
    let many = length-map c.args.rows.now (λ (r : Bor Charge). r.now) in
    let inside : t.row < length c.loop-take.left.items = omega (arith, within.row, c.loop-take.invariant.left.many, many) in
    let there : t.row < length rows = omega (arith, within.row, many) in
    let before : c.index-before.result.now ≡ get_or c.loop-take.left.items t.row 0 = c.index-before.ensures ∙ get_or_default_zero _ _ _ inside in
    let row : c.index-rows-take.result.now ≡ get_or rows t.row c.index-rows-take.result.now =
    ap (λ r. r.now) c.index-rows-take.is ∙ sym (get_or-map (λ r. r.now) c.args.rows.now t.row c.index-rows-take.result c.index-rows-take.result.now within.row) in
    let of_commitment : slice_get c.args.commitments.now t.commitment ≡ Some c.index-commitments-take.result =
    slice_get_read c.args.commitments.now (length c.args.commitments.now) t.commitment c.index-commitments-take.result refl within.commitment c.index-commitments-take.is in
    let of_row : slice_get rows t.row ≡ Some c.index-rows-take.result.now = slice_get_read rows (length rows) t.row c.index-rows-take.result.now refl there row in
    let more : take (at + 1) c.args.taken.now ≡ take at c.args.taken.now ++ t ∷ [] = take_more c.args.taken.now at _ c.loop-take-test.true in
    record {
      lines = line_more c.args.commitments.now rows c.args.hour c.args.taken.now at _ c.index-commitments-take.result c.index-rows-take.result.now c.index-before.result.now
          c.loop-take.lines.items _ _ c.loop-take-test.true of_commitment of_row (before ∙ c.loop-take.invariant.left.each t.row) c.loop-take.invariant.lines
          (c.in_ok-push.ensures.items ∙ ap (λ line. c.loop-take.lines.items ++ line ∷ []) c.covered_line.ensures);
      left = rw (more, c.saturating_sub.ensures) (left_more rows (take at c.args.taken.now) t c.loop-take.left.items c.index-before.result.now there before c.loop-take.invariant.left);
    }
