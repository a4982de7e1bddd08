use Rattle.std.proofs.Common.{◌≡◌, ◌∙◌, ◌+◌, ◌<◌, ◌≤◌, Some, ap, arith, drop, length, map, option_map, refl, sym, add-zero, subst}
use Rattle.std.specs.Prelude.{slice_get}
use Rattle.std.proofs.lemmas.List.{length-map}
use Rattle.std.proofs.lemmas.Option.{slice_get-map, slice_get_read}
use Rattle.fw_posted.specs.Merging.{joined_to}
use Rattle.fw_posted.proofs.MergeFacts.{joined_at_end, joined_more, joined_no_more}
use Rattle.fw_posted.proofs.merging.joined_to.Goals as goal
use Rattle.fw_row_table.specs.Table.{most_column_rows}

pub returns-then-rows-gt-MOST_ROWS-clause-joined :
    goal.returns-then-rows-gt-MOST_ROWS-clause-joined
returns-then-rows-gt-MOST_ROWS-clause-joined c =
    let all = map (λ s. s.now) c.args.segments.now in
    let there : slice_get all c.loop-count.count ≡ Some c.index-segments-count.result.now =
    slice_get-map (λ s. s.now) c.args.segments.now c.loop-count.count ∙ ap (option_map (λ s. s.now)) (slice_get_read c.args.segments.now _ c.loop-count.count c.index-segments-count.result refl c.loop-count-test.true c.index-segments-count.is) in
    let over : most_column_rows < c.loop-count.rows + length c.index-segments-count.result.now = subst (λ n. most_column_rows < c.loop-count.rows + n) c.len-rows.ensures.count c.if-rows-gt-MOST_ROWS.true in
    sym (c.loop-count.invariant.1 ∙ ap (λ n. c.loop-count.count + n) (joined_no_more c.loop-count.rows all c.loop-count.count _ there over) ∙ add-zero c.loop-count.count)

pub loop-count-preserved : goal.loop-count-preserved
loop-count-preserved c =
    let all = map (λ s. s.now) c.args.segments.now in
    let there : slice_get all c.loop-count.count ≡ Some c.index-segments-count.result.now =
    slice_get-map (λ s. s.now) c.args.segments.now c.loop-count.count ∙ ap (option_map (λ s. s.now)) (slice_get_read c.args.segments.now _ c.loop-count.count c.index-segments-count.result refl c.loop-count-test.true c.index-segments-count.is) in
    let fits : c.loop-count.rows + c.len-rows.result ≤ most_column_rows = c.if-rows-gt-MOST_ROWS.false in
    let same : joined_to (c.loop-count.rows + length c.index-segments-count.result.now) (drop (c.loop-count.count + 1) all) ≡ joined_to (c.loop-count.rows + c.len-rows.result) (drop (c.loop-count.count + 1) all) =
    ap (λ n. joined_to (c.loop-count.rows + n) (drop (c.loop-count.count + 1) all)) (sym c.len-rows.ensures.count) in (
      fits,
      c.loop-count.invariant.1
          ∙ ap (λ n. c.loop-count.count + n) (joined_more c.loop-count.rows all c.loop-count.count _ there (subst (λ n. c.loop-count.rows + n ≤ most_column_rows) c.len-rows.ensures.count fits))
          ∙ omega (arith, same),
    )

pub returns-clause-joined : goal.returns-clause-joined
returns-clause-joined c =
    let all = map (λ s. s.now) c.args.segments.now in
    let end : joined_to c.loop-count.rows (drop (length all) all) ≡ 0 = joined_at_end c.loop-count.rows all in
    let whole : length all ≡ length c.args.segments.now = length-map c.args.segments.now (λ s. s.now) in
    let count : c.loop-count.count ≡ length all = omega (arith, whole, c.loop-count-test.false, c.loop-count.auto.count-end) in
    let none : joined_to c.loop-count.rows (drop c.loop-count.count all) ≡ 0 = ap (λ i. joined_to c.loop-count.rows (drop i all)) count ∙ end in
    omega (arith, whole, count, none, c.loop-count.invariant.1)
