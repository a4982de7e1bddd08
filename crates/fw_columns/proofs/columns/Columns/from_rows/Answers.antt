use Rattle.std.proofs.Common.{◌≡◌, ◌∙◌, ◌++◌, [], ◌∷◌, length, take, ap, sym, arith}
use Rattle.std.proofs.lemmas.List.{take_all, take_more, length-take-le}
use Rattle.fw_columns.proofs.columns.Columns.from_rows.Goals as goal

pub push_row-requires : goal.push_row-requires
push_row-requires c =
    let i = c.loop-row.row-index in
    let same : length c.loop-row.builder ≡ length (take i c.args.rows.now) = ap length c.loop-row.invariant in
    let size : length (take i c.args.rows.now) ≡ i = length-take-le i c.args.rows.now (omega (arith, c.loop-row-test.true)) in
    omega (arith, same, size, c.loop-row-test.true, c.requires.few)

pub loop-row-preserved : goal.loop-row-preserved
loop-row-preserved c =
    c.in_ok-push_row.ensures.added
    ∙ ((λ j. c.loop-row.invariant j ++ c.row-item.is j ∷ []) ∙ sym (take_more c.args.rows.now c.loop-row.row-index c.row-item.result c.loop-row-test.true))

pub finish-requires : goal.finish-requires
finish-requires c =
    let all : c.loop-row.builder ≡ c.args.rows.now = c.loop-row.invariant ∙ take_all c.loop-row.row-index c.args.rows.now c.loop-row-test.false in
    let size : length c.loop-row.builder ≡ length c.args.rows.now = ap length all in
    omega (arith, size, c.requires.some)

pub returns : goal.returns
returns c = c.in_ok-columns.ensures ∙ (c.loop-row.invariant ∙ take_all c.loop-row.row-index c.args.rows.now c.loop-row-test.false)
