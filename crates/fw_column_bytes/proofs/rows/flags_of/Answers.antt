use Rattle.std.proofs.Common.{◌∙◌, ◌++◌, ◌∷◌, [], get_or, map, sym, ap}
use Rattle.std.specs.Prelude.{◌==◌}
use Rattle.std.proofs.lemmas.List.{map_more, take_all}
use Rattle.fw_column_bytes.proofs.rows.flags_of.Goals as goal

pub loop-byte-preserved : goal.loop-byte-preserved
loop-byte-preserved c =
    let column = c.args.column.now in
    let i = c.loop-byte.byte-index in
    c.in_ok-push.ensures.items ∙ ((λ j. c.loop-byte.invariant j ++ (get_or column i 0 == 1) ∷ []) ∙ sym (map_more (λ byte. byte == 1) column i 0 c.loop-byte-test.true))

pub returns : goal.returns
returns c = c.loop-byte.invariant ∙ ap (map (λ byte. byte == 1)) (take_all c.loop-byte.byte-index c.args.column.now c.loop-byte-test.false)
