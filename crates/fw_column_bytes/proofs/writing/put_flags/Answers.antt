use Rattle.std.proofs.Common.{◌∙◌, ◌++◌, ◌∷◌, [], ℕ, false, get_or, refl, ap}
use Rattle.fw_column_bytes.specs.Spelling.{flag}
use Rattle.fw_column_bytes.proofs.Written.{put_more, put_all}
use Rattle.fw_column_bytes.proofs.writing.put_flags.Goals as goal

pub loop-is_set-preserved : goal.loop-is_set-preserved
loop-is_set-preserved c =
    put_more flag c.args.out.now.items c.args.column.now c.loop-is_set.is_set-index false (get_or c.args.column.now c.loop-is_set.is_set-index false) c.loop-is_set.out.items c.put_byte.new.out.items c.loop-is_set-test.true refl c.loop-is_set.invariant
    (c.in_ok-put_byte.ensures ∙ ap (λ (b : ℕ). c.loop-is_set.out.items ++ b ∷ []) c.flag_code.ensures)

pub returns : goal.returns
returns c = put_all flag c.args.out.now.items c.args.column.now c.loop-is_set.is_set-index c.loop-is_set.out.items c.loop-is_set-test.false c.loop-is_set.invariant
