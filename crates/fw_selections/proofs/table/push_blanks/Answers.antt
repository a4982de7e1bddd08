use Rattle.std.proofs.Common.{◌∙◌, ◌++◌, ◌∷◌, [], add-one, ap, append_assoc, map, replicate, sym}
use Rattle.std.specs.Prelude.{string_bytes}
use Rattle.fw_selections.proofs.TableFacts.{replicate_more, text_more}
use Rattle.fw_selections.proofs.table.push_blanks.Goals as goal

pub loop-place-preserved : goal.loop-place-preserved
loop-place-preserved c =
    let i = c.loop-place._place in
    let start = map string_bytes c.args.texts.now.items in
    text_more c.loop-place.texts.items c.push.new.self.items c.new.result [] c.in_ok-push.ensures.items c.new.ensures.bytes
    ∙ ap (λ t. t ++ [] ∷ []) c.loop-place.invariant
    ∙ append_assoc start (replicate i []) ([] ∷ [])
    ∙ ap (λ t. start ++ t) (replicate_more [] i ∙ ap (λ n. replicate n []) (sym (add-one i)))
