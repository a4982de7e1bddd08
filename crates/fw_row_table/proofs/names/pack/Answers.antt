use Rattle.std.proofs.Common.{◌∙◌, string_bytes, subst, sym, ap}
use Rattle.std.specs.Prelude.{All, IsUtf8}
use Rattle.std.proofs.lemmas.List.{append-nil}
use Rattle.std.proofs.lemmas.List.Elements.{All-push}
use Rattle.fw_row_table.proofs.NameFacts.{one_more}
use Rattle.fw_row_table.proofs.names.pack.Goals as goal

pub loop-text-init : goal.loop-text-init
loop-text-init c = record {
  lists = c.in_ok-all.ensures ∙ sym (append-nil c.args.packed.now);
  text = subst (All IsUtf8) (sym c.in_ok-all.ensures) c.requires;
}

pub loop-text-preserved : goal.loop-text-preserved
loop-text-preserved c =
    let so_far = c.loop-text.invariant in
    record {
      lists =
          one_more string_bytes c.args.packed.now c.args.texts.now c.loop-text.text-index c.text-item.result c.as_bytes.result.now _ _ c.loop-text-test.true c.text-item.is
          (c.as_bytes.ensures.value ∙ (c.as_str.ensures.value ∙ ap string_bytes c.value.ensures)) so_far.lists c.in_ok-all-2.ensures;
      text = subst (All IsUtf8) (sym c.in_ok-all-2.ensures) (All-push IsUtf8 c.loop-text.all c.as_bytes.result.now so_far.text c.as_bytes.ensures.utf8);
    }

pub returns-clause-text : goal.returns-clause-text
returns-clause-text c = subst (All IsUtf8) (sym c.shrink.ensures) c.loop-text.invariant.text
