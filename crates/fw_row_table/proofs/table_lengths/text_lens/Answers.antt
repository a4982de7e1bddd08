use Rattle.std.proofs.Common.{◌≡◌, ◌∙◌, ◌+◌, ◌++◌, ◌∷◌, ℕ, [], length, get_or, ap, arith, refl, subst, sym}
use Rattle.std.specs.Prelude.{All, IsUtf8}
use Rattle.std.proofs.lemmas.List.{map_more, take_all}
use Rattle.std.proofs.lemmas.List.Elements.{All-more, All-nil}
use Rattle.std.proofs.lemmas.Option.{slice_get_within, get_or_from_slice_get}
use Rattle.fw_row_table.specs.Names.{Text}
use Rattle.fw_row_table.proofs.table_lengths.text_lens.Goals as goal

pub loop-code-init : goal.loop-code-init
loop-code-init c = record { lens = c.in_ok-push.ensures.items ∙ ap (λ xs. xs ++ 1 ∷ []) c.in_ok-lens.ensures.items; text = All-nil IsUtf8 }

pub loop-code-preserved : goal.loop-code-preserved
loop-code-preserved c =
    let names = c.args.names.now in
    let i = c.loop-code.code in
    let within = slice_get_within names i _ c.text-name.ensures in
    let one : Text → ℕ = λ name. 5 + length name in
    let is : get_or names i [] ≡ c.text-name.result.now = get_or_from_slice_get names i _ [] c.text-name.ensures in
    let here : 5 + length c.text-name.result.now ≡ one (get_or names i []) = ap one (sym is) in
    record {
      lens = rw (map_more one names i [] within, c.in_ok-push-2.ensures.items, c.loop-code.invariant.lens, here) refl;
      text = All-more IsUtf8 names i [] within c.loop-code.invariant.text (subst (λ t. IsUtf8 t) (sym is) c.text-name.utf8);
    }

pub returns-clause-text : goal.returns-clause-text
returns-clause-text c =
    subst (All IsUtf8) (take_all c.loop-code.code c.args.names.now (omega (arith, c.loop-code-test.false, c.len-count.ensures.count))) c.loop-code.invariant.text
