use Rattle.std.proofs.Common.{List, ℕ, ◌++◌, sym, ap, ◌∙◌, subst, string_bytes}
use Rattle.fw_table.specs.Shown.{AreShownLines}
use Rattle.fw_table.proofs.ShownFacts.{one_text_more}
use Rattle.fw_table.proofs.layout.push_cell.Goals as goal

pub returns : goal.returns
returns c =
    λ are.
    let before = string_bytes c.args.text.now in
    let is = c.in_ok-push_str.ensures.bytes ∙ ap (λ (bs : List ℕ). before ++ bs) c.as_str.ensures.text in
    subst (λ (bs : List ℕ). AreShownLines bs) (sym is) (one_text_more before c.args.cell.now are c.as_str.ensures.quiet)
