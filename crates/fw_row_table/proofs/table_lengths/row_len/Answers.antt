use Rattle.std.proofs.Common.{◌≡◌, ◌∙◌, ℕ, Bool, false, get_or, if◌then◌else◌, length, ap, arith, sym}
use Rattle.std.specs.List.{flat_map}
use Rattle.std.proofs.lemmas.List.{get_or_read}
use Rattle.fw_bytes.specs.Spelling.{optional, text}
use Rattle.fw_charge.specs.Spelling.{tag}
use Rattle.fw_row_table.specs.Table.{list_at, tags_of, text_of}
use Rattle.fw_row_table.proofs.LengthFacts.{length_at, list_length, text_length}
use Rattle.fw_row_table.proofs.table_lengths.row_len.Goals as goal
use Rattle.fw_row_table.proofs.table_lengths.row_len.Goals.{then-index, else-index}

pub returns-clause-value : goal.returns-clause-value
returns-clause-value c =
    let t = c.args.table.now in
    let i = c.args.place in
    let texts = c.args.texts.now in
    let lists = c.args.lists.now in
    let flag : c.index.result.now ≡ get_or t.has_quantity.items i false = get_or_read t.has_quantity.items i _ c.requires.row.has_quantity c.index.ensures false in
    let quantity : c.if-index.quantity ≡ (if get_or t.has_quantity.items i false then 9 else 1) = elim c.if-index.branch [
      | then-index w ↦ w.quantity-is ∙ ap (λ (b : Bool). if b then 9 else 1) (sym w.if-index.true ∙ flag)
      | else-index w ↦ w.quantity-is ∙ ap (λ (b : Bool). if b then 9 else 1) (sym w.if-index.false ∙ flag)
    ] in
    let id : get_or texts c.index-2.result.now 0 ≡ length (optional text (text_of t.names (get_or t.discounts.items i 0))) =
    ap (λ (code : ℕ). get_or texts code 0) (get_or_read t.discounts.items i _ c.requires.row.discounts c.index-2.ensures 0) ∙ text_length t.names texts _ 0 c.requires.texts c.requires.row.discount in
    let unit : get_or texts c.index-3.result.now 0 ≡ length (optional text (text_of t.names (get_or t.units.items i 0))) =
    ap (λ (code : ℕ). get_or texts code 0) (get_or_read t.units.items i _ c.requires.row.units c.index-3.ensures 0) ∙ text_length t.names texts _ 0 c.requires.texts c.requires.row.unit in
    let sku : get_or texts c.index-4.result.now 0 ≡ length (optional text (text_of t.names (get_or t.skus.items i 0))) =
    ap (λ (code : ℕ). get_or texts code 0) (get_or_read t.skus.items i _ c.requires.row.skus c.index-4.ensures 0) ∙ text_length t.names texts _ 0 c.requires.texts c.requires.row.sku in
    let sub_account : get_or texts c.index-5.result.now 0 ≡ length (optional text (text_of t.names (get_or t.sub_accounts.items i 0))) =
    ap (λ (code : ℕ). get_or texts code 0) (get_or_read t.sub_accounts.items i _ c.requires.row.sub_accounts c.index-5.ensures 0) ∙ text_length t.names texts _ 0 c.requires.texts c.requires.row.sub_account in
    let tags : get_or lists c.index-6.result.now 0 ≡ length (flat_map tag (tags_of t.names (list_at t i))) =
    ap (λ (code : ℕ). get_or lists code 0) (get_or_read t.tags.items i _ c.requires.row.tags c.index-6.ensures 0) ∙ list_length t lists i 0 c.requires.lists c.requires.row.list in
    omega (arith, length_at t i, quantity, id, unit, sku, sub_account, tags)
