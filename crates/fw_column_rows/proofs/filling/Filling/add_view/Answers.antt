use Rattle.std.proofs.Common.{◌≡◌, ◌∙◌, ◌++◌, [], ◌∷◌, ◌+◌, ℕ, List, length, get_or, set, sym, subst, arith}
use Rattle.std.proofs.lemmas.List.{get_or_read}
use Rattle.fw_charge.specs.Charge.{Charge}
use Rattle.fw_row_table.specs.Names.{Text}
use Rattle.fw_row_table.specs.Lending.{charge_with}
use Rattle.fw_columns.specs.Rows.{tags_at}
use Rattle.fw_rows.specs.Judged.{JudgedWithin}
use Rattle.fw_rows.specs.Parts.{texts_of}
use Rattle.fw_rows.specs.Rules.{length_rules}
use Rattle.fw_rows.specs.declared.column.Column.TheVariants as column
use Rattle.fw_column_rows.specs.Filling.{AddsView, AreTagsOf, HasTagsOf}
use Rattle.fw_column_rows.proofs.FillFacts.{judged_beside, judged_ok, tags_kept, tags_set}
use Rattle.fw_column_rows.proofs.ViewFacts.{added_judged}
use Rattle.fw_column_rows.proofs.filling.Filling.add_view.Goals as goal

pub add_like-requires-clause-within : goal.add_like-requires-clause-within
add_like-requires-clause-within c =
    let found = c.in_ok-code.ensures in
    let code = c.in_ok-code.code in
    let places = c.text_code.new.self.places.items in
    let rows = c.text_code.new.self.columns in
    let here : c.index.result.now ≡ get_or places code 0 = get_or_read places code _ found.within c.index.ensures 0 in
    let is : get_or places code 0 ≡ c.in-Some.place + 1 = omega (arith, here, c.in-Some.ensures) in
    let At : Text → Type 0 = λ t. HasTagsOf t c.in-Some.place rows in
    let has = subst At (found.text ∙ c.text.ensures) (found.tags.each code c.in-Some.place found.within is) in
    has.within

pub add_like-requires-clause-valid : goal.add_like-requires-clause-valid
add_like-requires-clause-valid c =
    let found = c.in_ok-code.ensures in
    let code = c.in_ok-code.code in
    let places = c.text_code.new.self.places.items in
    let rows = c.text_code.new.self.columns in
    let here : c.index.result.now ≡ get_or places code 0 = get_or_read places code _ found.within c.index.ensures 0 in
    let is : get_or places code 0 ≡ c.in-Some.place + 1 = omega (arith, here, c.in-Some.ensures) in
    let At : Text → Type 0 = λ t. HasTagsOf t c.in-Some.place rows in
    let has = subst At (found.text ∙ c.text.ensures) (found.tags.each code c.in-Some.place found.within is) in
    has.kept

pub returns-in-Some-clause-row : goal.returns-in-Some-clause-row
returns-in-Some-clause-row c =
    let found = c.in_ok-code.ensures in
    let code = c.in_ok-code.code in
    let places = c.text_code.new.self.places.items in
    let rows = c.text_code.new.self.columns in
    let here : c.index.result.now ≡ get_or places code 0 = get_or_read places code _ found.within c.index.ensures 0 in
    let is : get_or places code 0 ≡ c.in-Some.place + 1 = omega (arith, here, c.in-Some.ensures) in
    let At : Text → Type 0 = λ t. HasTagsOf t c.in-Some.place rows in
    let has = subst At (found.text ∙ c.text.ensures) (found.tags.each code c.in-Some.place found.within is) in
    let at = texts_of c.args.cells.now in
    let OfRows : List Charge → Type 0 = λ rs. JudgedWithin (length_rules at) (λ _. AddsView at c.args.row.now rs c.add_like.new.columns) c.add_like.result in
    subst OfRows found.rows (added_judged at c.args.row.now (tags_at rows c.in-Some.place) rows c.add_like.new.columns has.stated has.kept c.add_like.result c.add_like.ensures)

pub returns-in-Some-clause-tags : goal.returns-in-Some-clause-tags
returns-in-Some-clause-tags c =
    let found = c.in_ok-code.ensures in
    let code = c.in_ok-code.code in
    let places = c.text_code.new.self.places.items in
    let rows = c.text_code.new.self.columns in
    let here : c.index.result.now ≡ get_or places code 0 = get_or_read places code _ found.within c.index.ensures 0 in
    let is : get_or places code 0 ≡ c.in-Some.place + 1 = omega (arith, here, c.in-Some.ensures) in
    let At : Text → Type 0 = λ t. HasTagsOf t c.in-Some.place rows in
    let has = subst At (found.text ∙ c.text.ensures) (found.tags.each code c.in-Some.place found.within is) in
    let names = c.text_code.new.self.known in
    let at = texts_of c.args.cells.now in
    let OfRows : List Charge → Type 0 = λ rs. AreTagsOf names places rs in
    let judged = added_judged at c.args.row.now (tags_at rows c.in-Some.place) rows c.add_like.new.columns has.stated has.kept c.add_like.result c.add_like.ensures in
    judged_ok (length_rules at) (λ _. AddsView at c.args.row.now rows c.add_like.new.columns) c.add_like.result judged
    (λ _ added. subst OfRows (sym added.3) (tags_kept names places rows (charge_with c.args.row.now added.1) found.tags))

pub add_new-requires-clause-text : goal.add_new-requires-clause-text
add_new-requires-clause-text c = c.in_ok-code.ensures.text ∙ c.text.ensures

pub returns-in-None-clause-tags : goal.returns-in-None-clause-tags
returns-in-None-clause-tags c =
    let found = c.in_ok-code.ensures in
    let code = c.in_ok-code.code in
    let names = c.text_code.new.self.known in
    let places = c.text_code.new.self.places.items in
    let rows = c.text_code.new.self.columns in
    let at = texts_of c.args.cells.now in
    let OfRows : List Charge → Type 0 = λ rs. AreTagsOf names (set places code (length rows + 1)) rs in
    let OfPlace : ℕ → Type 0 = λ n. AreTagsOf names (set places code (n + 1)) c.add_new.new.columns in
    let Last : List Charge → Type 0 = λ rs. HasTagsOf (at column.Tags) (length rows) rs in
    judged_beside (length_rules at) (λ _. AddsView at c.args.row.now rows c.add_new.new.columns) c.add_new.result c.add_new.ensures.row c.add_new.ensures.tags
    (λ _ added has.
    let x = charge_with c.args.row.now added.1 in
    let OfText : Text → Type 0 = λ t. HasTagsOf t (length rows) (rows ++ x ∷ []) in
    let first = subst OfText (sym (found.text ∙ c.text.ensures)) (subst Last added.3 has) in
    let OfNames : List Text → Type 0 = λ ns. AreTagsOf ns (set places code (c.len.result + 1)) c.add_new.new.columns in
    subst OfNames (sym c.add_new.ensures.texts) (subst OfPlace (sym c.len.ensures.count) (subst OfRows (sym added.3) (tags_set names places rows code x found.within found.tags first))))
