use Rattle.std.proofs.Common.{◌≡◌, ◌∙◌, ◌<◌, ◌≤◌, ◌++◌, [], ◌∷◌, List, length, sym, ap, subst, arith}
use Rattle.fw_row_table.specs.Names.{Text, place_of, with_text}
use Rattle.fw_column_rows.specs.Filling.{AreTagsOf}
use Rattle.fw_column_rows.proofs.FillFacts.{code_known, code_new, one_text_more, text_at_code}
use Rattle.fw_column_rows.proofs.filling.Filling.text_code.Goals as goal

pub returns-in_ok-push-clause-tags : goal.returns-in_ok-push-clause-tags
returns-in_ok-push-clause-tags c =
    let names = c.args.self.now.known in
    let places = c.args.self.now.places.items in
    let text = c.args.text.now in
    let code = c.in_ok-code.code in
    let is : code ≡ place_of (with_text names text) text = c.in_ok-code.ensures.place ∙ ap (λ ns. place_of ns text) c.in_ok-code.ensures.texts in
    let le : length names ≤ code = omega (arith, c.len.ensures, c.if-code-len.true, c.requires.tags.one_each) in
    let texts : c.code_near.new.self ≡ names ++ text ∷ [] = c.in_ok-code.ensures.texts ∙ (code_new names text code is le).0 in
    rw (texts, c.in_ok-push.ensures.items) (one_text_more names places c.args.self.now.columns text c.requires.tags)

pub returns-in_ok-push-clause-text : goal.returns-in_ok-push-clause-text
returns-in_ok-push-clause-text c = text_at_code c.code_near.new.self c.args.text.now c.in_ok-code.code c.in_ok-code.ensures.place c.in_ok-code.ensures.within

pub returns-else-code-len-clause-tags : goal.returns-else-code-len-clause-tags
returns-else-code-len-clause-tags c =
    let names = c.args.self.now.known in
    let text = c.args.text.now in
    let code = c.in_ok-code.code in
    let is : code ≡ place_of (with_text names text) text = c.in_ok-code.ensures.place ∙ ap (λ ns. place_of ns text) c.in_ok-code.ensures.texts in
    let lt : code < length names = omega (arith, c.len.ensures, c.if-code-len.false, c.requires.tags.one_each) in
    let texts : c.code_near.new.self ≡ names = c.in_ok-code.ensures.texts ∙ (code_known names text code is lt).0 in
    let OfTexts : List Text → Type 0 = λ ts. AreTagsOf ts c.args.self.now.places.items c.args.self.now.columns in
    subst OfTexts (sym texts) c.requires.tags

pub returns-else-code-len-clause-text : goal.returns-else-code-len-clause-text
returns-else-code-len-clause-text c = text_at_code c.code_near.new.self c.args.text.now c.in_ok-code.code c.in_ok-code.ensures.place c.in_ok-code.ensures.within
