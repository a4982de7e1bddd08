use Rattle.std.proofs.Common.{◌≡◌, ◌∙◌, ℕ, List, Ok, Err, sym, refl, inl, inr, ap, subst, map, string_bytes}
use Rattle.std.specs.Prelude.{Any, IsUtf8}
use Rattle.std.proofs.lemmas.Result.{err_from_is_err_and}
use Rattle.csv.specs.Records.{fields_of}
use Rattle.fw_charge.specs.Tags.{IsTags}
use Rattle.fw_rules.specs.Table.{FirstBroken}
use Rattle.fw_rows.specs.Keepers.{KeeperValue}
use Rattle.fw_rows.specs.Keeping.{AreFirsts, HasKept, IsFound, KeptAs, texts_at}
use Rattle.fw_rows.specs.Parts.{texts_of}
use Rattle.fw_rows.specs.Rules.{form_rules}
use Rattle.fw_rows.specs.Sinks.{row_tags, with_text}
use Rattle.fw_rows.specs.declared.fault.RecordFault.TheVariants as fault
use Rattle.fw_rows.specs.declared.fault.Refusal.TheVariants as refusal
use Rattle.fw_rows.specs.declared.kept_tags.KeptTags.TheVariants as the_tags
use Rattle.fw_tags.specs.Reading.{AreSized}
use Rattle.fw_rows.proofs.FirstFacts.{last_has, row_more}
use Rattle.fw_rows.proofs.KeepingFacts.{form_judged, refused_judged, unstated_judged, given_judged, named_has, tags_found, named_stay, added_tags, refused_found, none_of}
use Rattle.fw_rows.proofs.ObjectFacts.{stated_by}
use Rattle.fw_rows.proofs.PlaceFacts.{texts_utf8}
use Rattle.fw_rows.proofs.keeping.add_record.Goals as goal

pub returns-then-len-places-clause-row : goal.returns-then-len-places-clause-row
unfolding FirstBroken form_rules
returns-then-len-places-clause-row g c = λ header are keep.
    let rows = g.S.RowSink.rows c.args.sink.now in
    form_judged c.args.currency c.args.keeper.now.keeps header (fields_of c.args.fields.now) rows rows _
    (inl ((λ same. c.if-len-places.true (c.len.ensures ∙ (same ∙ sym are.fields))), refl))

pub returns-in_default-clause-row : goal.returns-in_default-clause-row
unfolding FirstBroken form_rules
returns-in_default-clause-row g c = λ header are keep.
    let rows = g.S.RowSink.rows c.args.sink.now in
    let as_long = sym c.len.ensures ∙ (c.if-len-places.false ∙ are.fields) in
    form_judged c.args.currency c.args.keeper.now.keeps header (fields_of c.args.fields.now) rows rows _
    (inr ((λ other. other as_long), inl (c.in_default.ensures header are, refl)))

-- ---- a row like one before

pub add_given-requires-clause-given : goal.add_given-requires-clause-given
add_given-requires-clause-given g c =
    let rows = g.S.RowSink.rows c.args.sink.now in
    let fields = fields_of c.args.fields.now in
    let texts : List ℕ × List (List ℕ) = (c.text-tags.result.now, texts_at fields c.args.kept.now.places.items) in
    let is = subst (λ ps. IsFound c.find-found.new.self.texts (c.text-tags.result.now, texts_at fields ps) c.find-found.result) c.as_slice.ensures.value c.find-found.ensures.found in
    let has = named_has c.args.keeper.now c.find-found.new.self c.args.kept.now.firsts.items c.as_slice-2.result.now rows texts c.find-found.result c.in-Some-first_row.first
    c.find-found.ensures.same c.as_slice-2.ensures.value is c.in-Some-first_row.ensures c.requires.firsts in
    (has.within, has.valid)

pub returns-in-Some-first_row-clause-row : goal.returns-in-Some-first_row-clause-row
returns-in-Some-first_row-clause-row g c = λ header are keep.
    let rows = g.S.RowSink.rows c.args.sink.now in
    let fields = fields_of c.args.fields.now in
    let texts : List ℕ × List (List ℕ) = (c.text-tags.result.now, texts_at fields c.args.kept.now.places.items) in
    let is = subst (λ ps. IsFound c.find-found.new.self.texts (c.text-tags.result.now, texts_at fields ps) c.find-found.result) c.as_slice.ensures.value c.find-found.ensures.found in
    let has = named_has c.args.keeper.now c.find-found.new.self c.args.kept.now.firsts.items c.as_slice-2.result.now rows texts c.find-found.result c.in-Some-first_row.first
    c.find-found.ensures.same c.as_slice-2.ensures.value is c.in-Some-first_row.ensures c.requires.firsts in
    let as_long = sym c.len.ensures ∙ (c.if-len-places.false ∙ are.fields) in
    let text = stated_by (row_tags rows c.in-Some-first_row.first) has.valid.rising in
    given_judged c.args.currency c.args.keeper.now.keeps header fields c.in-Some.cells c.args.kept.now.places.items rows (g.S.RowSink.rows c.add_given.new.self) c.add_given.result
    as_long (c.in-Some.ensures header are) keep c.text-tags.result.now (row_tags rows c.in-Some-first_row.first) c.text-tags.ensures has.tags text.0 text.1 (c.add_given.ensures.row text.0 text.1)

pub returns-in-Some-first_row-clause-firsts : goal.returns-in-Some-first_row-clause-firsts
returns-in-Some-first_row-clause-firsts g c =
    let rows = g.S.RowSink.rows c.args.sink.now in
    let fields = fields_of c.args.fields.now in
    let texts : List ℕ × List (List ℕ) = (c.text-tags.result.now, texts_at fields c.args.kept.now.places.items) in
    let is = subst (λ ps. IsFound c.find-found.new.self.texts (c.text-tags.result.now, texts_at fields ps) c.find-found.result) c.as_slice.ensures.value c.find-found.ensures.found in
    let has = named_has c.args.keeper.now c.find-found.new.self c.args.kept.now.firsts.items c.as_slice-2.result.now rows texts c.find-found.result c.in-Some-first_row.first
    c.find-found.ensures.same c.as_slice-2.ensures.value is c.in-Some-first_row.ensures c.requires.firsts in
    let text = stated_by (row_tags rows c.in-Some-first_row.first) has.valid.rising in
    named_stay c.args.currency (with_text (texts_of c.in-Some.cells) text.0) c.args.keeper.now c.find-found.new.self c.args.kept.now.firsts.items rows (g.S.RowSink.rows c.add_given.new.self) c.add_given.result
    c.find-found.ensures.same (c.add_given.ensures.row text.0 text.1) c.requires.firsts

-- ---- a record that is refused

pub returns-in_default-2-clause-row : goal.returns-in_default-2-clause-row
returns-in_default-2-clause-row g c = λ header are keep.
    let rows = g.S.RowSink.rows c.args.sink.now in
    let as_long = sym c.len.ensures ∙ (c.if-len-places.false ∙ are.fields) in
    let fields = fields_of c.args.fields.now in
    let bad = none_of _ c.in_ok-values.field-0 c.in_default-2.not-Some c.in_ok-values.ensures in
    let here = subst (λ ps. Any (λ text. ¬ IsUtf8 text) (texts_at fields ps)) c.as_slice-3.ensures.value bad in
    refused_judged c.args.currency c.args.keeper.now.keeps header fields c.in-Some.cells c.args.kept.now.places.items rows rows (refusal.Broken fault.NotUtf8)
    as_long (c.in-Some.ensures header are) keep (inl (refl, here))

pub tags_with-requires : goal.tags_with-requires
tags_with-requires g c = texts_utf8 c.as_slice-4.result.now

pub returns-in_err-tags_with-clause-row : goal.returns-in_err-tags_with-clause-row
returns-in_err-tags_with-clause-row g c = λ header are keep.
    let rows = g.S.RowSink.rows c.args.sink.now in
    let as_long = sym c.len.ensures ∙ (c.if-len-places.false ∙ are.fields) in
    let keeper = c.args.keeper.now in
    let tags = c.text-tags.result.now in
    let fields = fields_of c.args.fields.now in
    let places = c.args.kept.now.places.items in
    let values = c.in-Some-2.values.items in
    let read = rw c.in-Some-2.is at c.in_ok-values.ensures in
    let is_texts : map string_bytes values ≡ texts_at fields places = read.0 ∙ ap (texts_at fields) c.as_slice-3.ensures.value in
    let why = c.in_err-tags_with.field-0.0 in
    let refuses = refused_found keeper c.find-found.new.self tags c.as_slice-4.result.now values (texts_at fields places) why c.find-found.ensures.same c.as_slice-4.ensures.value is_texts c.in_err-tags_with.ensures.refused in
    let p = err_from_is_err_and c.from_residual-in_err-tags_with.result c.from_residual-in_err-tags_with.ensures.1 in
    rw (p.1, p.2) (refused_judged c.args.currency keeper.keeps header fields c.in-Some.cells places rows rows why
    as_long (c.in-Some.ensures header are) keep (rw c.text-tags.ensures at refuses))

-- ---- a record whose text of tags states none

pub returns-in-Unstated-clause-row : goal.returns-in-Unstated-clause-row
returns-in-Unstated-clause-row g c = λ header are keep.
    let rows = g.S.RowSink.rows c.args.sink.now in
    let as_long = sym c.len.ensures ∙ (c.if-len-places.false ∙ are.fields) in
    let keeper = c.args.keeper.now in
    let tags = c.text-tags.result.now in
    let fields = fields_of c.args.fields.now in
    let places = c.args.kept.now.places.items in
    let values = c.in-Some-2.values.items in
    let read = rw c.in-Some-2.is at c.in_ok-values.ensures in
    let is_texts : map string_bytes values ≡ texts_at fields places = read.0 ∙ ap (texts_at fields) c.as_slice-3.ensures.value in
    let found = tags_found keeper c.find-found.new.self tags c.as_slice-4.result.now values (texts_at fields places) c.in_ok-tags_with.field-0 the_tags.Unstated c.find-found.ensures.same c.as_slice-4.ensures.value is_texts
    c.in-Unstated.is c.in_ok-tags_with.ensures.found in
    unstated_judged c.args.currency keeper.keeps header fields c.in-Some.cells places rows (g.S.RowSink.rows c.add.new.self) c.add.result
    as_long (c.in-Some.ensures header are) keep tags c.text-tags.ensures found c.add.ensures.row

pub returns-in-Unstated-clause-firsts : goal.returns-in-Unstated-clause-firsts
returns-in-Unstated-clause-firsts g c =
    named_stay c.args.currency (texts_of c.in-Some.cells) c.args.keeper.now c.tags_with.new.self c.args.kept.now.firsts.items (g.S.RowSink.rows c.args.sink.now) (g.S.RowSink.rows c.add.new.self) c.add.result
    (c.tags_with.ensures.same ∙ c.find-found.ensures.same) c.add.ensures.row c.requires.firsts

-- ---- one with tags past the limits

pub returns-in-TooLong-clause-row : goal.returns-in-TooLong-clause-row
returns-in-TooLong-clause-row g c = λ header are keep.
    let rows = g.S.RowSink.rows c.args.sink.now in
    let as_long = sym c.len.ensures ∙ (c.if-len-places.false ∙ are.fields) in
    let keeper = c.args.keeper.now in
    let tags = c.text-tags.result.now in
    let fields = fields_of c.args.fields.now in
    let places = c.args.kept.now.places.items in
    let values = c.in-Some-2.values.items in
    let read = rw c.in-Some-2.is at c.in_ok-values.ensures in
    let is_texts : map string_bytes values ≡ texts_at fields places = read.0 ∙ ap (texts_at fields) c.as_slice-3.ensures.value in
    let found = tags_found keeper c.find-found.new.self tags c.as_slice-4.result.now values (texts_at fields places) c.in_ok-tags_with.field-0 the_tags.TooLong c.find-found.ensures.same c.as_slice-4.ensures.value is_texts
    c.in-TooLong.is c.in_ok-tags_with.ensures.found in
    let text = stated_by found.0 found.3 in
    given_judged c.args.currency keeper.keeps header fields c.in-Some.cells places rows (g.S.RowSink.rows c.add_given-in-TooLong.new.self) c.add_given-in-TooLong.result
    as_long (c.in-Some.ensures header are) keep tags found.0 c.text-tags.ensures found.1 text.0 text.1 (c.add_given-in-TooLong.ensures.row text.0 (found.0, text.1, found.2))

pub returns-in-TooLong-clause-firsts : goal.returns-in-TooLong-clause-firsts
returns-in-TooLong-clause-firsts g c =
    let rows = g.S.RowSink.rows c.args.sink.now in
    let keeper = c.args.keeper.now in
    let tags = c.text-tags.result.now in
    let fields = fields_of c.args.fields.now in
    let places = c.args.kept.now.places.items in
    let values = c.in-Some-2.values.items in
    let read = rw c.in-Some-2.is at c.in_ok-values.ensures in
    let is_texts : map string_bytes values ≡ texts_at fields places = read.0 ∙ ap (texts_at fields) c.as_slice-3.ensures.value in
    let found = tags_found keeper c.find-found.new.self tags c.as_slice-4.result.now values (texts_at fields places) c.in_ok-tags_with.field-0 the_tags.TooLong c.find-found.ensures.same c.as_slice-4.ensures.value is_texts
    c.in-TooLong.is c.in_ok-tags_with.ensures.found in
    let text = stated_by found.0 found.3 in
    named_stay c.args.currency (with_text (texts_of c.in-Some.cells) text.0) keeper c.tags_with.new.self c.args.kept.now.firsts.items rows (g.S.RowSink.rows c.add_given-in-TooLong.new.self) c.add_given-in-TooLong.result
    (c.tags_with.ensures.same ∙ c.find-found.ensures.same) (c.add_given-in-TooLong.ensures.row text.0 (found.0, text.1, found.2)) c.requires.firsts

-- ---- one with tags that no row before it has

pub returns-in_err-add_given-in-These-clause-row : goal.returns-in_err-add_given-in-These-clause-row
returns-in_err-add_given-in-These-clause-row g c = λ header are keep.
    let rows = g.S.RowSink.rows c.args.sink.now in
    let as_long = sym c.len.ensures ∙ (c.if-len-places.false ∙ are.fields) in
    let keeper = c.args.keeper.now in
    let tags = c.text-tags.result.now in
    let fields = fields_of c.args.fields.now in
    let places = c.args.kept.now.places.items in
    let values = c.in-Some-2.values.items in
    let read = rw c.in-Some-2.is at c.in_ok-values.ensures in
    let is_texts : map string_bytes values ≡ texts_at fields places = read.0 ∙ ap (texts_at fields) c.as_slice-3.ensures.value in
    let found = tags_found keeper c.find-found.new.self tags c.as_slice-4.result.now values (texts_at fields places) c.in_ok-tags_with.field-0 (the_tags.These c.in-These.given) c.find-found.ensures.same c.as_slice-4.ensures.value is_texts
    c.in-These.is c.in_ok-tags_with.ensures.found in
    let text = stated_by c.in-These.given found.1.rising in
    let sized : AreSized c.in-These.given = record { few = found.1.few; sized = found.1.sized } in
    let p = err_from_is_err_and c.from_residual-in_err-add_given-in-These.result c.from_residual-in_err-add_given-in-These.ensures.1 in
    rw (p.1, p.2) (given_judged c.args.currency keeper.keeps header fields c.in-Some.cells places rows (g.S.RowSink.rows c.add_given-in-These.new.self) (Err c.in_err-add_given-in-These.field-0.0)
    as_long (c.in-Some.ensures header are) keep tags c.in-These.given c.text-tags.ensures found.0 text.0 text.1 (c.in_err-add_given-in-These.ensures.row text.0 (text.1, sized)))

pub returns-in_ok-note_first-in-These-clause-row : goal.returns-in_ok-note_first-in-These-clause-row
returns-in_ok-note_first-in-These-clause-row g c = λ header are keep.
    let rows = g.S.RowSink.rows c.args.sink.now in
    let as_long = sym c.len.ensures ∙ (c.if-len-places.false ∙ are.fields) in
    let keeper = c.args.keeper.now in
    let tags = c.text-tags.result.now in
    let fields = fields_of c.args.fields.now in
    let places = c.args.kept.now.places.items in
    let values = c.in-Some-2.values.items in
    let read = rw c.in-Some-2.is at c.in_ok-values.ensures in
    let is_texts : map string_bytes values ≡ texts_at fields places = read.0 ∙ ap (texts_at fields) c.as_slice-3.ensures.value in
    let found = tags_found keeper c.find-found.new.self tags c.as_slice-4.result.now values (texts_at fields places) c.in_ok-tags_with.field-0 (the_tags.These c.in-These.given) c.find-found.ensures.same c.as_slice-4.ensures.value is_texts
    c.in-These.is c.in_ok-tags_with.ensures.found in
    let text = stated_by c.in-These.given found.1.rising in
    let sized : AreSized c.in-These.given = record { few = found.1.few; sized = found.1.sized } in
    given_judged c.args.currency keeper.keeps header fields c.in-Some.cells places rows (g.S.RowSink.rows c.add_given-in-These.new.self) (Ok tt)
    as_long (c.in-Some.ensures header are) keep tags c.in-These.given c.text-tags.ensures found.0 text.0 text.1 (c.in_ok-add_given-in-These.ensures.row text.0 (text.1, sized))

pub returns-in_ok-note_first-in-These-clause-firsts : goal.returns-in_ok-note_first-in-These-clause-firsts
returns-in_ok-note_first-in-These-clause-firsts g c =
    let rows = g.S.RowSink.rows c.args.sink.now in
    let keeper = c.args.keeper.now in
    let tags = c.text-tags.result.now in
    let fields = fields_of c.args.fields.now in
    let places = c.args.kept.now.places.items in
    let values = c.in-Some-2.values.items in
    let read = rw c.in-Some-2.is at c.in_ok-values.ensures in
    let is_texts : map string_bytes values ≡ texts_at fields places = read.0 ∙ ap (texts_at fields) c.as_slice-3.ensures.value in
    let found = tags_found keeper c.find-found.new.self tags c.as_slice-4.result.now values (texts_at fields places) c.in_ok-tags_with.field-0 (the_tags.These c.in-These.given) c.find-found.ensures.same c.as_slice-4.ensures.value is_texts
    c.in-These.is c.in_ok-tags_with.ensures.found in
    let text = stated_by c.in-These.given found.1.rising in
    let sized : AreSized c.in-These.given = record { few = found.1.few; sized = found.1.sized } in
    let new = g.S.RowSink.rows c.add_given-in-These.new.self in
    let at = with_text (texts_of c.in-Some.cells) text.0 in
    let judged = c.in_ok-add_given-in-These.ensures.row text.0 (text.1, sized) in
    let added = added_tags at c.in-These.given rows new text.1 judged.1 in
    let same = c.tags_with.ensures.same ∙ c.find-found.ensures.same in
    let firsts = c.args.kept.now.firsts.items in
    let has = last_has keeper.keeps (tags, texts_at fields places) rows new added.0 added.2
    (subst (λ ts. KeptAs keeper.keeps tags (texts_at fields places) ts) (sym added.1) found.0) (subst IsTags (sym added.1) found.1) in
    let here = subst (λ n. HasKept keeper.keeps (tags, texts_at fields places) n new) (sym c.requires.row) has in
    let of_values = subst (λ ts. HasKept keeper.keeps (tags, ts) c.args.row new) (sym is_texts) here in
    let named = row_more keeper.keeps keeper.texts firsts rows new added.0 added.2 c.requires.firsts in
    let noted = c.in_ok-note_first-in-These.ensures.firsts new (subst (λ (k : KeeperValue). AreFirsts k.keeps k.texts firsts new) (sym same) named)
    (subst (λ (k : KeeperValue). HasKept k.keeps (tags, map string_bytes values) c.args.row new) (sym same) of_values) in
    subst (λ (k : KeeperValue). AreFirsts k.keeps c.note_first.new.keeper.texts c.note_first.new.firsts.items new) same noted
