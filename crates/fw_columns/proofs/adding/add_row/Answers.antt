use Rattle.std.proofs.Common.{◌≡◌, ◌∙◌, ◌≤◌, ◌+◌, ◌*◌, length, ap, sym, arith}
use Rattle.fw_row_table.specs.Lending.{tags_lent}
use Rattle.fw_row_table.specs.Lists.{tag_places}
use Rattle.fw_row_table.specs.Names.{place_of, with_text}
use Rattle.fw_row_table.specs.Table.{rows_of}
use Rattle.fw_row_table.specs.Texts.{with_texts, texts_of_tags}
use Rattle.fw_columns.proofs.AddFacts.{pushed_columns}
use Rattle.fw_columns.proofs.adding.add_row.Goals as goal

pub returns : goal.returns
returns c =
    let t = c.args.table.now in
    let u = c.push_values.new.table in
    let more = c.in_ok-push_values.ensures in
    let tags = tags_lent c.args.tags in
    let seen = c.see_texts.new.names in
    let named = c.see_tags.new.names in
    let list = c.as_slice.result.now in
    let names_are : u.names ≡ with_texts seen (texts_of_tags tags) = more.names ∙ c.in_ok-see_tags.ensures.seen in
    let list_is : list ≡ tag_places u.names tags = c.as_slice.ensures.value ∙ (c.in_ok-see_tags.ensures.list ∙ (λ j. tag_places (sym more.names j) tags)) in
    let lists_are : u.lists ≡ with_text t.lists list = more.lists ∙ c.in_ok-place.ensures.lists in
    let place_is : c.in_ok-place.place ≡ place_of u.lists list = c.in_ok-place.ensures.place ∙ (λ j. place_of (sym more.lists j) list) in
    let own : length seen ≤ length t.names + 4 = c.in_ok-codes.ensures.few in
    let grew : length named ≤ length seen + 2 * length tags = c.in_ok-see_tags.ensures.few in
    let few : length tags ≤ 256 = c.requires.valid.tags.few in
    let names_same : length u.names ≡ length named = ap length more.names in
    let lists_same : length u.lists ≡ length c.code.new.self = ap length more.lists in
    pushed_columns t u (rows_of t) c.requires.columns c.args.row.now tags c.in_ok-codes.codes seen list c.in_ok-place.place
    c.in_ok-codes.ensures.seen c.in_ok-codes.ensures.codes names_are list_is lists_are place_is c.requires.valid c.requires.few
    (omega (arith, own, grew, few, names_same))
    (omega (arith, lists_same, c.in_ok-place.ensures.few))
    named c.code.new.self more
