use Rattle.std.proofs.Common.{◌≡◌, ◌∙◌, [], true, get_or, sym, ap, rules}
use Rattle.std.proofs.lemmas.Option.{slice_get_within, get_or_from_slice_get}
use Rattle.std.specs.Cmp.Lexicographic.{bytes_decides}
use Rattle.fw_row_table.specs.Names.{place_of}
use Rattle.fw_row_table.proofs.NameFacts.{place_at}
use Rattle.fw_row_table.proofs.names.Names.is_at.Goals as goal

pub returns-clause-place : goal.returns-clause-place
returns-clause-place c = λ yes_.
    let names = c.args.self.now in
    let i = c.args.code in
    let on : c.eq.result ≡ true = search rules in
    let same : c.text.result.now ≡ c.args.text.now = (bytes_decides c.text.result.now c.args.text.now).0 (sym c.eq.ensures ∙ on) in
    let there : get_or names i [] ≡ c.args.text.now = get_or_from_slice_get names i _ [] c.text.ensures ∙ same in
    let here : place_of names c.args.text.now ≡ i = ap (place_of names) (sym there) ∙ place_at names i [] c.len.ensures.each_once (slice_get_within names i _ c.text.ensures) in
    sym here
