use Rattle.std.proofs.Common.{◌≡◌, ◌∙◌, [], ap, sym, subst}
use Rattle.std.proofs.lemmas.Option.{get_or_from_slice_get}
use Rattle.std.specs.Str.{bytes_eq}
use Rattle.fw_row_table.specs.Table.{text_at}
use Rattle.fw_check.specs.Counts.{counted, text_counts}
use Rattle.fw_check.specs.Known.{key_place, AreKnown}
use Rattle.fw_check.proofs.KnownFacts.{known_stay, one_known, place_shown}
use Rattle.fw_check.proofs.statistics.count_name.Goals as goal

pub returns-in-Some-clause-places : goal.returns-in-Some-clause-places
returns-in-Some-clause-places c =
    let names = c.args.names.now in
    let known = c.args.known.now in
    let text = text_at names c.args.name in
    let counts = text_counts c.args.counts.now.entries in
    let place = c.requires.places.each c.args.name c.in-Some.place c.in-Some.is in
    subst (AreKnown names known) (sym (c.count_at.ensures text place)) (known_stay names known counts text 1 c.requires.places)

pub returns-clause-counted : goal.returns-clause-counted
unfolding text_at
returns-clause-counted c =
    let counts = text_counts c.args.counts.now.entries in
    let text : text_at c.args.names.now c.args.name ≡ c.text-key.result.now =
    get_or_from_slice_get c.args.names.now c.args.name c.text-key.result.now [] c.text-key.ensures in
    c.in_ok-count_text.ensures ∙ ap (λ t. counted bytes_eq t 1 counts) (sym text)

pub returns-clause-places : goal.returns-clause-places
unfolding text_at
returns-clause-places c =
    let names = c.args.names.now in
    let known = c.args.known.now in
    let name = c.args.name in
    let key = c.text-key.result.now in
    let counts = text_counts c.args.counts.now.entries in
    let entries = c.count_text.new.counts.entries in
    let text : text_at names name ≡ key = get_or_from_slice_get names name key [] c.text-key.ensures in
    let stay : AreKnown names known (text_counts entries) =
    subst (AreKnown names known) (sym c.in_ok-count_text.ensures) (known_stay names known counts key 1 c.requires.places) in
    one_known names known (text_counts entries) name c.get_index_of.result c.requires.within stay
    (c.get_index_of.ensures.index ∙ place_shown key entries ∙ ap (λ t. key_place t (text_counts entries)) (sym text))
