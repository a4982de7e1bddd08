use Rattle.std.proofs.Common.{◌≡◌, ◌++◌, IfSome, List, refl, subst, sym}
use Rattle.fw_select.specs.Rows.{IsKnown, plain_line}
use Rattle.fw_select.specs.Selectors.{costs_of}
use Rattle.fw_select.specs.Table.{AreSums}
use Rattle.fw_sums.specs.Hours.{lent, rows_at}
use Rattle.std.proofs.Common.{◌∷◌, [], map}
use Rattle.std.proofs.lemmas.Option.{slice_get_read}
use Rattle.fw_select.proofs.KnownFacts.{count_kept, count_put, known_there}
use Rattle.fw_select.proofs.PlainFacts.{rows_of_place, segment_at}
use Rattle.fw_select.proofs.count.Count.add_place.Goals as goal

pub returns-then-not-self-clause-sums : goal.returns-then-not-self-clause-sums
returns-then-not-self-clause-sums c = λ before sums.
    let same = rows_of_place c.args.segments.now c.args.at c.index-segments-at.result c.places_in-places.result.now c.requires.there c.index-segments-at.is c.places_in-places.ensures.places in
    subst (λ rows. AreSums c.add_each.new.table (before ++ costs_of c.args.selector.now (map plain_line rows))) same (c.in_ok-add_each.ensures.sums before sums)

pub returns-then-not-self-clause-count : goal.returns-then-not-self-clause-count
returns-then-not-self-clause-count c = count_kept c.args.selector.now (lent c.args.segments.now) c.args.self.now _ c.in_ok-add_each.ensures.kept refl c.add_each.ensures.room c.requires.count

pub add_rows-requires-clause-known : goal.add_rows-requires-clause-known
add_rows-requires-clause-known c =
    let here = segment_at c.args.segments.now c.args.at c.index-segments-at.result c.requires.there c.index-segments-at.is in
    let one = c.index_mut-known.result.now in
    subst (λ rows. IfSome one (IsKnown c.args.selector.now c.args.self.now.table rows)) here
    (known_there c.args.selector.now (lent c.args.segments.now) c.args.self.now c.args.at.segment one c.requires.count
    (slice_get_read c.args.self.now.known.items _ c.args.at.segment one (sym c.requires.count.long) c.requires.there.segment c.index_mut-known.ensures.value))

pub returns-clause-sums : goal.returns-clause-sums
returns-clause-sums c = λ before sums.
    let same = rows_of_place c.args.segments.now c.args.at c.index-segments-at.result c.places_in-places.result.now c.requires.there c.index-segments-at.is c.places_in-places.ensures.places in
    subst (λ rows. AreSums c.add_rows.new.table (before ++ costs_of c.args.selector.now (map plain_line rows))) same (c.in_ok-add_rows.ensures.sums before sums)

pub returns-clause-count : goal.returns-clause-count
returns-clause-count c =
    let here = segment_at c.args.segments.now c.args.at c.index-segments-at.result c.requires.there c.index-segments-at.is in
    count_put c.args.selector.now (lent c.args.segments.now) c.args.self.now _ c.args.at.segment c.add_rows.new.known c.requires.count c.in_ok-add_rows.ensures.kept c.add_rows.ensures.room c.requires.there.segment refl
    (subst (λ rows. IfSome c.add_rows.new.known (IsKnown c.args.selector.now c.add_rows.new.table rows)) (sym here) c.in_ok-add_rows.ensures.known)
