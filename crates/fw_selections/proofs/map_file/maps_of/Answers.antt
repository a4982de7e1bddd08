use Rattle.std.proofs.Common.{codes, inl, inr, map, refl}
use Rattle.toml.specs.View.{view}
use Rattle.fw_toml.proofs.Readings.{nothing_there, tables_of-there}
use Rattle.fw_toml.specs.Tree.{at, stated}
use Rattle.fw_selections.proofs.MapFacts.{none-there, table-reads, tables-there, top-more, top-right, top-wrong}
use Rattle.fw_selections.proofs.map_file.maps_of.Goals as goal

pub returns-in_default : goal.returns-in_default
returns-in_default c = inl (top-wrong (stated c.args.table.now) _ (nothing_there _ (at (stated c.args.table.now) (codes "map")) c.in_default.ensures) refl, refl)

pub returns-in_default-2 : goal.returns-in_default-2
returns-in_default-2 c =
    inl (top-wrong (stated c.args.table.now) _ (none-there (at (stated c.args.table.now) (codes "map")) (view c.in-Some.array.now) c.in-Some.ensures (rw c.in_default-2.is at c.in_ok-found.ensures)) refl, refl)

pub returns-then-not-has_only : goal.returns-then-not-has_only
returns-then-not-has_only c =
    let are = rw c.in-Some-2.is at c.in_ok-found.ensures in
    let has = tables-there (at (stated c.args.table.now) (codes "map")) (view c.in-Some.array.now) (map (λ t. stated t.now) c.in-Some-2.found.items) c.in-Some.ensures are in
    inl (top-more (stated c.args.table.now) _ has (λ only. let is = c.has_only.ensures.1 only in let not_ = c.if-not-has_only.true in absurd (cc)) refl, refl)

pub returns : goal.returns
returns c =
    let are = rw c.in-Some-2.is at c.in_ok-found.ensures in
    let has = tables-there (at (stated c.args.table.now) (codes "map")) (view c.in-Some.array.now) (map (λ t. stated t.now) c.in-Some-2.found.items) c.in-Some.ensures are in
    let read = rw c.as_slice.ensures.value at c.named_maps.ensures in
    table-reads (stated c.args.table.now) (map (λ t. stated t.now) c.in-Some-2.found.items) c.named_maps.result
    (top-right (stated c.args.table.now) has (c.has_only.ensures.0 c.if-not-has_only.false))
    (tables_of-there (at (stated c.args.table.now) (codes "map")) (view c.in-Some.array.now) (map (λ t. stated t.now) c.in-Some-2.found.items) c.in-Some.ensures are) read
