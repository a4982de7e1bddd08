use Rattle.std.proofs.Common.{◌≡◌, ◌∙◌, ◌<◌, ◌++◌, ◌∷◌, [], ap, arith, length, map, subst, sym, take, All, List, ℕ}
use Rattle.std.specs.List.{take-map}
use Rattle.std.specs.Prelude.{vec_items}
use Rattle.fw_columns.proofs.SkuFacts.{codes_long, few_more, has_run, hour_added, hour_list, hour_places, lists_added, made, one_long, places_below, places_long, runs_more, runs_none}
use Rattle.fw_columns.proofs.by_sku.SkusByHour.of_rows.Goals as goal

pub loop-number-init : goal.loop-number-init
loop-number-init c = record {
  codes = rw (c.new-codes.ensures.items, c.in_ok-push.ensures.items, c.in_ok-before.ensures.items) (runs_none (hour_list c.args.skus.now c.args.by_hour.now));
  places = rw (c.new-places.ensures, c.in_ok-push.ensures.items, c.in_ok-before.ensures.items) (runs_none (hour_places c.args.skus.now c.args.by_hour.now));
  few = let none = ap length c.new-codes.ensures.items in omega (arith, none);
  noted = λ n. rw c.new.ensures.items (omega arith);
}

pub places_in-requires : goal.places_in-requires
places_in-requires c =
    let (rows, by, are) = c.requires.rows in
    has_run c.args.by_hour.now rows c.loop-number.number by (let some = ap length c.hours-hours.ensures in omega (arith, some))

pub add_codes-requires-clause-places : goal.add_codes-requires-clause-places
add_codes-requires-clause-places c =
    let (rows, by, are) = c.requires.rows in
    let AreBelow : List ℕ → Type 0 = λ l. All (λ place. place < length c.args.skus.now) l in
    subst AreBelow (sym c.places_in.ensures.places) (places_below c.args.skus.now c.args.by_hour.now rows c.loop-number.number by are (let all = ap length by.hours in let some = ap length c.hours-hours.ensures in omega (arith, all, some)))

pub overflow_cast-len : goal.overflow_cast-len
overflow_cast-len c =
    let (rows, by, are) = c.requires.rows in
    let run = has_run c.args.by_hour.now rows c.loop-number.number by (let some = ap length c.hours-hours.ensures in omega (arith, some)) in
    let size = codes_long c.args.skus.now rows are in
    let few = few_more c.args.skus.now c.args.by_hour.now c.loop-number.number c.loop-number.codes.items c.add_codes.new.codes.items c.places_in.result.now run c.places_in.ensures.places c.loop-number.invariant.few c.in_ok-count.ensures.codes in
    omega (arith, size, c.requires.few, run.within, by.long, few, c.len.ensures)

pub loop-number-preserved : goal.loop-number-preserved
loop-number-preserved c =
    let (rows, by, are) = c.requires.rows in
    let skus = c.args.skus.now in
    let b = c.args.by_hour.now in
    let n = c.loop-number.number in
    let codes = c.loop-number.codes.items in
    let run = has_run b rows n by (let some = ap length c.hours-hours.ensures in omega (arith, some)) in
    let added = hour_added skus b n codes c.add_codes.new.codes.items c.places_in.result.now c.places_in.ensures.places c.in_ok-count.ensures.codes in
    let len : c.len.result ≡ length c.add_codes.new.codes.items = omega (arith, c.len.ensures) in
    let all : c.push-in-loop-number.new.self.items ≡ c.loop-number.before.items ++ length (codes ++ hour_list skus b n) ∷ [] =
    c.in_ok-push-2.ensures.items ∙ ap (λ l. c.loop-number.before.items ++ l ∷ []) (len ∙ ap length added) in
    let same = one_long (hour_list skus b) (hour_places skus b) n codes c.loop-number.places c.loop-number.before.items c.loop-number.invariant.codes c.loop-number.invariant.places (sym (places_long skus b n)) in
    let lists : c.in_ok-places.places ≡ c.loop-number.places ++ hour_places skus b n =
    c.in_ok-places.ensures
    ∙ ap (λ l. c.loop-number.places ++ l)
    (ap (λ l. map vec_items (take c.in_ok-count.count l)) c.deref.ensures.value ∙ sym (take-map vec_items c.in_ok-count.count c.add_codes.new.self.lists.items) ∙ c.in_ok-count.ensures.lists ∙ lists_added skus b n c.places_in.result.now c.places_in.ensures.places) in
    record {
      codes = rw (added, all) (runs_more (hour_list skus b) n codes c.loop-number.before.items c.loop-number.invariant.codes);
      places = rw (lists, all, same) (runs_more (hour_places skus b) n c.loop-number.places c.loop-number.before.items c.loop-number.invariant.places);
      few = few_more skus b n codes c.add_codes.new.codes.items c.places_in.result.now run c.places_in.ensures.places c.loop-number.invariant.few c.in_ok-count.ensures.codes;
      noted = λ n. let low = c.in_ok-count.ensures.met n in omega (arith, low, c.add_codes.new.codes.ok.0);
    }

pub returns : goal.returns
returns c = λ rows by are.
    made c.args.skus.now c.args.by_hour.now (record { codes = c.shrink_to_fit.new.self; before = c.loop-number.before; places = c.shrink.new.self }) c.loop-number.number rows
    (rw c.shrink_to_fit.ensures.items c.loop-number.invariant.codes) (rw c.shrink.ensures c.loop-number.invariant.places) by are
    (let some = ap length c.hours-hours.ensures in omega (arith, some))
