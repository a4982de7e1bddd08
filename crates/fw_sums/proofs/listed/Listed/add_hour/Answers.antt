use Rattle.std.proofs.Common.{◌∙◌, [], append-nil, ap, arith, filter, length, sym}
use Rattle.std.specs.Prelude.{slice_index}
use Rattle.fw_columns.specs.Hours.{hours_of}
use Rattle.fw_sums.specs.Hours.{row_places}
use Rattle.fw_sums.specs.Listed.{may_be_listed}
use Rattle.fw_sums.proofs.ListedFacts.{all_listed, hour_added, none_listed, one_listed}
use Rattle.fw_sums.proofs.listed.Listed.add_hour.Goals as goal

pub returns-then-not-may_list_any : goal.returns-then-not-may_list_any
returns-then-not-may_list_any c = λ segments here.
    let rows = c.args.segment.now in
    let at = c.args.at in
    let hour = slice_index (hours_of rows) at.number in
    let old = c.args.listed.now.items in
    hour_added c.args.self.now segments at rows old old [] here (sym (append-nil old))
    (none_listed c.args.self.now segments at.segment hour rows c.skus_in-codes.result.now here c.skus_in-codes.ensures (sym c.may_list_any.ensures ∙ c.if-not-may_list_any.true))

pub returns-then-not-marks_any : goal.returns-then-not-marks_any
returns-then-not-marks_any c = λ segments here.
    let rows = c.args.segment.now in
    let at = c.args.at in
    let hour = slice_index (hours_of rows) at.number in
    hour_added c.args.self.now segments at rows c.args.listed.now.items _ _ here c.in_ok-push_places.ensures
    (all_listed c.args.self.now segments at.segment hour rows c.skus_in-codes.result.now here c.skus_in-codes.ensures (sym c.marks_any.ensures ∙ c.if-not-marks_any.true)
    ∙ ap (row_places at.segment) (sym c.places_in.ensures.places))

pub places_of_sku-requires-clause-sku : goal.places_of_sku-requires-clause-sku
places_of_sku-requires-clause-sku c =
    let size = ap length c.skus_in-codes.ensures in
    let there = c.in-Some.ensures.there in
    omega (arith, size, there)

pub returns-in-Some : goal.returns-in-Some
returns-in-Some c = λ segments here.
    let rows = c.args.segment.now in
    let at = c.args.at in
    let hour = slice_index (hours_of rows) at.number in
    hour_added c.args.self.now segments at rows c.args.listed.now.items _ _ here c.in_ok-push_places-2.ensures
    (one_listed c.args.self.now segments at.segment hour rows c.skus_in-codes.result.now c.in-Some.which here c.skus_in-codes.ensures c.in-Some.ensures
    ∙ ap (row_places at.segment) (sym c.places_of_sku.ensures.places))

pub returns : goal.returns
returns c = λ segments here.
    let rows = c.args.segment.now in
    let at = c.args.at in
    hour_added c.args.self.now segments at rows c.args.listed.now.items _ _ here (c.in_ok-add_places.ensures segments here)
    (ap (λ l. filter (may_be_listed c.args.self.now segments) (row_places at.segment l)) (sym c.places_in-rows.ensures.places))
