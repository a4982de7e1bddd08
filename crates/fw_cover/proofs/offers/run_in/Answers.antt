use Rattle.std.proofs.Common.{◌≡◌, ◌∙◌, ap, drop, map, rules, take}
use Rattle.std.specs.List.{prefix_len}
use Rattle.std.specs.Ordering.{is_lt}
use Rattle.std.specs.Str.{bytes_eq}
use Rattle.std.proofs.lemmas.List.Sorted.{IsPartitionPoint-from_clause}
use Rattle.fw_cover.specs.Offers.{offer_of, standing_to}
use Rattle.fw_cover.specs.declared.offers.Offer.{Offer}
use Rattle.fw_cover.proofs.Index.{parted_below, offers_run}
use Rattle.fw_cover.proofs.offers.run_in.Goals as goal

pub returns : goal.returns
returns c =
    let sku = c.args.sku.now in
    let xs = c.args.list.now in
    let from = c.partition_point-from.result in
    let below = IsPartitionPoint-from_clause (λ o. is_lt (standing_to sku o)) xs from c.partition_point-from.ensures.partitioned (parted_below sku xs c.requires) (λ a r q k. search rules) in
    let back : c.split_at.result.1.now ≡ drop from xs = c.split_at.ensures.back in
    let run : c.run_of.result ≡ prefix_len (λ (o : Offer). bytes_eq o.sku.now sku) (drop from xs) = c.run_of.ensures.run ∙ ap (prefix_len (λ (o : Offer). bytes_eq o.sku.now sku)) back in
    let front : c.split_at-2.result.0.now ≡ take c.run_of.result (drop from xs) = c.split_at-2.ensures.front ∙ ap (take c.run_of.result) back in
    ap (map offer_of) front ∙ offers_run sku xs from c.run_of.result c.requires below run
