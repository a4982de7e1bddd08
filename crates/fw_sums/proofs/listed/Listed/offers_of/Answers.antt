use Rattle.std.proofs.Common.{◌≡◌, ◌∙◌, [], IfSome, Some, ap, get_or, subst, sym}
use Rattle.std.specs.Prelude.{slice_get}
use Rattle.fw_columns.specs.BySku.{sku_codes}
use Rattle.fw_cover.specs.Offers.{sku_offers}
use Rattle.fw_cover.specs.RosterView.{offers_of_row}
use Rattle.fw_sums.specs.Hours.{row_at}
use Rattle.fw_sums.specs.Listed.{found_at}
use Rattle.fw_sums.proofs.ListedFacts.{place_found}
use Rattle.fw_sums.proofs.listed.Listed.offers_of.Goals as goal

pub returns-in-Some : goal.returns-in-Some
returns-in-Some c = λ segments here are row is.
    let at = c.args.at.now in
    let listed = c.args.self.now in
    let r = c.args.roster.now in
    let there : row_at segments at ≡ Some row = ap (λ rows. slice_get rows at.place) here ∙ is in
    let found : found_at listed at.segment (get_or (sku_codes (get_or segments at.segment [])) at.place 0) ≡ Some c.in-Some.found =
    (λ j. found_at listed at.segment (get_or (sku_codes (here j)) at.place 0)) ∙ sym c.in-Some.ensures in
    subst (λ o. IfSome o (λ found. sku_offers found ≡ offers_of_row r row)) found (place_found segments r listed are at row there)
