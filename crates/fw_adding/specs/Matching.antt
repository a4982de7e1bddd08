-- Which rows of its SKUs a commitment applies to.
use Rattle.std.specs.Prelude.{if◌then◌else◌}
use Rattle.fw_charge.specs.Charge.{Charge, hour_of}
use Rattle.fw_terms.specs.Commitment.{CommitmentValue}
use Rattle.fw_cover.specs.Applies.{allows, has_unit, is_in_term}
use Rattle.fw_cover.specs.Eligible.{is_eligible}
use Rattle.fw_adding.specs.declared.matching.Match.{Match}
use Rattle.fw_adding.specs.declared.matching.Match.TheVariants as match_

-- whether a commitment applies to a row of a SKU that it lists, and if not, the first reason
unfoldable pub match_of : CommitmentValue → Charge → Match
match_of c row =
    if is_eligible row
    then (if is_in_term c (hour_of row.start)
    then (if allows c.sub_account row.sub_account
    then (if has_unit c.terms row.unit then match_.Applies else match_.OtherUnit)
    else match_.OtherAccount)
    else match_.OutOfTerm)
    else match_.NotEligible
