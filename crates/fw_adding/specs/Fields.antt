-- In which fields two commitments agree.
use Rattle.std.specs.Prelude.{◌≡◌, ⊤}
use Rattle.fw_commitment.specs.declared.fault.CommitmentField.{CommitmentField}
use Rattle.fw_commitment.specs.declared.fault.CommitmentField.TheVariants as field
use Rattle.fw_terms.specs.Commitment.{CommitmentValue, TermsValue, kind_of}
use Rattle.fw_terms.specs.Commitment.TermsValue.{usage, spend}

-- of the fields that commitments of one category alone have, those are compared that both have
abbrev pub AgreeInUnit : TermsValue → TermsValue → Type 0
AgreeInUnit (usage unit skus) (usage second others) = unit ≡ second
AgreeInUnit (usage unit skus) (spend rates) = ⊤
AgreeInUnit (spend rates) t = ⊤

abbrev pub AgreeInSkus : TermsValue → TermsValue → Type 0
AgreeInSkus (usage unit skus) (usage second others) = skus ≡ others
AgreeInSkus (usage unit skus) (spend rates) = ⊤
AgreeInSkus (spend rates) t = ⊤

abbrev pub AgreeInRates : TermsValue → TermsValue → Type 0
AgreeInRates (spend rates) (spend others) = rates ≡ others
AgreeInRates (spend rates) (usage unit skus) = ⊤
AgreeInRates (usage unit skus) t = ⊤

-- a commitment has no `at` and no `billed` of its own
unfoldable pub Agree : CommitmentField → CommitmentValue → CommitmentValue → Type 0
Agree field.Id c d = c.id ≡ d.id
Agree field.Category c d = kind_of c.terms ≡ kind_of d.terms
Agree field.Start c d = c.start ≡ d.start
Agree field.Hours c d = c.hours ≡ d.hours
Agree field.Capacity c d = c.capacity ≡ d.capacity
Agree field.Unit c d = AgreeInUnit c.terms d.terms
Agree field.Skus c d = AgreeInSkus c.terms d.terms
Agree field.Rates c d = AgreeInRates c.terms d.terms
Agree field.SubAccount c d = c.sub_account ≡ d.sub_account
Agree field.Tags c d = c.tags ≡ d.tags
Agree field.Purchase c d = c.purchases ≡ d.purchases
Agree field.At c d = ⊤
Agree field.Billed c d = ⊤
Agree field.Unknown c d = ⊤
