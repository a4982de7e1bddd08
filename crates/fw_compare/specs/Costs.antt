-- Costs, and what they come to together.
use Rattle.std.specs.Prelude.{ℤ, pos, ◌+ℤ◌, ◌-ℤ◌, List, map, fold}
use Rattle.fw_compare.specs.declared.costs.Costs.{Costs}

abbrev pub total : List ℤ → ℤ
total amounts = fold ◌+ℤ◌ (pos 0) amounts

-- no costs
abbrev pub none : Costs
none = record { billed = pos 0; effective = pos 0; charged = pos 0 }

-- costs and others
abbrev pub with : Costs → Costs → Costs
with a b = record {
  billed = a.billed +ℤ b.billed;
  effective = a.effective +ℤ b.effective;
  charged = a.charged +ℤ b.charged;
}

-- costs less others
abbrev pub less : Costs → Costs → Costs
less a b = record {
  billed = a.billed -ℤ b.billed;
  effective = a.effective -ℤ b.effective;
  charged = a.charged -ℤ b.charged;
}

-- the sums of costs
abbrev pub billed_in : List Costs → ℤ
billed_in costs = total (map (λ c. c.billed) costs)

abbrev pub effective_in : List Costs → ℤ
effective_in costs = total (map (λ c. c.effective) costs)

abbrev pub charged_in : List Costs → ℤ
charged_in costs = total (map (λ c. c.charged) costs)

abbrev pub sums_of : List Costs → Costs
sums_of costs = record {
  billed = billed_in costs;
  effective = effective_in costs;
  charged = charged_in costs;
}
