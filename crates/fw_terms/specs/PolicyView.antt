-- The plain values that a policy's types stand for.
use Rattle.fw_terms.specs.declared.policy.Give.{Give}
use Rattle.fw_terms.specs.declared.policy.Give.TheVariants.{Fixed, Proportional}
use Rattle.fw_terms.specs.Policy.{GiveValue}
use Rattle.fw_terms.specs.Policy.GiveValue.{fixed, proportional}

abbrev pub give_view : Give → GiveValue
give_view (Fixed targets) = fixed targets.items
give_view Proportional = proportional
