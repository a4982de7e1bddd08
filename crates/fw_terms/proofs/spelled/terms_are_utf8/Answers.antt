use Rattle.std.proofs.Common.{List, subst}
use Rattle.std.specs.List.{All}
use Rattle.std.specs.Str.{IsUtf8}
use Rattle.std.proofs.lemmas.Str.{IsUtf8-string_bytes}
use Rattle.fw_terms.specs.Commitment.{RateValue}
use Rattle.fw_terms.proofs.Items.{strings_utf8}
use Rattle.fw_terms.proofs.spelled.terms_are_utf8.Goals as goal

pub returns-in-Usage : goal.returns-in-Usage
returns-in-Usage c = rw c.in-Usage.is (IsUtf8-string_bytes c.in-Usage.unit, strings_utf8 c.in-Usage.skus.items)

pub returns-in-Spend : goal.returns-in-Spend
returns-in-Spend c = rw c.in-Spend.is (subst (λ (rates : List RateValue). All (λ r. IsUtf8 r.sku) rates) c.deref.ensures.value c.rates_are_utf8.ensures)
