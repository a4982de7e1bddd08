-- The plain values that a commitment's terms stand for.
use Rattle.std.specs.Prelude.{map, string_bytes}
use Rattle.fw_terms.specs.declared.commitment.Terms.{Terms}
use Rattle.fw_terms.specs.declared.commitment.Terms.TheVariants.{Usage, Spend}
use Rattle.fw_terms.specs.Commitment.{TermsValue}
use Rattle.fw_terms.specs.Commitment.TermsValue.{usage, spend}

abbrev pub terms_view : Terms → TermsValue
terms_view (Usage unit skus) = usage (string_bytes unit) (map string_bytes skus.items)
terms_view (Spend rates) = spend rates.items
