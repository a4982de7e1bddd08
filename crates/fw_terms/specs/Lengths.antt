-- The most bytes that the parts of commitments, of purchases that are added and of policies have where they are written.
use Rattle.std.specs.Prelude.{ℕ, ◌+◌, ◌*◌}
use Rattle.fw_charge.specs.Charge.{longest_short_text}
use Rattle.fw_charge.specs.Tags.{most_tags, longest_tag_text}
use Rattle.fw_terms.specs.Commitment.{most_skus, most_purchases}
use Rattle.fw_terms.specs.Policy.{most_text, most_targets, most_rules}

-- ---- a commitment

-- a short text
abbrev pub most_name_len : ℕ
most_name_len = 4 + longest_short_text

abbrev pub most_skus_len : ℕ
most_skus_len = 4 + most_skus * most_name_len

abbrev pub most_rate_len : ℕ
most_rate_len = most_name_len + 4

abbrev pub most_rates_len : ℕ
most_rates_len = 4 + most_skus * most_rate_len

abbrev pub most_purchases_len : ℕ
most_purchases_len = 4 + most_purchases * 16

abbrev pub most_tags_len : ℕ
most_tags_len = 4 + most_tags * (4 + longest_tag_text + (4 + longest_tag_text))

-- rates are longer than a unit and SKUs
abbrev pub most_commitment_len : ℕ
most_commitment_len = 17 + (most_name_len + (1 + most_name_len) + (most_tags_len + most_rates_len + most_purchases_len))

-- ---- a purchase that is added to a commitment

abbrev pub most_added_len : ℕ
most_added_len = most_name_len + 16

-- ---- a policy

abbrev pub most_target_len : ℕ
most_target_len = 4 + most_text + 8

abbrev pub most_targets_len : ℕ
most_targets_len = 4 + most_targets * most_target_len

abbrev pub most_give_len : ℕ
most_give_len = 1 + most_targets_len

abbrev pub most_rule_len : ℕ
most_rule_len = 4 + most_text + most_give_len

abbrev pub most_policy_len : ℕ
most_policy_len = 4 + most_text + (4 + most_rules * most_rule_len)
