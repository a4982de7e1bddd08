-- What the lines carry of a commitment's purchases.
use Rattle.std.specs.Prelude.{◌≡◌, ◌&&◌, ℕ, ℤ, pos, ◌+ℤ◌, Bool, true, false, List, [], ◌∷◌, fold, map, filter, Option, None, Some, is_some}
use Rattle.std.specs.Option.{option_map_or}
use Rattle.std.specs.Str.{bytes_eq}
use Rattle.fw_charge.specs.Charge.{DiscountText}
use Rattle.fw_terms.specs.Commitment.{CommitmentValue}
use Rattle.fw_amortise.specs.LineValue.{LineValue}
use Rattle.fw_amortise.specs.declared.line.LineKind.{LineKind}
use Rattle.fw_amortise.specs.declared.line.LineKind.TheVariants as kind

-- used and unused lines carry shares
abbrev pub is_share : LineKind → Bool
is_share kind.Purchase = false
is_share kind.Given = false
is_share kind.Used = true
is_share kind.Unused = true
is_share kind.Rest = false

abbrev pub has_id : List ℕ → Option DiscountText → Bool
has_id id None = false
has_id id (Some d) = bytes_eq d.id id

-- whether a line carries a share of the commitment with this id
unfoldable pub is_share_of : List ℕ → LineValue → Bool
is_share_of id line = is_share line.kind && has_id id line.commitment

-- whether a line names the commitment with this id, and a status: how the lines of shares are known from their text
unfoldable pub names_share_of : List ℕ → LineValue → Bool
names_share_of id line = option_map_or (λ d. bytes_eq d.id id && is_some d.status) line.commitment false

-- the sum of the effective costs of lines
unfoldable pub cost_of_all : List LineValue → ℤ
cost_of_all lines = fold ◌+ℤ◌ (pos 0) (map (λ line. line.effective) lines)

-- what the used and unused lines of the commitment with this id cost together
unfoldable pub carried : List ℕ → List LineValue → ℤ
carried id lines = cost_of_all (filter (is_share_of id) lines)

-- c stands in the list, and no other commitment of the list has its id
unfoldable pub IsOnly : List CommitmentValue → CommitmentValue → Type 0
IsOnly cs c = filter (λ d. bytes_eq d.id c.id) cs ≡ c ∷ []
