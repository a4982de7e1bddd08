-- What a table states of a commitment, field by field.
use Rattle.std.specs.Prelude.{◌≡◌, ◌*◌, ℕ, ℤ, List, [], map, fold, Option, Some, None, option_map, codes, Ok}
use Rattle.std.specs.List.{AllZip}
use Rattle.std.specs.BTreeSet.{insert_key}
use Rattle.std.specs.Cmp.Lexicographic.{slice_cmp}
use Rattle.std.specs.Ordering.{nat_cmp}
use Rattle.toml.specs.Data.{Data, Members, string, integer}
use Rattle.fw_charge.specs.Charge.{seconds_per_hour}
use Rattle.fw_charge.specs.Codes.{kind_word}
use Rattle.fw_charge.specs.Tags.{TagText}
use Rattle.fw_charge.specs.declared.discount.DiscountKind.{DiscountKind}
use Rattle.fw_instants.specs.Instants.{IsSecond}
use Rattle.fw_money.specs.Reading.{Reads}
use Rattle.fw_terms.specs.Texts.{HasTwice}
use Rattle.fw_toml.specs.Tree.{at, IsThere, HasOnly, AreTexts, AreTables, AreIntegers, AreNamedTexts}
use Rattle.fw_commitment.specs.FieldNames.{purchase_names}

-- a name has this text, or this integer
abbrev pub HasText : Members → List ℕ → List ℕ → Type 0
HasText ms name t = at ms name ≡ Some (string t)

abbrev pub HasInteger : Members → List ℕ → ℤ → Type 0
HasInteger ms name z = at ms name ≡ Some (integer z)

-- a name has a text that reads as so many nanos
abbrev pub HasAmount : Members → List ℕ → ℤ → Type 0
HasAmount ms name n = (t : List ℕ) × HasText ms name t × Reads t (Ok n)

-- a name has a text that is read as the instant which begins this second since 1970
abbrev pub HasSecond : Members → List ℕ → ℕ → Type 0
HasSecond ms name s = (t : List ℕ) × HasText ms name t × IsSecond t s

-- the kind is that of the word under `category`
abbrev pub HasKind : Members → DiscountKind → Type 0
HasKind ms kind = HasText ms (codes "category") (kind_word kind)

-- the term starts with this hour since 1970
abbrev pub HasHour : Members → ℕ → Type 0
HasHour ms hour = HasSecond ms (codes "start") (hour * seconds_per_hour)

-- the texts in rising order of their bytes, each once
abbrev pub in_byte_order : List (List ℕ) → List (List ℕ)
in_byte_order texts = fold (insert_key (slice_cmp nat_cmp)) [] texts

-- the SKUs of an array in which none stands twice, in rising order
abbrev pub HasSkus : Members → List (List ℕ) → Type 0
HasSkus ms skus = IsThere (at ms (codes "skus")) (λ d. (texts : List (List ℕ)) × AreTexts texts d × (¬ HasTwice texts) × (skus ≡ in_byte_order texts))

-- the SKUs with their integers
abbrev pub HasRates : Members → List (List ℕ × ℤ) → Type 0
HasRates ms rates = IsThere (at ms (codes "rates")) (AreIntegers rates)

-- the account, if there is one
abbrev pub HasAccount : Members → Option (List ℕ) → Type 0
HasAccount ms account = at ms (codes "sub_account") ≡ option_map string account

-- the tags; there are none where their name isn't there
abbrev pub AreTagsOf : Option Data → List TagText → Type 0
AreTagsOf None tags = tags ≡ []
AreTagsOf (Some d) tags = AreNamedTexts (map (λ t. (t.key, t.value)) tags) d

abbrev pub HasTags : Members → List TagText → Type 0
HasTags ms tags = AreTagsOf (at ms (codes "tags")) tags

-- the table of a purchase has its second and its nanos, and nothing else
abbrev pub IsPayment : Members → ℕ × ℤ → Type 0
IsPayment ms p = HasOnly purchase_names ms × HasSecond ms (codes "at") p.0 × HasAmount ms (codes "billed") p.1

-- the purchases, each by its second and its nanos
abbrev pub HasPurchases : Members → List (ℕ × ℤ) → Type 0
HasPurchases ms payments = IsThere (at ms (codes "purchase")) (λ d. (ts : List Members) × AreTables ts d × AllZip IsPayment ts payments)
