-- The bytes of a commitment, of a purchase, of one that is added, and of a policy, and which of them have a spelling.
use Rattle.std.specs.Prelude.{◌≤◌, List, [], ◌∷◌, ◌++◌, All, Some, IfSome, pos, ℕ}
use Rattle.std.specs.Str.{IsUtf8}
use Rattle.fw_bytes.specs.Spelling.{number32, number64, text, optional, listed}
use Rattle.fw_money.specs.Amount.{most_nanos}
use Rattle.fw_charge.specs.Charge.{IsShortText, last_second}
use Rattle.fw_charge.specs.Spelling.{nanos, tags}
use Rattle.fw_charge.specs.Tags.{TagText}
use Rattle.fw_charge.specs.Codes.{kind_code}
use Rattle.fw_terms.specs.Commitment.{PurchaseValue, RateValue, TermsValue, CommitmentValue, IsCommitment, kind_of}
use Rattle.fw_terms.specs.Commitment.TermsValue.{usage, spend}
use Rattle.fw_terms.specs.Added.{AddedValue}
use Rattle.fw_terms.specs.Policy.{TargetValue, GiveValue, RuleValue, PolicyValue, IsPolicy}
use Rattle.fw_terms.specs.Policy.GiveValue.{fixed, proportional}

-- ---- a commitment

-- a SKU and its parts per million
unfoldable pub rate : RateValue → List ℕ
rate r = text r.sku ++ number32 r.ppm

-- when, in seconds since 1970, and how much, in nanos
unfoldable pub purchase : PurchaseValue → List ℕ
purchase p = number64 p.at ++ nanos (pos p.billed)

-- what is committed to, behind the byte of its kind: a unit and SKUs, or rates
unfoldable pub committed : TermsValue → List ℕ
committed (usage unit skus) = text unit ++ listed text skus
committed (spend rates) = listed rate rates

-- the id, the kind, the account and the tags
unfoldable pub names : CommitmentValue → List ℕ
names c = text c.id ++ ((kind_code (Some (kind_of c.terms)) ∷ []) ++ (optional text c.sub_account ++ tags c.tags))

-- the first hour, the number of hours, and what each of them holds
unfoldable pub term : CommitmentValue → List ℕ
term c = number32 c.start ++ (number32 c.hours ++ nanos (pos c.capacity))

-- the fields, in order
unfoldable pub commitment : CommitmentValue → List ℕ
commitment c = (names c ++ term c) ++ (committed c.terms ++ listed purchase c.purchases)

-- ---- a purchase that is added to a commitment

-- the id of the commitment, and what was paid
unfoldable pub added : AddedValue → List ℕ
added a = text a.id ++ purchase a.purchase

-- ---- a policy

-- a group and its weight
unfoldable pub target : TargetValue → List ℕ
target t = text t.group ++ number64 t.weight

-- 1 and the targets; or 2 alone, for a share in proportion to costs
unfoldable pub given : GiveValue → List ℕ
given (fixed targets) = 1 ∷ listed target targets
given proportional = 2 ∷ []

-- the group that gives away, and to whom
unfoldable pub rule : RuleValue → List ℕ
rule r = text r.from ++ given r.give

-- the key and the rules
unfoldable pub policy : PolicyValue → List ℕ
policy p = text p.key ++ listed rule p.rules

-- ---- what has a spelling

-- key and text of a tag are UTF-8
pub record IsTagUtf8 (t : TagText) : Type 0 where
  pub key : IsUtf8 t.key
  pub value : IsUtf8 t.value

-- its instant is up to the end of the year 9999, and its amount at most 10^17 nanos
pub record IsSpelledPurchase (p : PurchaseValue) : Type 0 where
  pub at : p.at ≤ last_second
  pub billed : p.billed ≤ most_nanos

-- the id has 1 to 256 bytes and is UTF-8, and the purchase has a spelling
pub record IsSpelledAdded (a : AddedValue) : Type 0 where
  pub id : IsShortText a.id
  pub utf8 : IsUtf8 a.id
  pub purchase : IsSpelledPurchase a.purchase

-- each text of what is committed to is UTF-8
abbrev pub AreTermsUtf8 : TermsValue → Type 0
AreTermsUtf8 (usage unit skus) = IsUtf8 unit × All IsUtf8 skus
AreTermsUtf8 (spend rates) = All (λ r. IsUtf8 r.sku) rates

-- it keeps its limits, and each of its texts is UTF-8
pub record IsSpelledCommitment (c : CommitmentValue) : Type 0 where
  pub limits : IsCommitment c
  pub id : IsUtf8 c.id
  pub terms : AreTermsUtf8 c.terms
  pub sub_account : IfSome c.sub_account IsUtf8
  pub tags : All IsTagUtf8 c.tags

-- each text of what a rule gives is UTF-8
abbrev pub IsGiveUtf8 : GiveValue → Type 0
IsGiveUtf8 (fixed targets) = All (λ t. IsUtf8 t.group) targets
IsGiveUtf8 proportional = Unit {0}

-- each text of a rule is UTF-8
pub record IsRuleUtf8 (r : RuleValue) : Type 0 where
  pub from : IsUtf8 r.from
  pub give : IsGiveUtf8 r.give

-- it keeps its limits, and each of its texts is UTF-8
pub record IsSpelledPolicy (p : PolicyValue) : Type 0 where
  pub limits : IsPolicy p
  pub key : IsUtf8 p.key
  pub rules : All IsRuleUtf8 p.rules
