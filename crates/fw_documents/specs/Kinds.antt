-- What a TOML text is, as its top-level names say.
use Rattle.std.specs.Prelude.{ℕ, List, [], ◌∷◌, Bool, true, false, Result, Ok, Err, codes, is_some}
use Rattle.std.specs.List.{list_any}
use Rattle.toml.specs.Data.{Members}
use Rattle.fw_toml.specs.Tree.{at}
use Rattle.fw_documents.specs.declared.fault.DocumentFault.{DocumentFault}
use Rattle.fw_documents.specs.declared.fault.DocumentFault.TheVariants as fault
use Rattle.fw_documents.specs.declared.kind.Kind.{Kind}
use Rattle.fw_documents.specs.declared.kind.Kind.TheVariants as kind

-- a table has one of these names
unfoldable pub has_any : List (List ℕ) → Members → Bool
has_any names ms = list_any (λ name. is_some (at ms name)) names

-- a table has a name that only a commitment has
unfoldable pub has_commitment_name : Members → Bool
has_commitment_name ms =
    has_any
    (codes "category" ∷ codes "start" ∷ codes "hours" ∷ codes "capacity" ∷ codes "unit"
    ∷ codes "skus" ∷ codes "rates" ∷ codes "purchase" ∷ [])
    ms

-- a table has a name that only a policy has
unfoldable pub has_policy_name : Members → Bool
has_policy_name ms = has_any (codes "key" ∷ codes "rule" ∷ []) ms

-- a table has a name that a purchase has which is added to a commitment, and no other document at its top level
unfoldable pub has_purchase_name : Members → Bool
has_purchase_name ms = has_any (codes "at" ∷ codes "billed" ∷ []) ms

-- what a table is that has names of a commitment, of a policy and of a purchase, or not. Where it is a commitment, those of a
-- purchase are faults of it
abbrev pub kind_by : Bool → Bool → Bool → Result Kind DocumentFault
kind_by true false purchase = Ok kind.Commitment
kind_by false true false = Ok kind.Policy
kind_by false false true = Ok kind.Purchase
kind_by false false false = Err fault.NoKind
kind_by true true purchase = Err fault.TwoKinds
kind_by false true true = Err fault.TwoKinds

-- what the names of a table say that it is
unfoldable pub kind_in : Members → Result Kind DocumentFault
kind_in ms = kind_by (has_commitment_name ms) (has_policy_name ms) (has_purchase_name ms)
