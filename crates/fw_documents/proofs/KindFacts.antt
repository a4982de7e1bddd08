-- What the names of a text say that it is.
use Rattle.std.proofs.Common.{◌≡◌, ℕ, List, Bool, true, false}
use Rattle.std.specs.Prelude.{MatchResult, refl}
use Rattle.toml.specs.Data.{Members}
use Rattle.fw_toml.specs.Tree.{IsTable}
use Rattle.fw_documents.specs.Documents.{IsNoDocument, IsOfKind}
use Rattle.fw_documents.specs.Kinds.{has_commitment_name, has_policy_name, has_purchase_name, kind_by, kind_in}

by_names : (text : List ℕ) (ms : Members) (c p a : Bool) → IsTable text ms → kind_in ms ≡ kind_by c p a
    → MatchResult (kind_by c p a) (IsOfKind text) (IsNoDocument text)
unfolding IsNoDocument IsOfKind
by_names text ms true true a is same = (ms, is, same)
by_names text ms true false a is same = (ms, is, same)
by_names text ms false true true is same = (ms, is, same)
by_names text ms false true false is same = (ms, is, same)
by_names text ms false false true is same = (ms, is, same)
by_names text ms false false false is same = (ms, is, same)

-- a text with a table is what its names say, or no document by them
pub kind_found : (text : List ℕ) (ms : Members) → IsTable text ms
    → MatchResult (kind_in ms) (IsOfKind text) (IsNoDocument text)
unfolding kind_in
kind_found text ms is = by_names text ms (has_commitment_name ms) (has_policy_name ms) (has_purchase_name ms) is refl
