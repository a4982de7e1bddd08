-- What one entry changes that sets a policy.
use Rattle.std.proofs.Common.{◌≡◌, ◌∙◌, ◌++◌, ◌∷◌, [], Some, sym, ap}
use Rattle.fw_snapshot.specs.Adding.{commitments_after}
use Rattle.fw_snapshot.specs.History.{History, commitments_of, policy_after, policy_of, posted, rows_of, withdraws}
use Rattle.fw_snapshot.specs.Judging.{IsLegal}
use Rattle.fw_snapshot.proofs.AddingFacts.{commitments_of_more}
use Rattle.fw_snapshot.proofs.CountingFacts.{rows_stay}
use Rattle.fw_snapshot.proofs.EntryFacts.{policy_of_more}
use Rattle.fw_terms.specs.Policy.{PolicyValue}
use Rattle.fw_what_if.specs.Under.{IsUnder}

-- the entries of the one are those of the other, and the entry
entries : (h under : History) (p : PolicyValue) → (is : IsUnder h p under) → under.entries ≡ h.entries ++ is.entry ∷ []
entries h under p is = ap (λ (u : History). u.entries) is.history

pub has_policy : (h under : History) (p : PolicyValue) → IsUnder h p under → policy_of under.entries ≡ Some p
has_policy h under p is =
    ap policy_of (entries h under p is)
    ∙ policy_of_more h.entries is.entry
    ∙ ap (policy_after (policy_of h.entries)) is.sets

pub has_rows : (h under : History) (p : PolicyValue) → IsUnder h p under → rows_of under.entries ≡ rows_of h.entries
has_rows h under p is =
    ap rows_of (entries h under p is)
    ∙ rows_stay h.entries is.entry (λ seq. ap (withdraws seq) is.sets) (ap posted is.sets)

pub has_commitments : (h under : History) (p : PolicyValue) → IsLegal h.entries → IsUnder h p under → commitments_of under.entries ≡ commitments_of h.entries
has_commitments h under p legal is =
    ap commitments_of (entries h under p is)
    ∙ commitments_of_more h.entries is.entry legal is.accepted
    ∙ ap (commitments_after (commitments_of h.entries)) is.sets

pub keeps_policy : (h under : History) (p : PolicyValue) → policy_of h.entries ≡ Some p → IsUnder h p under → policy_of under.entries ≡ policy_of h.entries
keeps_policy h under p stored is = has_policy h under p is ∙ sym stored
