-- Which policy applies.
use Rattle.std.specs.Prelude.{◌≡◌, ◌+◌, ⊤, ℕ, Bool, false, true, List, [], ◌∷◌, Option, Some, None, if◌then◌else◌, slice_get}
use Rattle.fw_entry.specs.Entry.{CommandValue, EntryValue}
use Rattle.fw_entry.specs.Entry.CommandValue.{post, commit, set_policy, withdraw, add_purchase}
use Rattle.fw_snapshot.specs.Heads.{ContentValue}
use Rattle.fw_snapshot.specs.Heads.ContentValue.{posted_rows, committed_to, policy_set, post_withdrawn, purchase_added}
use Rattle.fw_terms.specs.Policy.{PolicyValue}

-- whether a command sets a policy
abbrev pub sets_policy : CommandValue → Bool
sets_policy (post rows) = false
sets_policy (commit c) = false
sets_policy (set_policy p) = true
sets_policy (withdraw n) = false
sets_policy (add_purchase a) = false

-- whether what is kept of a command is a policy
abbrev pub is_policy : ContentValue → Bool
is_policy (posted_rows n) = false
is_policy (committed_to c) = false
is_policy (policy_set p) = true
is_policy (post_withdrawn n) = false
is_policy (purchase_added a) = false

-- the place of the last of these entries that sets a policy, where so many come before them; or the one that was found before them
unfoldable pub place_after : ℕ → Option ℕ → List EntryValue → Option ℕ
place_after count found [] = found
place_after count found (e ∷ es) = place_after (count + 1) (if sets_policy e.command then Some count else found) es

-- the place of the last entry that sets a policy, counted from 0
unfoldable pub policy_place : List EntryValue → Option ℕ
policy_place entries = place_after 0 None entries

-- the entry at this place sets this policy; or there is neither
abbrev pub IsSetAt : List EntryValue → Option ℕ → Option PolicyValue → Type 0
IsSetAt entries None None = ⊤
IsSetAt entries None (Some p) = ⊥
IsSetAt entries (Some place) None = ⊥
IsSetAt entries (Some place) (Some p) = (e : EntryValue) × (slice_get entries place ≡ Some e) × (e.command ≡ set_policy p)
