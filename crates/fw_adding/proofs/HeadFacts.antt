-- The commitments that entries brought, by their heads.
use Rattle.std.proofs.Common.{◌≡◌, ◌++◌, ℕ, zero, suc, List, [], ◌∷◌, Some, map, slice_get, refl, arith}
use Rattle.std.specs.List.{Contains}
use Rattle.std.proofs.lemmas.List.Elements.{Contains-append_left, Contains-append_right}
use Rattle.fw_entry.specs.Entry.{CommandValue, EntryValue}
use Rattle.fw_entry.specs.Entry.CommandValue.{post, commit, set_policy, withdraw, add_purchase}
use Rattle.fw_snapshot.specs.Heads.{ContentValue, HeadValue, content_of, head_of}
use Rattle.fw_snapshot.specs.Heads.ContentValue.{posted_rows, committed_to, policy_set, post_withdrawn, purchase_added}
use Rattle.fw_snapshot.specs.History.{committed, committed_of}
use Rattle.fw_terms.specs.Commitment.{CommitmentValue}

-- a command whose content is a commitment brings it
brings : (command : CommandValue) (c : CommitmentValue) → content_of command ≡ committed_to c → Contains (committed command) c
brings (post rows) c is = absurd (cc)
brings (commit d) c is = let same : d ≡ c = cc in (0, omega arith, same)
brings (set_policy p) c is = absurd (cc)
brings (withdraw n) c is = absurd (cc)
brings (add_purchase a) c is = absurd (cc)

-- the commitment of a head was committed to
pub committed_at : (entries : List EntryValue) (place : ℕ) (h : HeadValue) (c : CommitmentValue) → slice_get (map head_of entries) place ≡ Some h → h.content ≡ committed_to c
    → Contains (committed_of entries) c
unfolding committed_of
committed_at [] place h c there is = absurd (cc)
committed_at (e ∷ entries) zero h c there is =
    let first : head_of e ≡ h = cc in
    let own : content_of e.command ≡ committed_to c = cc in
    Contains-append_left (committed e.command) (committed_of entries) c (brings e.command c own)
committed_at (e ∷ entries) (suc place) h c there is =
    let later : slice_get (map head_of entries) place ≡ Some h = cc in
    Contains-append_right (committed e.command) (committed_of entries) c (committed_at entries place h c later is)
