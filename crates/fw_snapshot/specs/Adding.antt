-- What a command does to commitments: one more stands behind the others, or one of them has a purchase more.
use Rattle.std.specs.Prelude.{◌≡◌, ⊤, false, List, [], ◌∷◌, ◌++◌, map, if◌then◌else◌}
use Rattle.std.specs.List.{list_any}
use Rattle.std.specs.Str.{bytes_eq}
use Rattle.fw_terms.specs.Commitment.{CommitmentValue, with_purchase}
use Rattle.fw_terms.specs.Added.{AddedValue}
use Rattle.fw_entry.specs.Entry.{CommandValue}
use Rattle.fw_entry.specs.Entry.CommandValue.{post, commit, set_policy, withdraw, add_purchase}
use Rattle.fw_snapshot.specs.Judging.{refuses}

-- a commitment with this purchase more, where it is the one that is meant
abbrev pub with_added_purchase : AddedValue → CommitmentValue → CommitmentValue
with_added_purchase a c = if bytes_eq a.id c.id then with_purchase c a.purchase else c

-- the commitments after a command
abbrev pub commitments_after : List CommitmentValue → CommandValue → List CommitmentValue
commitments_after before (post rows) = before
commitments_after before (commit c) = before ++ c ∷ []
commitments_after before (set_policy p) = before
commitments_after before (withdraw n) = before
commitments_after before (add_purchase a) = map (with_added_purchase a) before

-- none of the commitments refuses what a command adds
abbrev pub NoneRefuses : List CommitmentValue → CommandValue → Type 0
NoneRefuses before (post rows) = ⊤
NoneRefuses before (commit c) = ⊤
NoneRefuses before (set_policy p) = ⊤
NoneRefuses before (withdraw n) = ⊤
NoneRefuses before (add_purchase a) = list_any (refuses a) before ≡ false
