-- Whether an entry goes with those that were accepted before it.
use Rattle.std.specs.Prelude.{◌≡◌, ◌+◌, ⊤, ◌&&◌, not, ◌==◌, ℕ, Bool, false, true, List, [], ◌∷◌, ◌++◌, length, nat_lt, nat_le, Option, Some, None, if◌then◌else◌}
use Rattle.std.specs.Str.{bytes_eq}
use Rattle.std.specs.List.{list_any}
use Rattle.std.specs.Option.{option_map_or}
use Rattle.fw_charge.specs.Charge.{Charge}
use Rattle.fw_terms.specs.Commitment.{CommitmentValue, takes_purchase}
use Rattle.fw_terms.specs.Added.{AddedValue}
use Rattle.fw_entry.specs.Entry.{CommandValue, EntryValue}
use Rattle.fw_entry.specs.Entry.CommandValue.{post, commit, set_policy, withdraw, add_purchase}
use Rattle.fw_snapshot.specs.History.{is_withdrawn, rows_posted, rows_of, committed_of, commitments_of, entries_from}
use Rattle.fw_snapshot.specs.declared.verdict.Conflict.{Conflict}
use Rattle.fw_snapshot.specs.declared.verdict.Conflict.TheVariants as conflict
use Rattle.fw_snapshot.specs.declared.verdict.Verdict.{Verdict}
use Rattle.fw_snapshot.specs.declared.verdict.Verdict.TheVariants as verdict

-- the most rows of a warehouse
abbrev pub most_rows : ℕ
most_rows = 4194304

-- the most commitments of a warehouse
abbrev pub most_commitments : ℕ
most_commitments = 256

-- whether a row carries this id of a commitment
abbrev pub has_id : List ℕ → Charge → Bool
has_id id row = option_map_or (λ d. bytes_eq id d.id) row.discount false

-- whether one of the rows carries the id
unfoldable pub carries : List ℕ → List Charge → Bool
carries id rows = list_any (has_id id) rows

-- whether a commitment has the id
unfoldable pub is_registered : List ℕ → List CommitmentValue → Bool
is_registered id commitments = list_any (λ c. bytes_eq id c.id) commitments

-- whether a row carries the id of one of the commitments
abbrev pub has_registered_id : List CommitmentValue → Charge → Bool
has_registered_id commitments row = option_map_or (λ d. is_registered d.id commitments) row.discount false

-- whether one of the rows carries the id of one of the commitments
unfoldable pub carries_any : List Charge → List CommitmentValue → Bool
carries_any rows commitments = list_any (has_registered_id commitments) rows

-- why rows can't follow these posted rows and commitments: there would be too many, or one carries the id of a commitment
unfoldable pub rows_conflict : List Charge → List CommitmentValue → List Charge → Option Conflict
rows_conflict posted commitments more =
    if nat_lt most_rows (length posted + length more) then Some conflict.Full
    else (if carries_any more commitments then Some conflict.OwnCommitment else None)

-- why a commitment can't follow these rows that count and commitments: its id is registered, or carried by a row, or there would be too many
unfoldable pub commitment_conflict : List Charge → List CommitmentValue → CommitmentValue → Option Conflict
commitment_conflict rows commitments more =
    if is_registered more.id commitments then Some conflict.DoubleId
    else (if carries more.id rows then Some conflict.IdInUse
    else (if nat_le most_commitments (length commitments) then Some conflict.TooManyCommitments else None))

-- whether this is the commitment that is meant, and with the purchase it would have more than 64, or they would cost more than 10^17 nanos
abbrev pub refuses : AddedValue → CommitmentValue → Bool
refuses a c = bytes_eq a.id c.id && not (takes_purchase c a.purchase)

-- why a purchase can't be added to one of these commitments: none has the id, or the one that has it can't have this purchase too
unfoldable pub purchase_conflict : List CommitmentValue → AddedValue → Option Conflict
purchase_conflict commitments more =
    if is_registered more.id commitments then (if list_any (refuses more) commitments then Some conflict.PurchaseLimit else None)
    else Some conflict.NoSuchCommitment

-- whether a command posts rows
abbrev pub is_post : CommandValue → Bool
is_post (post rows) = true
is_post (commit c) = false
is_post (set_policy p) = false
is_post (withdraw n) = false
is_post (add_purchase a) = false

-- whether one of these entries is the post of this sender and number
unfoldable pub has_post : List EntryValue → List ℕ → ℕ → Bool
has_post entries origin seq = list_any (λ e. bytes_eq origin e.origin && (e.seq == seq && is_post e.command)) entries

-- why the post of this number can't be withdrawn by this sender, if it can't: it has no such post, or has withdrawn it
unfoldable pub withdrawal_conflict : List EntryValue → List ℕ → ℕ → Option Conflict
withdrawal_conflict entries origin seq =
    if has_post entries origin seq then (if is_withdrawn entries origin seq then Some conflict.Withdrawn else None)
    else Some conflict.NoSuchPost

-- why what a command of this sender brings can't follow these entries, if it can't; a policy always can. What is added changes neither the ids of commitments nor
-- their number, so rows and commitments are judged on what was committed to
unfoldable pub command_conflict : List EntryValue → List ℕ → CommandValue → Option Conflict
command_conflict entries origin (post more) = rows_conflict (rows_posted entries) (committed_of entries) more
command_conflict entries origin (commit more) = commitment_conflict (rows_of entries) (committed_of entries) more
command_conflict entries origin (set_policy p) = None
command_conflict entries origin (withdraw seq) = withdrawal_conflict entries origin seq
command_conflict entries origin (add_purchase more) = purchase_conflict (commitments_of entries) more

abbrev pub verdict_on : Option Conflict → Verdict
verdict_on None = verdict.Accept
verdict_on (Some why) = verdict.Refused why

-- the verdict on an entry after these: its number is looked at first. It is the next of its origin, or one that was accepted before, or it leaves
-- a gap
unfoldable pub judged : List EntryValue → EntryValue → Verdict
judged entries e =
    if nat_le e.seq (entries_from e.origin entries) then verdict.Already (entries_from e.origin entries)
    else (if nat_lt (entries_from e.origin entries + 1) e.seq then verdict.Gap (entries_from e.origin entries + 1)
    else verdict_on (command_conflict entries e.origin e.command))

-- each of these entries was accepted after those before it, and all of them after the ones that came first
unfoldable pub IsLegalAfter : List EntryValue → List EntryValue → Type 0
IsLegalAfter first [] = ⊤
IsLegalAfter first (e ∷ entries) = (judged first e ≡ verdict.Accept) × IsLegalAfter (first ++ e ∷ []) entries

-- each entry was accepted after those before it
abbrev pub IsLegal : List EntryValue → Type 0
IsLegal entries = IsLegalAfter [] entries
