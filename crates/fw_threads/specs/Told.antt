-- What an answer says, and what it adds to what its importer knows.
use Rattle.std.specs.Prelude.{◌≡◌, ◌⊎◌, ⊤, ℕ, ◌-◌, ◌<◌, ◌≤◌, List, length, take, get_or, Some, slice_get}
use Rattle.fw_entry.specs.Entry.{EntryValue}
use Rattle.fw_snapshot.specs.History.{History}
use Rattle.fw_snapshot.specs.Judging.{judged}
use Rattle.fw_snapshot.specs.declared.verdict.Verdict.{Verdict}
use Rattle.fw_snapshot.specs.declared.verdict.Verdict.TheVariants as verdict
use Rattle.fw_group.specs.declared.answer.Answer.{Answer}
use Rattle.fw_group.specs.declared.answer.Answer.TheVariants as answer
use Rattle.fw_group.specs.declared.answer.Seen.{Seen}
use Rattle.fw_group.specs.Laws.{Begins}
use Rattle.fw_threads.specs.Posts.{no_entry}

-- the verdict on the entry after the first entries of the front
abbrev pub IsVerdict : EntryValue → Verdict → Seen History → Type 0
IsVerdict e v seen = (judged (take seen.at seen.front.entries) e ≡ v) × (seen.at ≤ length seen.front.entries)

-- what an answer says of the entry: an accepted one stands in the front at its number, and else the verdict is that after the front's first entries
abbrev pub IsRight : EntryValue → Answer History → Type 0
IsRight e (answer.Accepted r) = (0 < r.number) × (slice_get r.front.entries (r.number - 1) ≡ Some e)
IsRight e (answer.Already last seen) = IsVerdict e (verdict.Already last) seen
IsRight e (answer.Gap expected seen) = IsVerdict e (verdict.Gap expected) seen
IsRight e (answer.Refused why seen) = IsVerdict e (verdict.Refused why) seen
IsRight e answer.Unknown = ⊤
IsRight e answer.NoMemory = ⊤
IsRight e answer.Closed = ⊤

-- one answer to each entry, which is right of it
abbrev pub AreRight : List EntryValue → List (Answer History) → Type 0
AreRight es answers = (length answers ≡ length es) × ((k : ℕ) (a : Answer History) → slice_get answers k ≡ Some a → IsRight (get_or es k no_entry) a)

-- the front begins with all that was known, the verdict was made on no less, and the front is what is known from now on
abbrev pub IsAfter : History → Seen History → History → Type 0
IsAfter old seen new = Begins old seen.front × (length old.entries ≤ seen.at) × (new ≡ seen.front)

-- The importer knew `old`, was answered so, and knows `new`: the front begins with each front that it was answered before, a receipt's number is
-- above the length of these, and the place of a verdict isn't below it.
abbrev pub Extends : History → Answer History → History → Type 0
Extends old (answer.Accepted r) new = Begins old r.front × (length old.entries < r.number) × (new ≡ r.front)
Extends old (answer.Already last seen) new = IsAfter old seen new
Extends old (answer.Gap expected seen) new = IsAfter old seen new
Extends old (answer.Refused why seen) new = IsAfter old seen new
Extends old answer.Unknown new = new ≡ old
Extends old answer.NoMemory new = new ≡ old
Extends old answer.Closed new = new ≡ old

-- one of the two begins the other, and the longer is known from now on
abbrev pub LearnsLonger : History → History → History → Type 0
LearnsLonger old front new = (Begins old front × (new ≡ front)) ⊎ (Begins front old × (new ≡ old))
