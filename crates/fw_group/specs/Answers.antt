-- What is answered to the entries of a group.
use Rattle.std.specs.Prelude.{◌≡◌, ⊤, ℕ, ◌+◌, ◌≤◌, List, [], ◌∷◌, ◌++◌, length, map, Some, slice_get, Result, Ok, Err}
use Rattle.std.specs.List.{count_by}
use Rattle.std.specs.declared.vec.Vec.{Vec}
use Rattle.std.specs.declared.alloc.Global.{Global}
use Rattle.fw_entry.specs.Entry.{EntryValue}
use Rattle.fw_snapshot.specs.Judging.{judged}
use Rattle.fw_snapshot.specs.Verdicts.{is_accept, taken, verdicts_on, accepted_of}
use Rattle.fw_snapshot.specs.declared.verdict.Verdict.{Verdict}
use Rattle.fw_snapshot.specs.declared.verdict.Verdict.TheVariants as verdict
use Rattle.fw_recover.specs.declared.fault.StoreFault.{StoreFault}
use Rattle.fw_recover.specs.declared.fault.StoreFault.TheVariants.{NoHouse, Corrupt, Device, Failed, Generations, TooLarge, Exists, OldSide, NoMemory}
use Rattle.fw_group.specs.declared.answer.Answer.{Answer}
use Rattle.fw_group.specs.declared.answer.Answer.TheVariants as answer
use Rattle.fw_group.specs.declared.inbox.Item.{Item}
use Rattle.fw_group.specs.Items.{entries_of}

-- the answer that tells a verdict on the first entries of a front, so many as are said: an accepted entry stands right behind them
abbrev pub told : {F : Type 0} → F → ℕ → Verdict → Answer F
told front at verdict.Accept = answer.Accepted (record { front = front; number = at + 1 })
told front at (verdict.Already last) = answer.Already last (record { front = front; at = at })
told front at (verdict.Gap expected) = answer.Gap expected (record { front = front; at = at })
told front at (verdict.Refused why) = answer.Refused why (record { front = front; at = at })

-- the answers to entries of one group: each is judged after these entries and the accepted ones before it
unfoldable pub answers_on : {F : Type 0} → F → List EntryValue → List EntryValue → List (Answer F)
answers_on front before [] = []
answers_on front before (e ∷ es) = told front (length before) (judged before e) ∷ answers_on front (before ++ taken before e) es

-- the faults by which a group is answered: the device failed in the call, or before it, or memory ran out
abbrev pub IsGroupFault : StoreFault → Type 0
IsGroupFault NoHouse = ⊥
IsGroupFault (Corrupt side at) = ⊥
IsGroupFault Device = ⊤
IsGroupFault Failed = ⊤
IsGroupFault Generations = ⊥
IsGroupFault TooLarge = ⊥
IsGroupFault Exists = ⊥
IsGroupFault OldSide = ⊥
IsGroupFault NoMemory = ⊤

-- the answer to each entry of a group by such a fault
abbrev pub refusal : {F : Type 0} → StoreFault → Answer F
refusal NoHouse = answer.NoMemory
refusal (Corrupt side at) = answer.NoMemory
refusal Device = answer.Unknown
refusal Failed = answer.Closed
refusal Generations = answer.NoMemory
refusal TooLarge = answer.NoMemory
refusal Exists = answer.NoMemory
refusal OldSide = answer.NoMemory
refusal NoMemory = answer.NoMemory

-- how many verdicts accept their entry
abbrev pub accepted_in : List Verdict → ℕ
accepted_in verdicts = count_by is_accept verdicts

-- the same answer for each item
abbrev pub for_each : {F : Type 0} → Answer F → List Item → List (Answer F)
for_each a items = map (λ item. a) items

module _ {F : Type 0} (list : F → List EntryValue) where
  -- what a store answered for the items: a verdict on each, of which the front has the accepted entries, or a fault
  abbrev pub IsOutcome : List Item → F → Result (Vec Verdict Global) StoreFault → Type 0
  IsOutcome items front (Ok v) = (length v.items ≡ length items) × (accepted_in v.items ≤ length (list front))
  IsOutcome items front (Err fault) = IsGroupFault fault

  -- These are the answers to the items, by what the store answered: where the verdicts are those after some entries, and the front
  -- is these with the accepted ones, each item is answered after them and the accepted ones before it.
  abbrev pub AnswersAre : List Item → Result (Vec Verdict Global) StoreFault → F → List (Answer F) → Type 0
  AnswersAre items (Ok v) front answers =
      (before : List EntryValue) → v.items ≡ verdicts_on before (entries_of items) → list front ≡ before ++ accepted_of before (entries_of items)
      → answers ≡ answers_on front before (entries_of items)
  AnswersAre items (Err fault) front answers = answers ≡ for_each (refusal fault) items

  -- this is the answer to the item at a place
  abbrev pub AnswerIs : List Item → Result (Vec Verdict Global) StoreFault → F → ℕ → Answer F → Type 0
  AnswerIs items (Ok v) front place a =
      (before : List EntryValue) → v.items ≡ verdicts_on before (entries_of items) → list front ≡ before ++ accepted_of before (entries_of items)
      → slice_get (answers_on front before (entries_of items)) place ≡ Some a
  AnswerIs items (Err fault) front place a = a ≡ refusal fault
