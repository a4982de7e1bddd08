-- Which answers speak of an entry that was judged.
use Rattle.std.proofs.Common.{◌≡◌, ◌∙◌, ◌||◌, ◌&&◌, ◌++◌, ℕ, List, Bool, true, false, get_or, Ok, Err, refl, ap, inl, inr}
use Rattle.std.specs.Prelude.{◌==◌, Result, decimal}
use Rattle.fw_amortise.specs.LineValue.{LineValue}
use Rattle.fw_commitment.specs.declared.fault.CommitmentFault.{CommitmentFault}
use Rattle.fw_commitment.specs.declared.fault.CommitmentFault.TheVariants as commitment_fault
use Rattle.fw_entry.specs.declared.fault.EntryFault.{EntryFault}
use Rattle.fw_entry.specs.declared.fault.EntryFault.TheVariants as entry_fault
use Rattle.fw_policy.specs.declared.fault.PolicyFault.{PolicyFault}
use Rattle.fw_policy.specs.declared.fault.PolicyFault.TheVariants as policy_fault
use Rattle.fw_query.specs.Reports.{EntryValue}
use Rattle.fw_query.specs.declared.fault.QueryFault.{QueryFault}
use Rattle.fw_query.specs.declared.fault.QueryFault.TheVariants as query_fault
use Rattle.fw_recover.specs.declared.fault.StoreFault.{StoreFault}
use Rattle.fw_recover.specs.declared.fault.StoreFault.TheVariants as store_fault
use Rattle.fw_rows.specs.FaultNames.{fault_name}
use Rattle.fw_rows.specs.declared.fault.RecordFault.{RecordFault}
use Rattle.fw_rows.specs.declared.fault.RecordFault.TheVariants as record_fault
use Rattle.fw_rows.specs.declared.fault.RowFault.{RowFault}
use Rattle.fw_rows.specs.declared.fault.RowFault.TheVariants as row_fault
use Rattle.fw_script.specs.declared.commands.EntryKind.{EntryKind}
use Rattle.fw_script.specs.declared.commands.EntryKind.TheVariants as kind
use Rattle.fw_snapshot.specs.History.{History}
use Rattle.fw_snapshot.specs.declared.verdict.Conflict.{Conflict}
use Rattle.fw_snapshot.specs.declared.verdict.Conflict.TheVariants as conflict
use Rattle.fw_snapshot.specs.declared.verdict.Verdict.{Verdict}
use Rattle.fw_snapshot.specs.declared.verdict.Verdict.TheVariants as verdict
use Rattle.fw_serve.specs.Contents.{ContentReads}
use Rattle.fw_serve.specs.Questions.{ReportAnswer, LinesAnswer, report_answer, lines_answer}
use Rattle.fw_serve.specs.Replies.{refused, detail, row_fault_line, commitment_fault_line, policy_fault_line, entry_fault_line, conflict_line, query_fault_line, store_line, store_fault_line, checkpointed_line, accepted_line, already_line, gap_line, verdict_line, counts_line, state_line, counted, no_memory_line, bad_command_line, bad_end_line}
use Rattle.fw_serve.specs.Runs.{IsHindered}

-- whether a text begins as the line of a verdict: with the `a` of `accepted` and `already`, the `g` of `gap`, or `refused J`
abbrev pub speaks : List ℕ → Bool
speaks text = (get_or text 0 0 == 97) || ((get_or text 0 0 == 103) || ((get_or text 0 0 == 114) && (get_or text 8 0 == 74)))

-- ---- the lines of verdicts do
pub conflict_speaks : (why : Conflict) → speaks (conflict_line why) ≡ true
unfolding conflict_line
conflict_speaks conflict.Full = refl
conflict_speaks conflict.DoubleId = refl
conflict_speaks conflict.IdInUse = refl
conflict_speaks conflict.OwnCommitment = refl
conflict_speaks conflict.TooManyCommitments = refl
conflict_speaks conflict.NoSuchPost = refl
conflict_speaks conflict.Withdrawn = refl
conflict_speaks conflict.NoSuchCommitment = refl
conflict_speaks conflict.PurchaseLimit = refl

pub verdict_speaks : (count : ℕ) (v : Verdict) → speaks (verdict_line count v) ≡ true
unfolding verdict_line accepted_line already_line gap_line
verdict_speaks count verdict.Accept = refl
verdict_speaks count (verdict.Already last) = refl
verdict_speaks count (verdict.Gap expected) = refl
verdict_speaks count (verdict.Refused why) = conflict_speaks why

-- ---- no other answer does
record_silent : (number : ℕ) (why : RecordFault) → speaks (refused (fault_name why ++ detail (decimal number))) ≡ false
unfolding fault_name
record_silent number record_fault.Fields = refl
record_silent number record_fault.NotUtf8 = refl
record_silent number record_fault.Category = refl
record_silent number record_fault.Class = refl
record_silent number record_fault.Cost = refl
record_silent number record_fault.Currency = refl
record_silent number record_fault.Time = refl
record_silent number record_fault.PeriodOrder = refl
record_silent number record_fault.Commitment = refl
record_silent number record_fault.Status = refl
record_silent number record_fault.Quantity = refl
record_silent number record_fault.TagTwice = refl
record_silent number record_fault.BadTags = refl
record_silent number record_fault.TooLong = refl

row_silent : (f : RowFault) → speaks (row_fault_line f) ≡ false
unfolding row_fault_line no_memory_line
row_silent (row_fault.MissingColumn column) = refl
row_silent (row_fault.DoubleColumn column) = refl
row_silent (row_fault.Record number why) = record_silent number why
row_silent row_fault.NoRows = refl
row_silent row_fault.TooManyRows = refl
row_silent row_fault.NoMemory = refl

commitment_silent : (f : CommitmentFault) → speaks (commitment_fault_line f) ≡ false
unfolding commitment_fault_line no_memory_line
commitment_silent commitment_fault.Syntax = refl
commitment_silent (commitment_fault.Field field) = refl
commitment_silent (commitment_fault.Limit field) = refl
commitment_silent commitment_fault.NoMemory = refl

policy_silent : (f : PolicyFault) → speaks (policy_fault_line f) ≡ false
unfolding policy_fault_line no_memory_line
policy_silent policy_fault.Syntax = refl
policy_silent (policy_fault.Field field) = refl
policy_silent (policy_fault.Limit field) = refl
policy_silent policy_fault.DoubleFrom = refl
policy_silent policy_fault.TargetIsFrom = refl
policy_silent policy_fault.NoMemory = refl

pub bad_command_silent : speaks bad_command_line ≡ false
unfolding bad_command_line
bad_command_silent = refl

pub content_silent : (k : EntryKind) (currency content line : List ℕ) → ContentReads k currency content (Err line) → speaks line ≡ false
unfolding ContentReads
content_silent kind.Post currency content line reads = ap speaks reads.1 ∙ row_silent reads.0
content_silent kind.Commit currency content line reads = ap speaks reads.1 ∙ commitment_silent reads.0
content_silent kind.Policy currency content line reads = ap speaks reads.1 ∙ policy_silent reads.0
content_silent kind.AddPurchase currency content line reads = ap speaks reads.1 ∙ commitment_silent reads.0
content_silent kind.Withdraw currency content line reads = ap speaks reads.0 ∙ bad_command_silent

pub entry_silent : (f : EntryFault) → speaks (entry_fault_line f) ≡ false
unfolding entry_fault_line no_memory_line
entry_silent entry_fault.Origin = refl
entry_silent entry_fault.Seq = refl
entry_silent entry_fault.TooLarge = refl
entry_silent entry_fault.NoMemory = refl

store_silent : (f : StoreFault) → speaks (store_fault_line f) ≡ false
unfolding store_fault_line store_line no_memory_line
store_silent store_fault.NoHouse = refl
store_silent (store_fault.Corrupt side place) = refl
store_silent store_fault.Device = refl
store_silent store_fault.Failed = refl
store_silent store_fault.Generations = refl
store_silent store_fault.TooLarge = refl
store_silent store_fault.Exists = refl
store_silent store_fault.OldSide = refl
store_silent store_fault.NoMemory = refl

memory_silent : speaks no_memory_line ≡ false
unfolding no_memory_line
memory_silent = refl

pub hindered_silent : (text : List ℕ) → IsHindered text → speaks text ≡ false
hindered_silent text (inl is) = ap speaks is ∙ memory_silent
hindered_silent text (inr given) = ap speaks given.1 ∙ store_silent given.0

query_silent : (f : QueryFault) → speaks (query_fault_line f) ≡ false
unfolding query_fault_line no_memory_line
query_silent query_fault.Range = refl
query_silent (query_fault.TotalTooLarge group) = refl
query_silent query_fault.NoMemory = refl

counted_silent : (text : List ℕ) → speaks (counted text) ≡ false
unfolding counted
counted_silent text = refl

report_outcome : (r : Result (List EntryValue) QueryFault) → speaks (report_answer r) ≡ false
unfolding report_answer
report_outcome (Ok entries) = counted_silent _
report_outcome (Err f) = query_silent f

pub report_silent : (held : History) (key : List ℕ) (from to : ℕ) (text : List ℕ) → ReportAnswer held key from to text → speaks text ≡ false
report_silent held key from to text answer = ap speaks answer.says ∙ report_outcome answer.outcome

lines_outcome : (r : Result (List LineValue) QueryFault) → speaks (lines_answer r) ≡ false
unfolding lines_answer
lines_outcome (Ok lines) = counted_silent _
lines_outcome (Err f) = query_silent f

pub lines_silent : (held : History) (from to : ℕ) (text : List ℕ) → LinesAnswer held from to text → speaks text ≡ false
lines_silent held from to text answer = ap speaks answer.says ∙ lines_outcome answer.outcome

pub state_silent : (held : History) → speaks (state_line held) ≡ false
unfolding state_line counts_line
state_silent held = refl

pub checkpointed_silent : speaks checkpointed_line ≡ false
unfolding checkpointed_line
checkpointed_silent = refl

pub bad_end_silent : speaks bad_end_line ≡ false
unfolding bad_end_line
bad_end_silent = refl
