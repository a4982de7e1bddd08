-- Lemmas on what single commands are answered.
use Rattle.std.proofs.Common.{◌≡◌, ◌∙◌, ◌<◌, ℕ, zero, suc, true, false, List, length, Some, None, Ok, Err, refl, sym, ap, subst, inl, inr, ◌⊎◌, arith}
use Rattle.std.proofs.Math.Dec.{eqb-suc-zero}
use Rattle.std.proofs.lemmas.Bool.{le-ltb, lt-ltb}
use Rattle.std.specs.Borrow.{Bor}
use Rattle.std.specs.Option.{is_some, option_copied}
use Rattle.fw_terms.specs.Policy.{PolicyValue}
use Rattle.fw_sums.specs.Limits.{IsRange}
use Rattle.fw_sums.specs.RangeLines.{AreRangeLines}
use Rattle.fw_query.specs.Refusals.{AreRefused}
use Rattle.fw_rows.specs.Rows.{RowsRead}
use Rattle.fw_script.specs.declared.commands.EntryKind.{EntryKind}
use Rattle.fw_entry.specs.Entry.{CommandValue, EntryValue, is_origin}
use Rattle.fw_entry.specs.Refusals.{IsRefused}
use Rattle.fw_entry.specs.Spelling as spelling
use Rattle.fw_entry.specs.Spelling.{most_entry_bytes, IsEntry, IsRowCount}
use Rattle.fw_entry.specs.declared.fault.EntryFault.{EntryFault}
use Rattle.fw_entry.specs.declared.fault.EntryFault.TheVariants as entry_fault
use Rattle.fw_snapshot.specs.History.{History, rows_of, commitments_of}
use Rattle.fw_serve.specs.Contents.{ContentReads}
use Rattle.fw_serve.specs.Answers.{Entered, SequenceReads, parts_entry, entry_made, Makes, Submits, Takes, RanOut}
use Rattle.fw_serve.specs.Standings.{Standing}
use Rattle.std.specs.Prelude.{Vec, Option, Result, MatchOption, IfOk, IfErr, unwrap_or, ◌==◌, if◌then◌else◌}
use Rattle.std.proofs.lemmas.Slice.Zip.{AllZip-long}
use Rattle.fw_charge.specs.Charge.{Charge}
use Rattle.fw_script.specs.Words.{IsSequence}
use Rattle.std.specs.declared.alloc.Global.{Global}
use Rattle.fw_amortise.specs.LineValue.{LineValue}
use Rattle.fw_query.specs.Texts.{lines_text}
use Rattle.fw_query.specs.declared.fault.QueryFault.{QueryFault}
use Rattle.fw_serve.specs.Replies.{query_fault_line, counted, policy_count, entry_fault_line}
use Rattle.fw_serve.specs.Questions.{ReportAnswer, LinesAnswer, IsReportText, IsLinesText, AreOutcome, report_answer, lines_answer}

-- a report that was written
pub ReportAnswer-text : (held : History) (key : List ℕ) (from to : ℕ) (text : Vec ℕ Global) → IsReportText held key from to (Ok text)
    → ReportAnswer held key from to (counted text.items)
unfolding IsReportText report_answer
ReportAnswer-text held key from to text given = record { outcome = Ok given.0; is_outcome = given.1; says = ap counted given.2 }

-- a report that wasn't
pub ReportAnswer-none : (held : History) (key : List ℕ) (from to : ℕ) (why : QueryFault) → IsReportText held key from to (Err why)
    → ReportAnswer held key from to (query_fault_line why)
unfolding IsReportText report_answer
ReportAnswer-none held key from to why given = record { outcome = Err why; is_outcome = given; says = refl }

-- lines that were written
pub LinesAnswer-text : (held : History) (from to : ℕ) (text : Vec ℕ Global) → IsLinesText held from to (Ok text) → LinesAnswer held from to (counted text.items)
unfolding IsLinesText lines_answer
LinesAnswer-text held from to text given = record { outcome = Ok given.0; are_outcome = given.1; says = ap counted given.2 }

-- lines that weren't
pub LinesAnswer-none : (held : History) (from to : ℕ) (why : QueryFault) → IsLinesText held from to (Err why) → LinesAnswer held from to (query_fault_line why)
unfolding IsLinesText lines_answer
LinesAnswer-none held from to why given = record { outcome = Err why; are_outcome = given; says = refl }

-- what lines came to
pub IsLinesText-of : (held : History) (from to : ℕ) (r : Result (Vec ℕ Global) QueryFault) → IfOk r (λ _. IsRange from to)
    → IfOk r (λ text. (lines : List LineValue) × AreRangeLines (commitments_of held.entries) (rows_of held.entries) from to lines × (text.items ≡ lines_text lines))
    → IfErr r (AreRefused from to) → IsLinesText held from to r
unfolding IsLinesText AreOutcome
IsLinesText-of held from to (Ok text) range given refused = (given.0, (range, given.1), given.2)
IsLinesText-of held from to (Err why) range given refused = refused

-- whether there is a policy, as a number
pub policy_counted : (policy : Option (Bor PolicyValue)) → (if is_some policy then 1 else 0) ≡ policy_count (option_copied policy)
policy_counted None = refl
policy_counted (Some policy) = refl

-- ---- the number of an entry

-- a word that is no number is taken as 0
pub reads_number : (word : List ℕ) (read : Option ℕ) → MatchOption read ((number : ℕ) → ¬ IsSequence word number) (IsSequence word) → SequenceReads word (unwrap_or read 0)
reads_number word None h = h
reads_number word (Some zero) h = absurd (omega (arith, h.positive))
reads_number word (Some (suc n)) h = h

-- a post that reads as rows has as many as a post may have
pub IsRowCount-read : (currency text : List ℕ) (rows : List Charge) → RowsRead currency text (Ok rows) → IsRowCount rows
unfolding RowsRead
IsRowCount-read currency text rows read =
    let long = AllZip-long _ _ rows read.3 in
    record { some = rw long read.1; few = rw long read.2 }

-- ---- parts that make an entry, or none

-- a number that isn't 0
is_some_number : (n : ℕ) → 0 < n → (n == 0) ≡ false
is_some_number zero h = absurd (omega (arith, h))
is_some_number (suc n) h = eqb-suc-zero n

-- an entry keeps its limits, so its parts make it
pub made_is : (e : EntryValue) → IsEntry e → entry_made e.origin e.seq e.command ≡ Ok e
unfolding entry_made
made_is e keeps =
    let named : is_origin e.origin ≡ true = keeps.origin in
    rw (named, is_some_number e.seq keeps.some_seq, le-ltb most_entry_bytes (length (spelling.entry e)) keeps.size) refl

-- what an entry that was made comes to
pub Takes-submitted : (before : Standing) (e : EntryValue) (text : List ℕ) (after : Standing) → IsEntry e → Submits before e text after ⊎ RanOut before text after
    → Takes before e.origin e.seq (Ok e.command) text after ⊎ RanOut before text after
unfolding Takes Makes
Takes-submitted before e text after keeps (inl given) = inl (rw (made_is e keeps) (keeps, given))
Takes-submitted before e text after keeps (inr given) = inr given

-- an entry that was made of parts is the one that these make
pub made_of_parts : (origin : List ℕ) (number : ℕ) (command : CommandValue) (this e : EntryValue) → this ≡ parts_entry origin number command → IsEntry this → e ≡ this
    → entry_made origin number command ≡ Ok e
made_of_parts origin number command this e parts keeps same =
    let own : entry_made origin number command ≡ Ok (parts_entry origin number command) =
    subst (λ (x : EntryValue). entry_made x.origin x.seq x.command ≡ Ok x) parts (made_is this keeps) in
    own ∙ ap Ok (sym (same ∙ parts))

-- there is no entry for a reason
pub Takes-refused : (before : Standing) (origin : List ℕ) (seq : ℕ) (command : CommandValue) (why : EntryFault) → IsRefused origin seq command why
    → Takes before origin seq (Ok command) (entry_fault_line why) before ⊎ RanOut before (entry_fault_line why) before
unfolding Takes Makes entry_made entry_fault_line
Takes-refused before origin seq command entry_fault.Origin refused =
    let made : entry_made origin seq command ≡ Err entry_fault.Origin = rw refused refl in
    inl (rw made (refl, refl))
Takes-refused before origin seq command entry_fault.Seq refused =
    let made : entry_made origin seq command ≡ Err entry_fault.Seq = rw (refused.0, refused.1) refl in
    inl (rw made (refl, refl))
Takes-refused before origin seq command entry_fault.TooLarge refused =
    let made : entry_made origin seq command ≡ Err entry_fault.TooLarge =
    rw (refused.0, is_some_number seq refused.1, lt-ltb most_entry_bytes (length (spelling.entry (parts_entry origin seq command))) refused.2) refl in
    inl (rw made (refl, refl))
Takes-refused before origin seq command entry_fault.NoMemory refused = inr (refl, refl)

-- a content that can't be read
pub Entered-refused : (before : Standing) (k : EntryKind) (origin sequence content : List ℕ) (number : ℕ) (line : List ℕ)
    → SequenceReads sequence number → ContentReads k before.history.currency content (Err line) → Entered before k origin sequence content line before
unfolding Takes
Entered-refused before k origin sequence content number line numbers reads =
    record { reading = Err line; reads = reads; number = number; numbers = numbers; taken = inl (refl, refl) }
