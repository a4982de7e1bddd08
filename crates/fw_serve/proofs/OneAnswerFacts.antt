-- A command has one answer.
use Rattle.std.proofs.Common.{◌≡◌, ◌≢◌, ◌⊎◌, ◌∙◌, ◌+◌, ◌∷◌, [], ℕ, zero, suc, List, length, Ok, Err, refl, sym, ap, subst, inl, inr}
use Rattle.std.specs.Prelude.{Result}
use Rattle.std.specs.Str.Parse.{digits_value}
use Rattle.std.proofs.lemmas.List.Elements.{All-head, All-tail}
use Rattle.fw_amortise.specs.LineValue.{LineValue}
use Rattle.fw_charge.specs.Charge.{Charge}
use Rattle.fw_commitment.specs.Added.{PurchaseReads}
use Rattle.fw_commitment.specs.Reading.{CommitmentReads}
use Rattle.fw_commitment.specs.declared.fault.CommitmentFault.{CommitmentFault}
use Rattle.fw_commitment.specs.declared.fault.CommitmentFault.TheVariants as commitment_fault
use Rattle.fw_commitment.proofs.AddedFacts.{added-one-reading}
use Rattle.fw_commitment.proofs.OneReading.{text-one-reading}
use Rattle.fw_entry.specs.Entry.{CommandValue, EntryValue}
use Rattle.fw_entry.specs.Entry.CommandValue.{post, commit, set_policy, withdraw, add_purchase}
use Rattle.fw_entry.specs.declared.fault.EntryFault.{EntryFault}
use Rattle.fw_policy.specs.Policy.{PolicyReads}
use Rattle.fw_policy.specs.declared.fault.PolicyFault.{PolicyFault}
use Rattle.fw_policy.specs.declared.fault.PolicyFault.TheVariants as policy_fault
use Rattle.fw_policy.proofs.TextFacts as policy_texts
use Rattle.fw_query.specs.OneAnswer.{IsAnswer, IsSameAnswer}
use Rattle.fw_query.specs.Reports as reports
use Rattle.fw_query.specs.Texts.{lines_text, report_text}
use Rattle.fw_query.specs.declared.fault.QueryFault.{QueryFault}
use Rattle.fw_query.specs.declared.fault.QueryFault.TheVariants as query_fault
use Rattle.fw_query.proofs.OneAnswer.{answer_same, lines_of_same}
use Rattle.fw_recover.specs.declared.fault.StoreFault.TheVariants as store_fault
use Rattle.fw_rows.specs.Rows.{RowsRead}
use Rattle.fw_rows.specs.declared.fault.RowFault.{RowFault}
use Rattle.fw_rows.specs.declared.fault.RowFault.TheVariants as row_fault
use Rattle.fw_rows.proofs.OneReading as row_texts
use Rattle.fw_script.specs.Plain.{PlainCommand, entry, report, lines, state, checkpoint, bad_command, bad_end}
use Rattle.fw_script.specs.declared.commands.EntryKind.{EntryKind}
use Rattle.fw_script.specs.declared.commands.EntryKind.TheVariants as kind
use Rattle.fw_snapshot.specs.History.{History}
use Rattle.fw_snapshot.specs.Judging.{judged}
use Rattle.fw_snapshot.specs.Verdicts.{with_more}
use Rattle.fw_snapshot.specs.declared.verdict.Verdict.{Verdict}
use Rattle.fw_snapshot.specs.declared.verdict.Verdict.TheVariants as verdict
use Rattle.fw_terms.specs.Added.{AddedValue}
use Rattle.fw_terms.specs.Commitment.{CommitmentValue}
use Rattle.fw_terms.specs.Policy.{PolicyValue}
use Rattle.fw_serve.specs.Answers.{Answer, Entered, Judges, Makes, SequenceReads, Stays, Stores, Submits, Takes, entry_made, parts_entry}
use Rattle.fw_serve.specs.Contents.{ContentReads}
use Rattle.fw_serve.specs.Questions.{AreOutcome, IsOutcome, LinesAnswer, ReportAnswer, lines_answer, report_answer}
use Rattle.fw_serve.specs.Replies.{accepted_line, checkpointed_line, commitment_fault_line, counted, no_memory_line, policy_fault_line, query_fault_line, row_fault_line, state_line}
use Rattle.fw_serve.specs.Runs.{AnswersEach, AreOne, AreUnhindered, IsHindered, NoneHindered, Sends}
use Rattle.fw_serve.specs.Standings.{Standing}
use Rattle.fw_serve.proofs.RunFacts.{checkpoint_leaves, hindered_leaves, same_history}

-- ---- contents
out_or_fault : {V F : Type 0} (ran_out f : F) → (f ≡ ran_out) ⊎ (f ≢ ran_out) → (r : Result V F) → r ≡ Err f → (r ≡ Err ran_out) ⊎ (r ≢ Err ran_out)
out_or_fault ran_out f (inl same) r is = inl (is ∙ ap Err same)
out_or_fault ran_out f (inr other) r is = inr (λ h. other (cc))

out_or : {V F : Type 0} (ran_out : F) → ((f : F) → (f ≡ ran_out) ⊎ (f ≢ ran_out)) → (r : Result V F) → (r ≡ Err ran_out) ⊎ (r ≢ Err ran_out)
out_or ran_out is (Ok v) = inr (λ h. absurd (cc))
out_or ran_out is (Err f) = out_or_fault ran_out f (is f) (Err f) refl

same_unless_out : {V F : Type 0} (ran_out : F) (r s : Result V F) → (r ≢ Err ran_out → s ≢ Err ran_out → r ≡ s) → (r ≡ Err ran_out) ⊎ (r ≢ Err ran_out) → (s ≡ Err ran_out) ⊎ (s ≢ Err ran_out)
    → (r ≡ s) ⊎ ((r ≡ Err ran_out) ⊎ (s ≡ Err ran_out))
same_unless_out ran_out r s one (inl out) other = inr (inl out)
same_unless_out ran_out r s one (inr some) (inl out) = inr (inr out)
same_unless_out ran_out r s one (inr some) (inr other) = inl (one some other)

reading_same : {V F : Type 0} (Reads : Result V F → Type 0) (ran_out : F) → ((f : F) → (f ≡ ran_out) ⊎ (f ≢ ran_out))
    → ((r s : Result V F) → r ≢ Err ran_out → s ≢ Err ran_out → Reads r → Reads s → r ≡ s)
    → (r s : Result V F) → Reads r → Reads s → (r ≡ s) ⊎ ((r ≡ Err ran_out) ⊎ (s ≡ Err ran_out))
reading_same Reads ran_out is one r s a b = same_unless_out ran_out r s (λ some other. one r s some other a b) (out_or ran_out is r) (out_or ran_out is s)

-- what is read as an entry's command, or as the line of a fault
abbrev image : {V F : Type 0} → (V → CommandValue) → (F → List ℕ) → Result V F → Result CommandValue (List ℕ)
image command line (Ok v) = Ok (command v)
image command line (Err f) = Err (line f)

images_same : {V F : Type 0} (command : V → CommandValue) (line : F → List ℕ) (ran_out : F) → line ran_out ≡ no_memory_line → (p q : Result V F) (r s : Result CommandValue (List ℕ))
    → r ≡ image command line p → s ≡ image command line q → (p ≡ q) ⊎ ((p ≡ Err ran_out) ⊎ (q ≡ Err ran_out)) → (r ≡ s) ⊎ ((r ≡ Err no_memory_line) ⊎ (s ≡ Err no_memory_line))
images_same command line ran_out says p q r s is_r is_s (inl same) = inl (is_r ∙ ap (image command line) same ∙ sym is_s)
images_same command line ran_out says p q r s is_r is_s (inr (inl out)) = inr (inl (is_r ∙ ap (image command line) out ∙ ap Err says))
images_same command line ran_out says p q r s is_r is_s (inr (inr out)) = inr (inr (is_s ∙ ap (image command line) out ∙ ap Err says))

row_out : (f : RowFault) → (f ≡ row_fault.NoMemory) ⊎ (f ≢ row_fault.NoMemory)
row_out (row_fault.MissingColumn column) = inr (λ h. absurd (cc))
row_out (row_fault.DoubleColumn column) = inr (λ h. absurd (cc))
row_out (row_fault.Record number why) = inr (λ h. absurd (cc))
row_out row_fault.NoRows = inr (λ h. absurd (cc))
row_out row_fault.TooManyRows = inr (λ h. absurd (cc))
row_out row_fault.NoMemory = inl refl

commitment_out : (f : CommitmentFault) → (f ≡ commitment_fault.NoMemory) ⊎ (f ≢ commitment_fault.NoMemory)
commitment_out commitment_fault.Syntax = inr (λ h. absurd (cc))
commitment_out (commitment_fault.Field field) = inr (λ h. absurd (cc))
commitment_out (commitment_fault.Limit field) = inr (λ h. absurd (cc))
commitment_out commitment_fault.NoMemory = inl refl

policy_out : (f : PolicyFault) → (f ≡ policy_fault.NoMemory) ⊎ (f ≢ policy_fault.NoMemory)
policy_out policy_fault.Syntax = inr (λ h. absurd (cc))
policy_out (policy_fault.Field field) = inr (λ h. absurd (cc))
policy_out (policy_fault.Limit field) = inr (λ h. absurd (cc))
policy_out policy_fault.DoubleFrom = inr (λ h. absurd (cc))
policy_out policy_fault.TargetIsFrom = inr (λ h. absurd (cc))
policy_out policy_fault.NoMemory = inl refl

row_no_memory : row_fault_line row_fault.NoMemory ≡ no_memory_line
unfolding row_fault_line
row_no_memory = refl

commitment_no_memory : commitment_fault_line commitment_fault.NoMemory ≡ no_memory_line
unfolding commitment_fault_line
commitment_no_memory = refl

policy_no_memory : policy_fault_line policy_fault.NoMemory ≡ no_memory_line
unfolding policy_fault_line
policy_no_memory = refl

post_content : (currency content : List ℕ) (r : Result CommandValue (List ℕ)) → ContentReads kind.Post currency content r
    → (p : Result (List Charge) RowFault) × (r ≡ image post row_fault_line p) × RowsRead currency content p
unfolding ContentReads
post_content currency content (Ok command) given = (Ok given.0, ap Ok given.1, given.2)
post_content currency content (Err line) given = (Err given.0, ap Err given.1, given.2)

commit_content : (currency content : List ℕ) (r : Result CommandValue (List ℕ)) → ContentReads kind.Commit currency content r
    → (p : Result CommitmentValue CommitmentFault) × (r ≡ image commit commitment_fault_line p) × CommitmentReads content p
unfolding ContentReads
commit_content currency content (Ok command) given = (Ok given.0, ap Ok given.1, given.2)
commit_content currency content (Err line) given = (Err given.0, ap Err given.1, given.2)

policy_content : (currency content : List ℕ) (r : Result CommandValue (List ℕ)) → ContentReads kind.Policy currency content r
    → (p : Result PolicyValue PolicyFault) × (r ≡ image set_policy policy_fault_line p) × PolicyReads content p
unfolding ContentReads
policy_content currency content (Ok command) given = (Ok given.0, ap Ok given.1, given.2)
policy_content currency content (Err line) given = (Err given.0, ap Err given.1, given.2)

purchase_content : (currency content : List ℕ) (r : Result CommandValue (List ℕ)) → ContentReads kind.AddPurchase currency content r
    → (p : Result AddedValue CommitmentFault) × (r ≡ image add_purchase commitment_fault_line p) × PurchaseReads content p
unfolding ContentReads
purchase_content currency content (Ok command) given = (Ok given.0, ap Ok given.1, given.2)
purchase_content currency content (Err line) given = (Err given.0, ap Err given.1, given.2)

withdrawal_one : (currency content : List ℕ) (r s : Result CommandValue (List ℕ)) → ContentReads kind.Withdraw currency content r → ContentReads kind.Withdraw currency content s → r ≡ s
unfolding ContentReads
withdrawal_one currency content (Ok command) (Ok other) a b = ap Ok (a.1 ∙ ap withdraw (sym a.2.decimal.value ∙ b.2.decimal.value) ∙ sym b.1)
withdrawal_one currency content (Ok command) (Err line) a b = absurd (b.1 a.0 a.2)
withdrawal_one currency content (Err line) (Ok command) a b = absurd (a.1 b.0 b.2)
withdrawal_one currency content (Err line) (Err other) a b = ap Err (a.0 ∙ sym b.0)

pub content_one : (k : EntryKind) (currency content : List ℕ) (r s : Result CommandValue (List ℕ)) → ContentReads k currency content r → ContentReads k currency content s
    → (r ≡ s) ⊎ ((r ≡ Err no_memory_line) ⊎ (s ≡ Err no_memory_line))
content_one kind.Post currency content r s a b =
    let p = post_content currency content r a in
    let q = post_content currency content s b in
    images_same post row_fault_line row_fault.NoMemory row_no_memory p.0 q.0 r s p.1 q.1
    (reading_same (RowsRead currency content) row_fault.NoMemory row_out (row_texts.text-one currency content) p.0 q.0 p.2 q.2)
content_one kind.Commit currency content r s a b =
    let p = commit_content currency content r a in
    let q = commit_content currency content s b in
    images_same commit commitment_fault_line commitment_fault.NoMemory commitment_no_memory p.0 q.0 r s p.1 q.1
    (reading_same (CommitmentReads content) commitment_fault.NoMemory commitment_out (text-one-reading content) p.0 q.0 p.2 q.2)
content_one kind.Policy currency content r s a b =
    let p = policy_content currency content r a in
    let q = policy_content currency content s b in
    images_same set_policy policy_fault_line policy_fault.NoMemory policy_no_memory p.0 q.0 r s p.1 q.1
    (reading_same (PolicyReads content) policy_fault.NoMemory policy_out (policy_texts.text-one content) p.0 q.0 p.2 q.2)
content_one kind.AddPurchase currency content r s a b =
    let p = purchase_content currency content r a in
    let q = purchase_content currency content s b in
    images_same add_purchase commitment_fault_line commitment_fault.NoMemory commitment_no_memory p.0 q.0 r s p.1 q.1
    (reading_same (PurchaseReads content) commitment_fault.NoMemory commitment_out (added-one-reading content) p.0 q.0 p.2 q.2)
content_one kind.Withdraw currency content r s a b = inl (withdrawal_one currency content r s a b)

pub number_one : (word : List ℕ) (m n : ℕ) → SequenceReads word m → SequenceReads word n → m ≡ n
number_one word zero zero a b = refl
number_one word zero (suc n) a b = absurd (a (suc n) b)
number_one word (suc m) zero a b = absurd (b (suc m) a)
number_one word (suc m) (suc n) a b = sym a.decimal.value ∙ b.decimal.value

-- ---- entries
both_stay : (a b c d : Standing) (s t line : List ℕ) → a.history ≡ b.history → Stays a line s c → Stays b line t d → AreOne s t c d
both_stay a b c d s t line same p q = inr (inr (p.0 ∙ sym q.0, same_history c a p.1 ∙ same ∙ sym (same_history d b q.1)))

stores_one : (a b c d : Standing) (e : EntryValue) (s t : List ℕ) → a.history ≡ b.history → Stores a e s c → Stores b e t d → AreOne s t c d
stores_one a b c d e s t same (inl p) (inl q) =
    inr (inr (
      p.0 ∙ ap (λ (h : History). accepted_line (length h.entries + 1)) same ∙ sym q.0,
      ap (λ (x : Standing). x.history) p.1 ∙ ap (λ (h : History). with_more h (e ∷ [])) same ∙ sym (ap (λ (x : Standing). x.history) q.1),
    ))
stores_one a b c d e s t same (inr (inl p)) q = inl (inr (store_fault.TooLarge, p.0.0))
stores_one a b c d e s t same (inr (inr p)) q = inl (inr (store_fault.Device, p.0))
stores_one a b c d e s t same (inl p) (inr (inl q)) = inr (inl (inr (store_fault.TooLarge, q.0.0)))
stores_one a b c d e s t same (inl p) (inr (inr q)) = inr (inl (inr (store_fault.Device, q.0)))

judges_one : (a b c d : Standing) (e : EntryValue) (v : Verdict) (s t : List ℕ) → a.history ≡ b.history → Judges a e v s c → Judges b e v t d → AreOne s t c d
unfolding Judges
judges_one a b c d e verdict.Accept s t same (inl p) q = inl (inr (store_fault.OldSide, p.1.0))
judges_one a b c d e verdict.Accept s t same (inr p) (inl q) = inr (inl (inr (store_fault.OldSide, q.1.0)))
judges_one a b c d e verdict.Accept s t same (inr p) (inr q) = stores_one a b c d e s t same p.1 q.1
judges_one a b c d e (verdict.Already last) s t same p q = both_stay a b c d s t _ same p q
judges_one a b c d e (verdict.Gap expected) s t same p q = both_stay a b c d s t _ same p q
judges_one a b c d e (verdict.Refused why) s t same p q = both_stay a b c d s t _ same p q

submits_one : (a b c d : Standing) (e : EntryValue) (s t : List ℕ) → a.history ≡ b.history → Submits a e s c → Submits b e t d → AreOne s t c d
unfolding Submits
submits_one a b c d e s t same (inl p) q = inl (inr (store_fault.Failed, p.1.0))
submits_one a b c d e s t same (inr p) (inl q) = inr (inl (inr (store_fault.Failed, q.1.0)))
submits_one a b c d e s t same (inr p) (inr q) =
    let mine : Judges a e (judged b.history.entries e) s c = subst (λ (h : History). Judges a e (judged h.entries e) s c) same p.1 in
    judges_one a b c d e (judged b.history.entries e) s t same mine q.1

makes_one : (a b c d : Standing) (made : Result EntryValue EntryFault) (s t : List ℕ) → a.history ≡ b.history → Makes a made s c → Makes b made t d → AreOne s t c d
unfolding Makes
makes_one a b c d (Ok e) s t same p q = submits_one a b c d e s t same p.1 q.1
makes_one a b c d (Err why) s t same p q = both_stay a b c d s t _ same p q

takes_one : (a b c d : Standing) (origin : List ℕ) (number : ℕ) (reading : Result CommandValue (List ℕ)) (s t : List ℕ) → a.history ≡ b.history
    → Takes a origin number reading s c → Takes b origin number reading t d → AreOne s t c d
unfolding Takes
takes_one a b c d origin number (Ok command) s t same p q = makes_one a b c d (entry_made origin number command) s t same p q
takes_one a b c d origin number (Err line) s t same p q = both_stay a b c d s t _ same p q

takes_none : (a c : Standing) (origin : List ℕ) (number : ℕ) (reading : Result CommandValue (List ℕ)) (s : List ℕ) → reading ≡ Err no_memory_line → Takes a origin number reading s c → IsHindered s
unfolding Takes
takes_none a c origin number (Ok command) s is p = absurd (cc)
takes_none a c origin number (Err line) s is p = let same : line ≡ no_memory_line = cc in inl (p.0 ∙ same)

read_one : (a b c d : Standing) (origin sequence s t : List ℕ) (m n : ℕ) (r q : Result CommandValue (List ℕ)) → a.history ≡ b.history → SequenceReads sequence m → SequenceReads sequence n
    → Takes a origin m r s c → Takes b origin n q t d → (r ≡ q) ⊎ ((r ≡ Err no_memory_line) ⊎ (q ≡ Err no_memory_line)) → AreOne s t c d
read_one a b c d origin sequence s t m n r q same first second x y (inl one) =
    let number : m ≡ n = number_one sequence m n first second in
    let mine : Takes a origin n q s c = subst (λ k. Takes a origin k q s c) number (subst (λ (z : Result CommandValue (List ℕ)). Takes a origin m z s c) one x) in
    takes_one a b c d origin n q s t same mine y
read_one a b c d origin sequence s t m n r q same first second x y (inr (inl out)) = inl (takes_none a c origin m r s out x)
read_one a b c d origin sequence s t m n r q same first second x y (inr (inr out)) = inr (inl (takes_none b d origin n q t out y))

taken_one : (a b c d : Standing) (k : EntryKind) (origin sequence content s t : List ℕ) (m n : ℕ) (r q : Result CommandValue (List ℕ)) → a.history ≡ b.history
    → ContentReads k a.history.currency content r → ContentReads k b.history.currency content q → SequenceReads sequence m → SequenceReads sequence n
    → Takes a origin m r s c ⊎ Stays a no_memory_line s c → Takes b origin n q t d ⊎ Stays b no_memory_line t d → AreOne s t c d
taken_one a b c d k origin sequence content s t m n r q same reads there first second (inr out) y = inl (inl out.0)
taken_one a b c d k origin sequence content s t m n r q same reads there first second (inl x) (inr out) = inr (inl (inl out.0))
taken_one a b c d k origin sequence content s t m n r q same reads there first second (inl x) (inl y) =
    let mine : ContentReads k b.history.currency content r = subst (λ (h : History). ContentReads k h.currency content r) same reads in
    read_one a b c d origin sequence s t m n r q same first second x y (content_one k b.history.currency content r q mine there)

entered_one : (a b c d : Standing) (k : EntryKind) (origin sequence content s t : List ℕ) → a.history ≡ b.history → Entered a k origin sequence content s c
    → Entered b k origin sequence content t d → AreOne s t c d
entered_one a b c d k origin sequence content s t same p q =
    taken_one a b c d k origin sequence content s t p.number q.number p.reading q.reading same p.reads q.reads p.numbers q.numbers p.taken q.taken

-- ---- questions
is_answer : (held : History) (key : List ℕ) (from to : ℕ) (r : Result (List reports.EntryValue) QueryFault) → IsOutcome held key from to r → IsAnswer held.entries key from to r
unfolding IsOutcome
is_answer held key from to (Ok entries) given = record { range = given.0; report = given.1; fault = tt }
is_answer held key from to (Err fault) given = record { range = tt; report = tt; fault = given }

-- the two are one, or one of them says that memory ran out
abbrev pub UnlessOut : List ℕ → List ℕ → Type 0
UnlessOut text other = (text ≡ no_memory_line) ⊎ ((other ≡ no_memory_line) ⊎ (text ≡ other))

same_report : (r q : Result (List reports.EntryValue) QueryFault) → IsSameAnswer r q → UnlessOut (report_answer r) (report_answer q)
unfolding report_answer query_fault_line
same_report (Ok x) (Ok y) same = inr (inr (ap (λ (e : List reports.EntryValue). counted (report_text e)) same))
same_report (Ok x) (Err query_fault.Range) same = absurd same
same_report (Ok x) (Err (query_fault.TotalTooLarge g)) same = absurd same
same_report (Ok x) (Err query_fault.NoMemory) same = inr (inl refl)
same_report (Err query_fault.Range) (Ok y) same = absurd same
same_report (Err query_fault.Range) (Err query_fault.Range) same = inr (inr refl)
same_report (Err query_fault.Range) (Err (query_fault.TotalTooLarge h)) same = absurd same
same_report (Err query_fault.Range) (Err query_fault.NoMemory) same = inr (inl refl)
same_report (Err (query_fault.TotalTooLarge g)) (Ok y) same = absurd same
same_report (Err (query_fault.TotalTooLarge g)) (Err query_fault.Range) same = absurd same
same_report (Err (query_fault.TotalTooLarge g)) (Err (query_fault.TotalTooLarge h)) same = inr (inr refl)
same_report (Err (query_fault.TotalTooLarge g)) (Err query_fault.NoMemory) same = inr (inl refl)
same_report (Err query_fault.NoMemory) q same = inl refl

pub same_lines : (held : History) (from to : ℕ) (r q : Result (List LineValue) QueryFault) → AreOutcome held from to r → AreOutcome held from to q
    → UnlessOut (lines_answer r) (lines_answer q)
unfolding AreOutcome lines_answer query_fault_line
same_lines held from to (Ok x) (Ok y) a b = inr (inr (ap (λ (l : List LineValue). counted (lines_text l)) (lines_of_same held.entries from to x y a.1 b.1)))
same_lines held from to (Ok x) (Err query_fault.Range) a b = absurd (b a.0)
same_lines held from to (Ok x) (Err (query_fault.TotalTooLarge g)) a b = absurd b
same_lines held from to (Ok x) (Err query_fault.NoMemory) a b = inr (inl refl)
same_lines held from to (Err query_fault.Range) (Ok y) a b = absurd (a b.0)
same_lines held from to (Err query_fault.Range) (Err query_fault.Range) a b = inr (inr refl)
same_lines held from to (Err query_fault.Range) (Err (query_fault.TotalTooLarge g)) a b = absurd b
same_lines held from to (Err query_fault.Range) (Err query_fault.NoMemory) a b = inr (inl refl)
same_lines held from to (Err (query_fault.TotalTooLarge g)) q a b = absurd a
same_lines held from to (Err query_fault.NoMemory) q a b = inl refl

-- what was asked for is the text of what came out
texts_one : (s t x y : List ℕ) (c d : Standing) → s ≡ x → t ≡ y → c.history ≡ d.history → UnlessOut x y → AreOne s t c d
texts_one s t x y c d is_s is_t same (inl out) = inl (inl (is_s ∙ out))
texts_one s t x y c d is_s is_t same (inr (inl out)) = inr (inl (inl (is_t ∙ out)))
texts_one s t x y c d is_s is_t same (inr (inr one)) = inr (inr (is_s ∙ one ∙ sym is_t, same))

pub reports_same : (held : History) (key : List ℕ) (from to : ℕ) (r q : Result (List reports.EntryValue) QueryFault) → IsOutcome held key from to r → IsOutcome held key from to q
    → UnlessOut (report_answer r) (report_answer q)
reports_same held key from to r q a b = same_report r q (answer_same held.entries key from to r q (is_answer held key from to r a) (is_answer held key from to q b))

report_one : (held : History) (key : List ℕ) (from to : ℕ) (s t : List ℕ) (c d : Standing) → c.history ≡ d.history → ReportAnswer held key from to s → ReportAnswer held key from to t → AreOne s t c d
report_one held key from to s t c d same p q =
    texts_one s t (report_answer p.outcome) (report_answer q.outcome) c d p.says q.says same
    (reports_same held key from to p.outcome q.outcome p.is_outcome q.is_outcome)

lines_one : (held : History) (from to : ℕ) (s t : List ℕ) (c d : Standing) → c.history ≡ d.history → LinesAnswer held from to s → LinesAnswer held from to t → AreOne s t c d
lines_one held from to s t c d same p q =
    texts_one s t (lines_answer p.outcome) (lines_answer q.outcome) c d p.says q.says same (same_lines held from to p.outcome q.outcome p.are_outcome q.are_outcome)

checkpoints_one : (s t : List ℕ) (c d : Standing) → c.history ≡ d.history → IsHindered s ⊎ (s ≡ checkpointed_line) → IsHindered t ⊎ (t ≡ checkpointed_line) → AreOne s t c d
checkpoints_one s t c d same (inl out) q = inl out
checkpoints_one s t c d same (inr p) (inl out) = inr (inl out)
checkpoints_one s t c d same (inr p) (inr q) = inr (inr (p ∙ sym q, same))

-- ---- commands
pub command_one : (a b c d : Standing) (command : PlainCommand) (s t : List ℕ) → a.history ≡ b.history → Answer a command s c → Answer b command t d
    → AreOne s t c d
unfolding Answer
command_one a b c d (entry k origin sequence content) s t same p q = entered_one a b c d k origin sequence content s t same p q
command_one a b c d (report key from to) s t same p q =
    let left : c.history ≡ d.history = same_history c a p.1 ∙ same ∙ sym (same_history d b q.1) in
    report_one b.history key from to s t c d left (subst (λ (h : History). ReportAnswer h key from to s) same p.0) q.0
command_one a b c d (lines from to) s t same p q =
    let left : c.history ≡ d.history = same_history c a p.1 ∙ same ∙ sym (same_history d b q.1) in
    lines_one b.history from to s t c d left (subst (λ (h : History). LinesAnswer h from to s) same p.0) q.0
command_one a b c d state s t same p q =
    both_stay a b c d s t (state_line b.history) same (p.0 ∙ ap state_line same, p.1) q
command_one a b c d checkpoint s t same p q =
    let x = checkpoint_leaves a s c p in
    let y = checkpoint_leaves b t d q in
    checkpoints_one s t c d (x.1 ∙ same ∙ sym y.1) x.0 y.0
command_one a b c d bad_command s t same p q = both_stay a b c d s t _ same p q
command_one a b c d bad_end s t same p q = both_stay a b c d s t _ same p q

-- a command sends one entry at most
content_value : (d e : EntryValue) (r s : Result CommandValue (List ℕ)) → r ≡ Ok d.command → s ≡ Ok e.command → (r ≡ s) ⊎ ((r ≡ Err no_memory_line) ⊎ (s ≡ Err no_memory_line)) → d.command ≡ e.command
content_value d e r s is_r is_s (inl same) = cc
content_value d e r s is_r is_s (inr (inl out)) = absurd (cc)
content_value d e r s is_r is_s (inr (inr out)) = absurd (cc)

pub entry_one : (currency : List ℕ) (command : PlainCommand) (d e : EntryValue) → Sends currency command d → Sends currency command e → d ≡ e
entry_one currency command d e p q =
    let both : entry p.kind d.origin p.sequence p.content ≡ entry q.kind e.origin q.sequence q.content = sym p.is_entry ∙ q.is_entry in
    let kinds : p.kind ≡ q.kind = cc in
    let origins : d.origin ≡ e.origin = cc in
    let words : p.sequence ≡ q.sequence = cc in
    let contents : p.content ≡ q.content = cc in
    let mine : ContentReads q.kind currency q.content (Ok d.command) =
    subst (λ k. ContentReads k currency q.content (Ok d.command)) kinds (subst (λ l. ContentReads p.kind currency l (Ok d.command)) contents p.reads) in
    let number : d.seq ≡ e.seq = sym p.numbers.decimal.value ∙ ap (digits_value 10) words ∙ q.numbers.decimal.value in
    let value = content_value d e (Ok d.command) (Ok e.command) refl refl (content_one q.kind currency q.content (Ok d.command) (Ok e.command) mine q.reads) in
    ap (λ o. parts_entry o d.seq d.command) origins ∙ ap (λ n. parts_entry e.origin n d.command) number ∙ ap (parts_entry e.origin e.seq) value

-- ---- runs
-- the commands that weren't hindered are answered as if they were alone
abbrev LeavesOut : List PlainCommand → Type 0
LeavesOut commands = (a b c d : Standing) (rest : List PlainCommand) (ss rs ts : List (List ℕ)) → a.history ≡ b.history → AnswersEach a commands ss c → AreUnhindered commands ss rest rs
    → AnswersEach b rest ts d → NoneHindered ts → (rs ≡ ts) × (c.history ≡ d.history)

well_answered : (commands others : List PlainCommand) → LeavesOut commands → (c d next later : Standing) (answer text : List ℕ) (more replies tail rs ts : List (List ℕ)) → rs ≡ answer ∷ replies → ts ≡ text ∷ tail
    → AnswersEach next commands more c → AreUnhindered commands more others replies → AnswersEach later others tail d → NoneHindered (text ∷ tail) → (¬ IsHindered answer)
    → AreOne answer text next later → (rs ≡ ts) × (c.history ≡ d.history)
well_answered commands others rest c d next later answer text more replies tail rs ts is_rs is_ts each on there fine well (inl out) = absurd (well out)
well_answered commands others rest c d next later answer text more replies tail rs ts is_rs is_ts each on there fine well (inr (inl out)) =
    absurd (All-head (λ t. ¬ IsHindered t) text tail fine out)
well_answered commands others rest c d next later answer text more replies tail rs ts is_rs is_ts each on there fine well (inr (inr (one, same))) =
    let after = rest next later c d others more replies tail same each on there (All-tail (λ t. ¬ IsHindered t) text tail fine) in
    (is_rs ∙ ap (λ (l : List ℕ). l ∷ replies) one ∙ ap (λ (l : List (List ℕ)). text ∷ l) after.0 ∙ sym is_ts, after.1)

turn : (command : PlainCommand) (commands : List PlainCommand) → LeavesOut commands → (a b c d next : Standing) (answer : List ℕ) (more : List (List ℕ)) (rest : List PlainCommand) (rs ts : List (List ℕ))
    → a.history ≡ b.history → Answer a command answer next → AnswersEach next commands more c → AnswersEach b rest ts d → NoneHindered ts
    → (IsHindered answer × AreUnhindered commands more rest rs)
    ⊎ ((¬ IsHindered answer) × ((others : List PlainCommand) × (replies : List (List ℕ)) × (rest ≡ command ∷ others) × (rs ≡ answer ∷ replies) × AreUnhindered commands more others replies))
    → (rs ≡ ts) × (c.history ≡ d.history)
unfolding AnswersEach
turn command commands behind a b c d next answer more rest rs ts same answered each there fine (inl (out, on)) =
    behind next b c d rest more rs ts (hindered_leaves a command answer next answered out ∙ same) each on there fine
turn command commands behind a b c d next answer more rest rs ts same answered each there fine (inr (well, (others, replies, is_rest, is_rs, on))) =
    let first : AnswersEach b (command ∷ others) ts d = subst (λ (l : List PlainCommand). AnswersEach b l ts d) is_rest there in
    let all : NoneHindered (first.0 ∷ first.2) = subst (λ (l : List (List ℕ)). NoneHindered l) first.5 fine in
    well_answered commands others behind c d next first.1 answer first.0 more replies first.2 rs ts is_rs first.5 each on first.4 all well
    (command_one a b next first.1 command answer first.0 same answered first.3)

none_left_out : LeavesOut []
unfolding AnswersEach AreUnhindered
none_left_out a b c d rest ss rs ts same p u q fine =
    let none : AnswersEach b [] ts d = subst (λ (l : List PlainCommand). AnswersEach b l ts d) u.0 q in
    (u.1 ∙ sym none.0, same_history c a p.1 ∙ same ∙ sym (same_history d b none.1))

more_left_out : (command : PlainCommand) (commands : List PlainCommand) → LeavesOut commands → LeavesOut (command ∷ commands)
unfolding AnswersEach AreUnhindered
more_left_out command commands behind a b c d rest ss rs ts same p u q fine =
    let both : p.0 ∷ p.2 ≡ u.0 ∷ u.1 = sym p.5 ∙ u.2 in
    let first : p.0 ≡ u.0 = cc in
    let others : p.2 ≡ u.1 = cc in
    let each : AnswersEach p.1 commands u.1 c = subst (λ (l : List (List ℕ)). AnswersEach p.1 commands l c) others p.4 in
    let answered : Answer a command u.0 p.1 = subst (λ (l : List ℕ). Answer a command l p.1) first p.3 in
    turn command commands behind a b c d p.1 u.0 u.1 rest rs ts same answered each q fine u.3

left_out_of : (commands : List PlainCommand) → LeavesOut commands
left_out_of [] = none_left_out
left_out_of (command ∷ commands) = more_left_out command commands (left_out_of commands)

pub left_out : (a b c d : Standing) (commands rest : List PlainCommand) (ss rs ts : List (List ℕ)) → a.history ≡ b.history → AnswersEach a commands ss c → AreUnhindered commands ss rest rs
    → AnswersEach b rest ts d → NoneHindered ts → (rs ≡ ts) × (c.history ≡ d.history)
left_out a b c d commands rest ss rs ts same p u q fine = left_out_of commands a b c d rest ss rs ts same p u q fine

-- where none was hindered, none is left out
all_unhindered : (a c : Standing) (commands : List PlainCommand) (ss : List (List ℕ)) → AnswersEach a commands ss c → NoneHindered ss → AreUnhindered commands ss commands ss
unfolding AnswersEach AreUnhindered
all_unhindered a c [] ss p fine = (refl, p.0)
all_unhindered a c (command ∷ commands) ss p fine =
    let all : NoneHindered (p.0 ∷ p.2) = subst (λ (l : List (List ℕ)). NoneHindered l) p.5 fine in (
      p.0,
      p.2,
      p.5,
      inr (All-head (λ t. ¬ IsHindered t) p.0 p.2 all, (commands, p.2, refl, p.5, all_unhindered p.1 c commands p.2 p.4 (All-tail (λ t. ¬ IsHindered t) p.0 p.2 all))),
    )

pub script_one : (a b c d : Standing) (commands : List PlainCommand) (ss ts : List (List ℕ)) → a.history ≡ b.history → AnswersEach a commands ss c → AnswersEach b commands ts d
    → NoneHindered ss → NoneHindered ts → (ss ≡ ts) × (c.history ≡ d.history)
script_one a b c d commands ss ts same p q well fine = left_out a b c d commands commands ss ss ts same p (all_unhindered a c commands ss p well) q fine
