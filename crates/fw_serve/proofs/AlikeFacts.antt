-- Stores that are alike answer alike.
use Rattle.std.proofs.Common.{◌≡◌, ◌≢◌, ◌⊎◌, ◌∙◌, ◌+◌, ◌∷◌, [], ℕ, true, List, All, get_or, length, Ok, Err, refl, sym, ap, subst, inl, inr, arith}
use Rattle.std.specs.Prelude.{Result}
use Rattle.std.proofs.lemmas.List.Elements.{All-head, All-tail}
use Rattle.fw_entry.specs.Entry.{CommandValue, EntryValue}
use Rattle.fw_entry.specs.declared.fault.EntryFault.{EntryFault}
use Rattle.fw_entry_bytes.specs.Forms.{has_entry}
use Rattle.fw_entry_bytes.specs.declared.form.Form.{Form}
use Rattle.fw_entry_bytes.specs.declared.form.Form.TheVariants.{Two}
use Rattle.fw_script.specs.Plain.{PlainCommand, entry, report, lines, state, checkpoint, bad_command, bad_end}
use Rattle.fw_script.specs.declared.commands.EntryKind.{EntryKind}
use Rattle.fw_segment.specs.Groups.{group}
use Rattle.fw_snapshot.specs.History.{History}
use Rattle.fw_snapshot.specs.Judging.{judged}
use Rattle.fw_snapshot.specs.Verdicts.{with_more}
use Rattle.fw_snapshot.specs.declared.verdict.Verdict.{Verdict}
use Rattle.fw_snapshot.specs.declared.verdict.Verdict.TheVariants as verdict
use Rattle.fw_serve.specs.Answers.{Answer, Checkpoints, Entered, HasNoRoom, Judges, Makes, Renews, SequenceReads, Stays, Stores, Submits, Takes, entry_made, with_entry}
use Rattle.fw_serve.specs.Contents.{ContentReads}
use Rattle.fw_serve.specs.Questions.{LinesAnswer, ReportAnswer, lines_answer, report_answer}
use Rattle.fw_serve.specs.Replies.{accepted_line, checkpointed_line, no_memory_line, state_line}
use Rattle.fw_serve.specs.Runs.{AnswersEach, AreAlike, AreSame, IsCutShort, IsOfASide, NoneCutShort}
use Rattle.fw_serve.specs.Standings.{Standing}
use Rattle.fw_serve.proofs.FailedFacts.{checkpointed_silent, device_code, failed_code, full_code, generations_code, store_code}
use Rattle.fw_serve.proofs.MoveFacts.{not_both}
use Rattle.fw_serve.proofs.OneAnswerFacts.{UnlessOut, content_one, number_one, reports_same, same_lines}

-- ---- stores that stay alike
stay_alike : (a b c d : Standing) → AreAlike a b → c ≡ a → d ≡ b → AreAlike c d
stay_alike a b c d like first second =
    subst (λ (x : Standing). AreAlike x d) (sym first) (subst (λ (y : Standing). AreAlike a y) (sym second) like)

both_stay : (a b c d : Standing) (s t line : List ℕ) → AreAlike a b → Stays a line s c → Stays b line t d → AreSame s t c d
both_stay a b c d s t line like p q = inr (inr (p.0 ∙ sym q.0, stay_alike a b c d like p.1 q.1))

-- an entry that has room in one has room in the other
room_too : (a b : Standing) (e : EntryValue) → AreAlike a b → HasNoRoom b e → HasNoRoom a e
room_too a b e like none = let room = like.room in omega (arith, room, none)

turned : (a b : Standing) → AreAlike a b → AreAlike b a
turned a b like = record { history = sym like.history; failed = sym like.failed; form = sym like.form; generation = sym like.generation; room = sym like.room }

more_room : (a b : Standing) (n : ℕ) → a.limit + b.end ≡ b.limit + a.end → a.limit + (b.end + 5 + n) ≡ b.limit + (a.end + 5 + n)
more_room a b n room = omega (arith, room)

with_entry_alike : (a b : Standing) (e : EntryValue) → AreAlike a b → AreAlike (with_entry a e) (with_entry b e)
with_entry_alike a b e like = record {
  history = ap (λ (h : History). with_more h (e ∷ [])) like.history;
  failed = like.failed;
  form = like.form;
  generation = like.generation;
  room = more_room a b (length (group (e ∷ []))) like.room;
}

-- ---- entries
stores_alike : (a b c d : Standing) (e : EntryValue) (s t : List ℕ) → AreAlike a b → Stores a e s c → Stores b e t d → AreSame s t c d
stores_alike a b c d e s t like (inl p) (inl q) =
    inr (inr (
      p.0 ∙ ap (λ (h : History). accepted_line (length h.entries + 1)) like.history ∙ sym q.0,
      stay_alike (with_entry a e) (with_entry b e) c d (with_entry_alike a b e like) p.1 q.1,
    ))
stores_alike a b c d e s t like (inl p) (inr (inl q)) = absurd (p.2 (room_too a b e like q.1))
stores_alike a b c d e s t like (inr (inl p)) (inl q) = absurd (q.2 (room_too b a e (turned a b like) p.1))
stores_alike a b c d e s t like (inr (inl p)) (inr (inl q)) = both_stay a b c d s t _ like p.0 q.0
stores_alike a b c d e s t like (inr (inr p)) q = inl (inr p.0)
stores_alike a b c d e s t like (inl p) (inr (inr q)) = inr (inl (inr q.0))
stores_alike a b c d e s t like (inr (inl p)) (inr (inr q)) = inr (inl (inr q.0))

-- the form of one side has an entry that the form of the other one has
has_too : (a b : Standing) (e : EntryValue) → AreAlike a b → has_entry a.form e ≡ true → has_entry b.form e ≡ true
has_too a b e like has = subst (λ (f : Form). has_entry f e ≡ true) like.form has

judges_alike : (a b c d : Standing) (e : EntryValue) (v : Verdict) (s t : List ℕ) → AreAlike a b → Judges a e v s c → Judges b e v t d → AreSame s t c d
unfolding Judges
judges_alike a b c d e verdict.Accept s t like (inl p) (inl q) = both_stay a b c d s t _ like p.1 q.1
judges_alike a b c d e verdict.Accept s t like (inl p) (inr q) = absurd (not_both (has_entry a.form e) (has_too b a e (turned a b like) q.0) p.0)
judges_alike a b c d e verdict.Accept s t like (inr p) (inl q) = absurd (not_both (has_entry b.form e) (has_too a b e like p.0) q.0)
judges_alike a b c d e verdict.Accept s t like (inr p) (inr q) = stores_alike a b c d e s t like p.1 q.1
judges_alike a b c d e (verdict.Already last) s t like p q = both_stay a b c d s t _ like p q
judges_alike a b c d e (verdict.Gap expected) s t like p q = both_stay a b c d s t _ like p q
judges_alike a b c d e (verdict.Refused why) s t like p q = both_stay a b c d s t _ like p q

submits_alike : (a b c d : Standing) (e : EntryValue) (s t : List ℕ) → AreAlike a b → Submits a e s c → Submits b e t d → AreSame s t c d
unfolding Submits
submits_alike a b c d e s t like (inl p) (inl q) = both_stay a b c d s t _ like p.1 q.1
submits_alike a b c d e s t like (inl p) (inr q) = absurd (not_both b.failed (sym like.failed ∙ p.0) q.0)
submits_alike a b c d e s t like (inr p) (inl q) = absurd (not_both b.failed q.0 (sym like.failed ∙ p.0))
submits_alike a b c d e s t like (inr p) (inr q) =
    let mine : Judges a e (judged b.history.entries e) s c = subst (λ (h : History). Judges a e (judged h.entries e) s c) like.history p.1 in
    judges_alike a b c d e (judged b.history.entries e) s t like mine q.1

makes_alike : (a b c d : Standing) (made : Result EntryValue EntryFault) (s t : List ℕ) → AreAlike a b → Makes a made s c → Makes b made t d → AreSame s t c d
unfolding Makes
makes_alike a b c d (Ok e) s t like p q = submits_alike a b c d e s t like p.1 q.1
makes_alike a b c d (Err why) s t like p q = both_stay a b c d s t _ like p q

takes_alike : (a b c d : Standing) (origin : List ℕ) (number : ℕ) (reading : Result CommandValue (List ℕ)) (s t : List ℕ) → AreAlike a b
    → Takes a origin number reading s c → Takes b origin number reading t d → AreSame s t c d
unfolding Takes
takes_alike a b c d origin number (Ok command) s t like p q = makes_alike a b c d (entry_made origin number command) s t like p q
takes_alike a b c d origin number (Err line) s t like p q = both_stay a b c d s t _ like p q

takes_none : (a c : Standing) (origin : List ℕ) (number : ℕ) (reading : Result CommandValue (List ℕ)) (s : List ℕ) → reading ≡ Err no_memory_line → Takes a origin number reading s c → IsCutShort s
unfolding Takes
takes_none a c origin number (Ok command) s is p = absurd (cc)
takes_none a c origin number (Err line) s is p = let same : line ≡ no_memory_line = cc in inl (p.0 ∙ same)

read_alike : (a b c d : Standing) (origin sequence s t : List ℕ) (m n : ℕ) (r q : Result CommandValue (List ℕ)) → AreAlike a b → SequenceReads sequence m → SequenceReads sequence n
    → Takes a origin m r s c → Takes b origin n q t d → (r ≡ q) ⊎ ((r ≡ Err no_memory_line) ⊎ (q ≡ Err no_memory_line)) → AreSame s t c d
read_alike a b c d origin sequence s t m n r q like first second x y (inl one) =
    let number : m ≡ n = number_one sequence m n first second in
    let mine : Takes a origin n q s c = subst (λ k. Takes a origin k q s c) number (subst (λ (z : Result CommandValue (List ℕ)). Takes a origin m z s c) one x) in
    takes_alike a b c d origin n q s t like mine y
read_alike a b c d origin sequence s t m n r q like first second x y (inr (inl out)) = inl (takes_none a c origin m r s out x)
read_alike a b c d origin sequence s t m n r q like first second x y (inr (inr out)) = inr (inl (takes_none b d origin n q t out y))

taken_alike : (a b c d : Standing) (k : EntryKind) (origin sequence content s t : List ℕ) (m n : ℕ) (r q : Result CommandValue (List ℕ)) → AreAlike a b
    → ContentReads k a.history.currency content r → ContentReads k b.history.currency content q → SequenceReads sequence m → SequenceReads sequence n
    → Takes a origin m r s c ⊎ Stays a no_memory_line s c → Takes b origin n q t d ⊎ Stays b no_memory_line t d → AreSame s t c d
taken_alike a b c d k origin sequence content s t m n r q like reads there first second (inr out) y = inl (inl out.0)
taken_alike a b c d k origin sequence content s t m n r q like reads there first second (inl x) (inr out) = inr (inl (inl out.0))
taken_alike a b c d k origin sequence content s t m n r q like reads there first second (inl x) (inl y) =
    let mine : ContentReads k b.history.currency content r = subst (λ (h : History). ContentReads k h.currency content r) like.history reads in
    read_alike a b c d origin sequence s t m n r q like first second x y (content_one k b.history.currency content r q mine there)

entered_alike : (a b c d : Standing) (k : EntryKind) (origin sequence content s t : List ℕ) → AreAlike a b → Entered a k origin sequence content s c
    → Entered b k origin sequence content t d → AreSame s t c d
entered_alike a b c d k origin sequence content s t like p q =
    taken_alike a b c d k origin sequence content s t p.number q.number p.reading q.reading like p.reads q.reads p.numbers q.numbers p.taken q.taken

-- ---- questions
texts_alike : (s t x y : List ℕ) (c d : Standing) → s ≡ x → t ≡ y → AreAlike c d → UnlessOut x y → AreSame s t c d
texts_alike s t x y c d is_s is_t like (inl out) = inl (inl (is_s ∙ out))
texts_alike s t x y c d is_s is_t like (inr (inl out)) = inr (inl (inl (is_t ∙ out)))
texts_alike s t x y c d is_s is_t like (inr (inr one)) = inr (inr (is_s ∙ one ∙ sym is_t, like))

report_alike : (held : History) (key : List ℕ) (from to : ℕ) (s t : List ℕ) (c d : Standing) → AreAlike c d → ReportAnswer held key from to s → ReportAnswer held key from to t → AreSame s t c d
report_alike held key from to s t c d like p q =
    texts_alike s t (report_answer p.outcome) (report_answer q.outcome) c d p.says q.says like (reports_same held key from to p.outcome q.outcome p.is_outcome q.is_outcome)

lines_alike : (held : History) (from to : ℕ) (s t : List ℕ) (c d : Standing) → AreAlike c d → LinesAnswer held from to s → LinesAnswer held from to t → AreSame s t c d
lines_alike held from to s t c d like p q =
    texts_alike s t (lines_answer p.outcome) (lines_answer q.outcome) c d p.says q.says like (same_lines held from to p.outcome q.outcome p.are_outcome q.are_outcome)

-- ---- commands
pub command_alike : (a b c d : Standing) (command : PlainCommand) (s t : List ℕ) → AreAlike a b → command ≢ checkpoint → Answer a command s c → Answer b command t d → AreSame s t c d
unfolding Answer
command_alike a b c d (entry k origin sequence content) s t like other p q = entered_alike a b c d k origin sequence content s t like p q
command_alike a b c d (report key from to) s t like other p q =
    report_alike b.history key from to s t c d (stay_alike a b c d like p.1 q.1) (subst (λ (h : History). ReportAnswer h key from to s) like.history p.0) q.0
command_alike a b c d (lines from to) s t like other p q =
    lines_alike b.history from to s t c d (stay_alike a b c d like p.1 q.1) (subst (λ (h : History). LinesAnswer h from to s) like.history p.0) q.0
command_alike a b c d state s t like other p q = both_stay a b c d s t (state_line b.history) like (p.0 ∙ ap state_line like.history, p.1) q
command_alike a b c d checkpoint s t like other p q = absurd (other refl)
command_alike a b c d bad_command s t like other p q = both_stay a b c d s t _ like p q
command_alike a b c d bad_end s t like other p q = both_stay a b c d s t _ like p q

-- ---- checkpoints
renews_side : (a : Standing) (s : List ℕ) (c : Standing) → Renews a s c → IsOfASide s
renews_side a s c (inl made) = inl made.3
renews_side a s c (inr (inl full)) = inr (inl full.0.0)
renews_side a s c (inr (inr (inl device))) = inr (inr (inr device.0))
renews_side a s c (inr (inr (inr out))) = inr (inr (inl out.0))

pub checkpoints_alike : (a b c d : Standing) (s t : List ℕ) → AreAlike a b → Answer a checkpoint s c → Answer b checkpoint t d → AreSame s t c d ⊎ (IsOfASide s × IsOfASide t)
unfolding Answer Checkpoints
checkpoints_alike a b c d s t like (inl p) (inl q) = inl (both_stay a b c d s t _ like p.1 q.1)
checkpoints_alike a b c d s t like (inl p) (inr (inl q)) = absurd (not_both b.failed (sym like.failed ∙ p.0) q.0)
checkpoints_alike a b c d s t like (inl p) (inr (inr q)) = absurd (not_both b.failed (sym like.failed ∙ p.0) q.0)
checkpoints_alike a b c d s t like (inr (inl p)) (inl q) = absurd (not_both b.failed q.0 (sym like.failed ∙ p.0))
checkpoints_alike a b c d s t like (inr (inl p)) (inr (inl q)) = inl (both_stay a b c d s t _ like p.2 q.2)
checkpoints_alike a b c d s t like (inr (inl p)) (inr (inr q)) = absurd (q.1 (sym like.generation ∙ p.1))
checkpoints_alike a b c d s t like (inr (inr p)) (inl q) = absurd (not_both b.failed q.0 (sym like.failed ∙ p.0))
checkpoints_alike a b c d s t like (inr (inr p)) (inr (inl q)) = absurd (p.1 (like.generation ∙ q.1))
checkpoints_alike a b c d s t like (inr (inr p)) (inr (inr q)) = inr (renews_side a s c p.2, renews_side b t d q.2)

-- the line of a checkpoint that was made is none of those that say that the store didn't do it, nor that memory ran out
code_if_made : (s line : List ℕ) → s ≡ checkpointed_line → s ≡ line → store_code line ≡ 0
code_if_made s line made is = ap store_code (sym is ∙ made) ∙ checkpointed_silent

not_memory : no_memory_line ≢ checkpointed_line
unfolding no_memory_line checkpointed_line
not_memory is =
    let first : 110 ≡ 99 = ap (λ text. get_or text 0 0) is in
    omega (arith, first)

-- a checkpoint that was made leaves all as it was, but for the form, the generation and the room
abbrev pub IsRenewed : Standing → Standing → Type 0
IsRenewed a c = (c.history ≡ a.history) × (c.failed ≡ a.failed) × (c.form ≡ Two) × (c.generation ≡ a.generation + 1)

renewed : (a : Standing) (s : List ℕ) (c : Standing) → s ≡ checkpointed_line → Renews a s c → IsRenewed a c
renewed a s c made (inl is) =
    (ap (λ (x : Standing). x.history) is.4, ap (λ (x : Standing). x.failed) is.4, ap (λ (x : Standing). x.form) is.4, ap (λ (x : Standing). x.generation) is.4)
renewed a s c made (inr (inl full)) = absurd (omega (arith, sym full_code ∙ code_if_made s _ made full.0.0))
renewed a s c made (inr (inr (inl device))) = absurd (omega (arith, sym device_code ∙ code_if_made s _ made device.0))
renewed a s c made (inr (inr (inr out))) = absurd (not_memory (sym out.0 ∙ made))

pub made_leaves : (a : Standing) (s : List ℕ) (c : Standing) → s ≡ checkpointed_line → Checkpoints a s c → IsRenewed a c
unfolding Checkpoints
made_leaves a s c made (inl failed) = absurd (omega (arith, sym failed_code ∙ code_if_made s _ made failed.1.0))
made_leaves a s c made (inr (inl last)) = absurd (omega (arith, sym generations_code ∙ code_if_made s _ made last.2.0))
made_leaves a s c made (inr (inr renews)) = renewed a s c made renews.2

pub checkpoints_made : (a b c d : Standing) → AreAlike a b → Answer a checkpoint checkpointed_line c → Answer b checkpoint checkpointed_line d
    → (c.history ≡ d.history) × (c.failed ≡ d.failed) × (c.form ≡ d.form) × (c.generation ≡ d.generation)
unfolding Answer
checkpoints_made a b c d like p q =
    let (held, fails, form, next) = made_leaves a checkpointed_line c refl p in
    let (held_other, fails_other, form_other, next_other) = made_leaves b checkpointed_line d refl q in
    (held ∙ like.history ∙ sym held_other, fails ∙ like.failed ∙ sym fails_other, form ∙ sym form_other, next ∙ ap (λ n. n + 1) like.generation ∙ sym next_other)

-- ---- scripts
not_cut : (s t : List ℕ) (c d : Standing) → AreSame s t c d → (¬ IsCutShort s) → (¬ IsCutShort t) → (s ≡ t) × AreAlike c d
not_cut s t c d (inl out) well fine = absurd (well out)
not_cut s t c d (inr (inl out)) well fine = absurd (fine out)
not_cut s t c d (inr (inr same)) well fine = same

pub script_alike : (commands : List PlainCommand) (a b c d : Standing) (ss ts : List (List ℕ)) → AreAlike a b → All (λ x. x ≢ checkpoint) commands → AnswersEach a commands ss c
    → AnswersEach b commands ts d → NoneCutShort ss → NoneCutShort ts → (ss ≡ ts) × AreAlike c d
unfolding AnswersEach
script_alike [] a b c d ss ts like none p q well fine = (p.0 ∙ sym q.0, stay_alike a b c d like p.1 q.1)
script_alike (x ∷ commands) a b c d ss ts like none p q well fine =
    let mine : NoneCutShort (p.0 ∷ p.2) = subst (λ (l : List (List ℕ)). NoneCutShort l) p.5 well in
    let theirs : NoneCutShort (q.0 ∷ q.2) = subst (λ (l : List (List ℕ)). NoneCutShort l) q.5 fine in
    let first =
    not_cut p.0 q.0 p.1 q.1 (command_alike a b p.1 q.1 x p.0 q.0 like (All-head (λ y. y ≢ checkpoint) x commands none) p.3 q.3)
    (All-head (λ t. ¬ IsCutShort t) p.0 p.2 mine) (All-head (λ t. ¬ IsCutShort t) q.0 q.2 theirs) in
    let rest =
    script_alike commands p.1 q.1 c d p.2 q.2 first.1 (All-tail (λ y. y ≢ checkpoint) x commands none) p.4 q.4
    (All-tail (λ t. ¬ IsCutShort t) p.0 p.2 mine) (All-tail (λ t. ¬ IsCutShort t) q.0 q.2 theirs) in
    (p.5 ∙ ap (λ (l : List ℕ). l ∷ p.2) first.0 ∙ ap (λ (l : List (List ℕ)). q.0 ∷ l) rest.0 ∙ sym q.5, rest.1)
