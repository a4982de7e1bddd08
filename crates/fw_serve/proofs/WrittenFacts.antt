-- What the answers to entries say is so.
use Rattle.std.proofs.Common.{◌≡◌, ◌∙◌, ◌+◌, ◌<◌, ◌≤◌, ◌^◌, ◌++◌, ◌∷◌, [], ℕ, zero, suc, List, Some, true, get_or, not, length, slice_get, refl, sym, ap, subst, inl, inr, arith, length-append, append_assoc}
use Rattle.std.specs.Prelude.{◌==◌, if◌then◌else◌}
use Rattle.std.specs.Str.{bytes_eq}
use Rattle.std.proofs.lemmas.List.Filters.{length-filter_both}
use Rattle.fw_entry.specs.Entry.{EntryValue}
use Rattle.fw_script.specs.Plain.{PlainCommand}
use Rattle.fw_snapshot.specs.History.{History, entries_from}
use Rattle.fw_snapshot.specs.Judging.{IsLegal, judged}
use Rattle.fw_snapshot.specs.Verdicts.{IsRepeat, accepted_of, kept_by, taken, with_more}
use Rattle.fw_snapshot.specs.declared.verdict.Conflict.{Conflict}
use Rattle.fw_snapshot.specs.declared.verdict.Conflict.TheVariants as conflict
use Rattle.fw_snapshot.specs.declared.verdict.Verdict.{Verdict}
use Rattle.fw_snapshot.specs.declared.verdict.Verdict.TheVariants as verdict
use Rattle.fw_snapshot.proofs.RepeatFacts.{already_repeat}
use Rattle.fw_snapshot.proofs.RuleFacts.{gap_only}
use Rattle.fw_recover.proofs.Standing.{no_more}
use Rattle.fw_serve.specs.Answers.{Answer}
use Rattle.fw_serve.specs.Replies.{accepted_line, already_line, conflict_line, gap_line, verdict_line}
use Rattle.fw_serve.specs.Runs.{AnswersEach, Sends, StandsAt}
use Rattle.fw_serve.specs.Standings.{Standing}
use Rattle.fw_serve.proofs.MoveFacts.{not_both}
use Rattle.fw_serve.proofs.NumberFacts.{accepted_number, already_number, gap_number}
use Rattle.fw_serve.proofs.RunFacts.{OneStep, step, told}
use Rattle.fw_serve.proofs.SilentFacts.{speaks, verdict_speaks}

-- ---- lines that tell verdicts apart
letter : ℕ → List ℕ → ℕ
letter place text = get_or text place 0

-- each conflict has a digit of its own
conflict_of : ℕ → Conflict
conflict_of digit =
    if digit == 49 then conflict.Full
    else (if digit == 50 then conflict.DoubleId
    else (if digit == 51 then conflict.IdInUse
    else (if digit == 52 then conflict.OwnCommitment
    else (if digit == 53 then conflict.TooManyCommitments
    else (if digit == 54 then conflict.NoSuchPost
    else (if digit == 55 then conflict.Withdrawn else (if digit == 56 then conflict.NoSuchCommitment else conflict.PurchaseLimit)))))))

conflict_back : (why : Conflict) → conflict_of (letter 9 (conflict_line why)) ≡ why
unfolding conflict_line conflict_of letter
conflict_back conflict.Full = refl
conflict_back conflict.DoubleId = refl
conflict_back conflict.IdInUse = refl
conflict_back conflict.OwnCommitment = refl
conflict_back conflict.TooManyCommitments = refl
conflict_back conflict.NoSuchPost = refl
conflict_back conflict.Withdrawn = refl
conflict_back conflict.NoSuchCommitment = refl
conflict_back conflict.PurchaseLimit = refl

conflict_begins : (why : Conflict) → letter 0 (conflict_line why) ≡ 114
unfolding conflict_line letter
conflict_begins conflict.Full = refl
conflict_begins conflict.DoubleId = refl
conflict_begins conflict.IdInUse = refl
conflict_begins conflict.OwnCommitment = refl
conflict_begins conflict.TooManyCommitments = refl
conflict_begins conflict.NoSuchPost = refl
conflict_begins conflict.Withdrawn = refl
conflict_begins conflict.NoSuchCommitment = refl
conflict_begins conflict.PurchaseLimit = refl

accepted_begins : (n : ℕ) → (letter 0 (accepted_line n) ≡ 97) × (letter 1 (accepted_line n) ≡ 99)
unfolding accepted_line letter
accepted_begins n = (refl, refl)

already_begins : (n : ℕ) → (letter 0 (already_line n) ≡ 97) × (letter 1 (already_line n) ≡ 108)
unfolding already_line letter
already_begins n = (refl, refl)

gap_begins : (n : ℕ) → letter 0 (gap_line n) ≡ 103
unfolding gap_line letter
gap_begins n = refl

apart : (place m n : ℕ) (s t : List ℕ) → letter place s ≡ m → letter place t ≡ n → m < n → s ≡ t → ⊥
apart place m n s t is_m is_n less same = let one = ap (letter place) same in omega arith

already_says : (n count : ℕ) (v : Verdict) → already_line n ≡ verdict_line count v → (last : ℕ) × (v ≡ verdict.Already last) × (already_line n ≡ already_line last)
unfolding verdict_line
already_says n count verdict.Accept same = absurd (apart 1 99 108 _ _ (accepted_begins count).1 (already_begins n).1 (omega arith) (sym same))
already_says n count (verdict.Already last) same = (last, refl, same)
already_says n count (verdict.Gap expected) same = absurd (apart 0 97 103 _ _ (already_begins n).0 (gap_begins expected) (omega arith) same)
already_says n count (verdict.Refused why) same = absurd (apart 0 97 114 _ _ (already_begins n).0 (conflict_begins why) (omega arith) same)

gap_says : (n count : ℕ) (v : Verdict) → gap_line n ≡ verdict_line count v → (expected : ℕ) × (v ≡ verdict.Gap expected) × (gap_line n ≡ gap_line expected)
unfolding verdict_line
gap_says n count verdict.Accept same = absurd (apart 0 97 103 _ _ (accepted_begins count).0 (gap_begins n) (omega arith) (sym same))
gap_says n count (verdict.Already last) same = absurd (apart 0 97 103 _ _ (already_begins last).0 (gap_begins n) (omega arith) (sym same))
gap_says n count (verdict.Gap expected) same = (expected, refl, same)
gap_says n count (verdict.Refused why) same = absurd (apart 0 103 114 _ _ (gap_begins n) (conflict_begins why) (omega arith) same)

accepted_says : (n count : ℕ) (v : Verdict) → accepted_line n ≡ verdict_line count v → (v ≡ verdict.Accept) × (accepted_line n ≡ accepted_line count)
unfolding verdict_line
accepted_says n count verdict.Accept same = (refl, same)
accepted_says n count (verdict.Already last) same = absurd (apart 1 99 108 _ _ (accepted_begins n).1 (already_begins last).1 (omega arith) same)
accepted_says n count (verdict.Gap expected) same = absurd (apart 0 97 103 _ _ (accepted_begins n).0 (gap_begins expected) (omega arith) same)
accepted_says n count (verdict.Refused why) same = absurd (apart 0 97 114 _ _ (accepted_begins n).0 (conflict_begins why) (omega arith) same)

refused_says : (why : Conflict) (count : ℕ) (v : Verdict) → conflict_line why ≡ verdict_line count v → v ≡ verdict.Refused why
unfolding verdict_line
refused_says why count verdict.Accept same = absurd (apart 0 97 114 _ _ (accepted_begins count).0 (conflict_begins why) (omega arith) (sym same))
refused_says why count (verdict.Already last) same = absurd (apart 0 97 114 _ _ (already_begins last).0 (conflict_begins why) (omega arith) (sym same))
refused_says why count (verdict.Gap expected) same = absurd (apart 0 103 114 _ _ (gap_begins expected) (conflict_begins why) (omega arith) (sym same))
refused_says why count (verdict.Refused other) same =
    ap verdict.Refused (sym (conflict_back other) ∙ ap (λ t. conflict_of (letter 9 t)) (sym same) ∙ conflict_back why)

-- ---- what was answered by the line of a verdict
-- the command sent an entry that was judged, and this is the line of its verdict
abbrev WasJudged : Standing → PlainCommand → List ℕ → Standing → Type 0
WasJudged before command text after =
    (e : EntryValue) × Sends before.history.currency command e × (text ≡ verdict_line (length before.history.entries + 1) (judged before.history.entries e))
    × (after.history ≡ with_more before.history (taken before.history.entries e))

spoken : (before : Standing) (command : PlainCommand) (text : List ℕ) (after : Standing) → OneStep before command text after → speaks text ≡ true → WasJudged before command text after
spoken before command text after (inl passed) h = absurd (not_both (speaks text) h passed.1)
spoken before command text after (inr (e, sends, says, has, grows)) h = (e, sends, says, grows)

was_judged : (before : Standing) (command : PlainCommand) (count : ℕ) (v : Verdict) (after : Standing) → Answer before command (verdict_line count v) after → WasJudged before command (verdict_line count v) after
was_judged before command count v after answered =
    spoken before command (verdict_line count v) after (step before command (verdict_line count v) after answered) (verdict_speaks count v)

was_accepted : (before : Standing) (command : PlainCommand) (n : ℕ) (after : Standing) → Answer before command (accepted_line n) after → WasJudged before command (accepted_line n) after
unfolding verdict_line
was_accepted before command n after answered = was_judged before command n verdict.Accept after answered

was_already : (before : Standing) (command : PlainCommand) (n : ℕ) (after : Standing) → Answer before command (already_line n) after → WasJudged before command (already_line n) after
unfolding verdict_line
was_already before command n after answered = was_judged before command 0 (verdict.Already n) after answered

was_gap : (before : Standing) (command : PlainCommand) (n : ℕ) (after : Standing) → Answer before command (gap_line n) after → WasJudged before command (gap_line n) after
unfolding verdict_line
was_gap before command n after answered = was_judged before command 0 (verdict.Gap n) after answered

was_refused : (before : Standing) (command : PlainCommand) (why : Conflict) (after : Standing) → Answer before command (conflict_line why) after → WasJudged before command (conflict_line why) after
unfolding verdict_line
was_refused before command why after answered = was_judged before command 0 (verdict.Refused why) after answered

left_by : (before : Standing) (e : EntryValue) (after : Standing) (v : Verdict) → after.history ≡ with_more before.history (taken before.history.entries e) → judged before.history.entries e ≡ v
    → after.history ≡ with_more before.history (kept_by v e)
left_by before e after v grows is = grows ∙ ap (λ (v : Verdict). with_more before.history (kept_by v e)) is

-- ---- single answers
few_from : (origin : List ℕ) (es : List EntryValue) → entries_from origin es ≤ length es
unfolding entries_from
few_from origin es =
    let both = length-filter_both (λ (e : EntryValue). bytes_eq origin e.origin) (λ (e : EntryValue). not (bytes_eq origin e.origin)) (λ e. refl) es in
    omega (arith, both)

pub already_true : (before after : Standing) (command : PlainCommand) (n : ℕ) → IsLegal before.history.entries → Answer before command (already_line n) after → length before.history.entries < 2 ^ 64
    → (e : EntryValue) × Sends before.history.currency command e × IsRepeat before.history.entries e × (n ≡ entries_from e.origin before.history.entries) × (after.history ≡ before.history)
already_true before after command n legal answered few =
    let (e, sends, says, grows) = was_already before command n after answered in
    let said = already_says n (length before.history.entries + 1) (judged before.history.entries e) says in
    let found = already_repeat before.history.entries e said.0 legal (omega (arith, sends.numbers.positive)) said.1 in
    let many = few_from e.origin before.history.entries in
    let last = found.1 in
    let below : said.0 < 2 ^ 64 = omega arith in
    (e, sends, found.0, already_number n said.0 below said.2 ∙ found.1, left_by before e after (verdict.Already said.0) grows said.1 ∙ sym (no_more before.history))

pub gap_true : (before after : Standing) (command : PlainCommand) (n : ℕ) → Answer before command (gap_line n) after
    → (e : EntryValue) × Sends before.history.currency command e × (n ≡ entries_from e.origin before.history.entries + 1) × (n < e.seq) × (after.history ≡ before.history)
gap_true before after command n answered =
    let (e, sends, says, grows) = was_gap before command n after answered in
    let said = gap_says n (length before.history.entries + 1) (judged before.history.entries e) says in
    let found = gap_only before.history.entries e said.0 said.1 in
    let next = found.0 in
    let above = found.1 in
    let within = sends.numbers.within in
    let below : said.0 < 2 ^ 64 = omega arith in
    let same : n ≡ said.0 = gap_number n said.0 below said.2 in
    (e, sends, same ∙ next, omega arith, left_by before e after (verdict.Gap said.0) grows said.1 ∙ sym (no_more before.history))

pub refused_true : (before after : Standing) (command : PlainCommand) (why : Conflict) → Answer before command (conflict_line why) after
    → (e : EntryValue) × Sends before.history.currency command e × (judged before.history.entries e ≡ verdict.Refused why) × (after.history ≡ before.history)
refused_true before after command why answered =
    let (e, sends, says, grows) = was_refused before command why after answered in
    let said = refused_says why (length before.history.entries + 1) (judged before.history.entries e) says in
    (e, sends, said, left_by before e after (verdict.Refused why) grows said ∙ sym (no_more before.history))

-- ---- accepted entries
pub slice_get-seam : {A : Type 0} (xs ys : List A) (x : A) → slice_get (xs ++ x ∷ ys) (length xs) ≡ Some x
slice_get-seam [] ys x = refl
slice_get-seam (y ∷ xs) ys x = slice_get-seam xs ys x

pub slice_get-front : {A : Type 0} (xs ys : List A) (place : ℕ) (x : A) → slice_get xs place ≡ Some x → slice_get (xs ++ ys) place ≡ Some x
slice_get-front [] ys place x there = absurd (cc)
slice_get-front (y ∷ xs) ys zero x there = there
slice_get-front (y ∷ xs) ys (suc place) x there = slice_get-front xs ys place x there

pub stays_true : (before after : Standing) (commands : List PlainCommand) (answers : List (List ℕ)) (n : ℕ) (e : EntryValue) → AnswersEach before commands answers after
    → StandsAt before.history.entries n e → StandsAt after.history.entries n e
stays_true before after commands answers n e given stands =
    let left = told before commands answers after given in (
      stands.0,
      stands.1,
      ap (λ (h : History). slice_get h.entries stands.0) left.holds ∙ slice_get-front before.history.entries (accepted_of before.history.entries left.entries) stands.0 e stands.2,
    )

-- the last entry stands at the same place after all that comes later
stands_later : (held : History) (e : EntryValue) (next after : History) (later : List EntryValue) → next ≡ with_more held (e ∷ []) → after ≡ with_more next later
    → StandsAt after.entries (length held.entries + 1) e
stands_later held e next after later one more =
    let whole : after.entries ≡ held.entries ++ e ∷ later =
    ap (λ (h : History). h.entries) more ∙ ap (λ (h : History). h.entries ++ later) one ∙ append_assoc held.entries (e ∷ []) later in
    (length held.entries, refl, ap (λ (l : List EntryValue). slice_get l (length held.entries)) whole ∙ slice_get-seam held.entries later e)

accepted_now : (before : Standing) (command : PlainCommand) (n : ℕ) (next : Standing) (after : History) (later : List EntryValue) → Answer before command (accepted_line n) next → after ≡ with_more next.history later
    → length after.entries < 2 ^ 64 → (e : EntryValue) × Sends before.history.currency command e × StandsAt after.entries n e
accepted_now before command n next after later answered more few =
    let (e, sends, says, grows) = was_accepted before command n next answered in
    let said = accepted_says n (length before.history.entries + 1) (judged before.history.entries e) says in
    let one = left_by before e next verdict.Accept grows said.0 in
    let whole : length after.entries ≡ length next.history.entries + length later = ap (λ (h : History). length h.entries) more ∙ length-append next.history.entries later in
    let front : length next.history.entries ≡ length before.history.entries + 1 = ap (λ (h : History). length h.entries) one ∙ length-append before.history.entries (e ∷ []) in
    let below : length before.history.entries + 1 < 2 ^ 64 = omega arith in
    let same : length before.history.entries + 1 ≡ n = sym (accepted_number n (length before.history.entries + 1) below said.1) in
    (e, sends, subst (λ k. StandsAt after.entries k e) same (stands_later before.history e next.history after later one more))

pub same_currency : (before : Standing) (command : PlainCommand) (text : List ℕ) (after : Standing) → OneStep before command text after → after.history.currency ≡ before.history.currency
same_currency before command text after (inl passed) = ap (λ (h : History). h.currency) passed.2
same_currency before command text after (inr (e, sends, says, has, grows)) = ap (λ (h : History). h.currency) grows

pub accepted_true : (commands : List PlainCommand) (before after : Standing) (answers : List (List ℕ)) (place n : ℕ) (command : PlainCommand) → AnswersEach before commands answers after
    → slice_get commands place ≡ Some command → slice_get answers place ≡ Some (accepted_line n) → length after.history.entries < 2 ^ 64
    → (e : EntryValue) × Sends before.history.currency command e × StandsAt after.history.entries n e
unfolding AnswersEach
accepted_true [] before after answers place n command given sent answered few = absurd (cc)
accepted_true (c ∷ commands) before after answers zero n command given sent answered few =
    let own : c ≡ command = cc in
    let there : slice_get (given.0 ∷ given.2) zero ≡ Some (accepted_line n) = subst (λ (l : List (List ℕ)). slice_get l zero ≡ Some (accepted_line n)) given.5 answered in
    let says : given.0 ≡ accepted_line n = cc in
    let mine : Answer before command (accepted_line n) given.1 =
    subst (λ (t : List ℕ). Answer before command t given.1) says (subst (λ (x : PlainCommand). Answer before x given.0 given.1) own given.3) in
    let rest = told given.1 commands given.2 after given.4 in
    accepted_now before command n given.1 after.history (accepted_of given.1.history.entries rest.entries) mine rest.holds few
accepted_true (c ∷ commands) before after answers (suc place) n command given sent answered few =
    let there : slice_get (given.0 ∷ given.2) (suc place) ≡ Some (accepted_line n) = subst (λ (l : List (List ℕ)). slice_get l (suc place) ≡ Some (accepted_line n)) given.5 answered in
    let (e, sends, stands) = accepted_true commands given.1 after given.2 place n command given.4 sent there few in
    (e, subst (λ currency. Sends currency command e) (same_currency before c given.0 given.1 (step before c given.0 given.1 given.3)) sends, stands)
