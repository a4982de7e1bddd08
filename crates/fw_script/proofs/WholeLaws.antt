-- Whole commands stay what they are, whatever follows them.
use Rattle.std.proofs.Common.{◌≡◌, ◌≢◌, ◌∙◌, ◌⊎◌, ℕ, zero, suc, ◌+◌, ◌-◌, ◌<◌, ◌≤◌, List, [], ◌∷◌, ◌++◌, length, get_or, take, drop, take-append-drop, refl, sym, ap, subst, arith, inl, inr, length-append, append-nil, append_assoc}
use Rattle.std.proofs.lemmas.List.{append_cancel_right, drop_at, get_or-append-add, get_or_append_left, take_at}
use Rattle.std.specs.List.{Contains}
use Rattle.fw_script.specs.Commands.{FirstCommand, IsCommand}
use Rattle.fw_script.specs.Lines.{StartsWithLine, FollowsLines, line_feed}
use Rattle.fw_script.specs.Plain.{PlainCommand, entry, report, lines, state, checkpoint, bad_command, bad_end}
use Rattle.fw_script.specs.Whole.{AreWholeCommands, IsWhole}
use Rattle.fw_script.proofs.CommandsLaws.{FirstCommand-one, FirstCommand-shorter}
use Rattle.fw_script.proofs.LinesLaws.{StartsWithLine-shorter, line_suffix, suffix}
use Rattle.fw_script.proofs.WordsLaws.{unparted}

-- the text ends with a line feed
pub EndsLine : List ℕ → Type 0
EndsLine text = (start : List ℕ) × (text ≡ start ++ line_feed ∷ [])

-- what stands behind a line in a text that ends with a line feed is nothing, or ends so too
ends_behind : (line behind start : List ℕ) → line ++ line_feed ∷ behind ≡ start ++ line_feed ∷ [] → (behind ≡ []) ⊎ EndsLine behind
unfolding EndsLine
ends_behind [] behind [] e = inl (cc)
ends_behind [] behind (s ∷ start) e = inr (start, cc)
ends_behind (x ∷ []) behind [] e = absurd (cc)
ends_behind (x ∷ y ∷ line) behind [] e = absurd (cc)
ends_behind (x ∷ line) behind (s ∷ start) e = ends_behind line behind start (cc)

nothing_front : (front rest : List ℕ) → front ++ rest ≡ [] → (front ≡ []) × (rest ≡ [])
nothing_front [] rest e = (refl, e)
nothing_front (x ∷ front) rest e = absurd (cc)

not_empty : (line rest : List ℕ) → line ++ line_feed ∷ rest ≢ []
not_empty [] rest e = absurd (cc)
not_empty (x ∷ line) rest e = absurd (cc)

-- a text that is one line has no line feed to end it
cut : (front rest line behind : List ℕ) → EndsLine front → ¬ Contains line line_feed
    → (front ++ rest ≡ line ++ line_feed ∷ (behind ++ rest)) ⊎ ((front ++ rest ≡ line) × (behind ++ rest ≡ [])) → front ≡ line ++ line_feed ∷ behind
unfolding EndsLine
cut front rest line behind ends clear (inl e) = append_cancel_right front (line ++ line_feed ∷ behind) rest (e ∙ sym (append_assoc line (line_feed ∷ behind) rest))
cut front rest line behind ends clear (inr e) =
    let none = nothing_front behind rest e.1 in
    absurd (unparted line_feed line ends.0 [] clear (sym e.0 ∙ ap (λ r. front ++ r) none.1 ∙ append-nil front ∙ ends.1))

-- where a text's front ends with a line feed, and what follows the text's first line ends with what follows the front, the line is the front's
line_cut : (front rest line behind : List ℕ) → EndsLine front → StartsWithLine (front ++ rest) line (behind ++ rest) → front ≡ line ++ line_feed ∷ behind
line_cut front rest line behind ends h = cut front rest line behind ends h.unbroken h.in_turn

-- it is the first line whatever follows
line_goes_on : (front line behind more : List ℕ) → ¬ Contains line line_feed → front ≡ line ++ line_feed ∷ behind → StartsWithLine (front ++ more) line (behind ++ more)
line_goes_on front line behind more clear e =
    let turn : front ++ more ≡ line ++ line_feed ∷ (behind ++ more) = ap (λ f. f ++ more) e ∙ append_assoc line (line_feed ∷ behind) more in
    record { some = λ none. not_empty line (behind ++ more) (sym turn ∙ none); unbroken = clear; in_turn = inl turn }

-- the first n lines of a text whose front they are stay so
lines_go_on : (n : ℕ) (front rest more : List ℕ) → (front ≡ []) ⊎ EndsLine front → FollowsLines n (front ++ rest) rest → FollowsLines n (front ++ more) more
unfolding FollowsLines EndsLine
lines_go_on zero front rest more ends h = sym (ap (λ f. f ++ more) (sym (append_cancel_right [] front rest h)))
lines_go_on (suc n) front rest more (inl none) h =
    let s = suffix n h.1 rest h.3 in
    let shorter = StartsWithLine-shorter (front ++ rest) h.0 h.1 h.2 in
    let same : length (front ++ rest) ≡ length rest = ap (λ f. length (f ++ rest)) none in
    let sum : length h.1 ≡ length s.0 + length rest = ap length s.1 ∙ length-append s.0 rest in
    absurd (omega arith)
lines_go_on (suc n) front rest more (inr ends) h =
    let s = suffix n h.1 rest h.3 in
    let whole = line_cut front rest h.0 s.0 ends (subst (λ f. StartsWithLine (front ++ rest) h.0 f) s.1 h.2) in
    let behind = ends_behind h.0 s.0 ends.0 (sym whole ∙ ends.1) in
    (h.0, s.0 ++ more, line_goes_on front h.0 s.0 more h.2.unbroken whole, lines_go_on n s.0 rest more behind (subst (λ f. FollowsLines n f rest) s.1 h.3))

-- what is left ends what follows the command's line
command_suffix : (line following : List ℕ) (c : PlainCommand) (rest : List ℕ) → IsCommand line following c rest → (front : List ℕ) × (following ≡ front ++ rest)
unfolding IsCommand
command_suffix line following (entry k o s content) rest h = (h.taken, h.given.in_turn)
command_suffix line following (report key from to) rest h = ([], sym h.1)
command_suffix line following (lines from to) rest h = ([], sym h.1)
command_suffix line following state rest h = ([], sym h.1)
command_suffix line following checkpoint rest h = ([], sym h.1)
command_suffix line following bad_command rest h = ([], sym h.1)
command_suffix line following bad_end rest h = (following, sym (ap (λ r. following ++ r) h.1 ∙ append-nil following))

no_front : (front rest more : List ℕ) → rest ≡ front ++ rest → more ≡ front ++ more
no_front front rest more h = ap (λ f. f ++ more) (append_cancel_right [] front rest h)

-- a command that isn't cut short is the same whatever follows it
command_goes_on : (line front rest more : List ℕ) (c : PlainCommand) → c ≢ bad_end → (front ≡ []) ⊎ EndsLine front → IsCommand line (front ++ rest) c rest
    → IsCommand line (front ++ more) c more
unfolding IsCommand
command_goes_on line front rest more (entry k o s content) whole ends h = record {
  last = h.last;
  count = h.count;
  taken = h.taken;
  asked = h.asked;
  given = record {
    in_turn = ap (λ f. f ++ more) (append_cancel_right front h.taken rest h.given.in_turn);
    follows = lines_go_on h.count front rest more ends h.given.follows;
  };
  brought = h.brought;
}
command_goes_on line front rest more (report key from to) whole ends h = (h.0, no_front front rest more h.1)
command_goes_on line front rest more (lines from to) whole ends h = (h.0, no_front front rest more h.1)
command_goes_on line front rest more state whole ends h = (h.0, no_front front rest more h.1)
command_goes_on line front rest more checkpoint whole ends h = (h.0, no_front front rest more h.1)
command_goes_on line front rest more bad_command whole ends h = (h.0, no_front front rest more h.1)
command_goes_on line front rest more bad_end whole ends h = absurd (whole refl)

pub first_goes_on : (front rest : List ℕ) (c : PlainCommand) → c ≢ bad_end → EndsLine front → FirstCommand (front ++ rest) c rest → (more : List ℕ) → FirstCommand (front ++ more) c more
unfolding EndsLine
first_goes_on front rest c whole ends h more =
    let s = command_suffix h.line h.following c rest h.reads in
    let cut = line_cut front rest h.line s.0 ends (subst (λ f. StartsWithLine (front ++ rest) h.line f) s.1 h.begins) in
    record {
      line = h.line;
      following = s.0 ++ more;
      begins = line_goes_on front h.line s.0 more h.begins.unbroken cut;
      reads = command_goes_on h.line s.0 rest more c whole (ends_behind h.line s.0 ends.0 (sym cut ∙ ends.1)) (subst (λ f. IsCommand h.line f c rest) s.1 h.reads);
    }

-- what is left ends the text
pub first_suffix : (text : List ℕ) (c : PlainCommand) (rest : List ℕ) → FirstCommand text c rest → (front : List ℕ) × (text ≡ front ++ rest)
first_suffix text c rest h =
    let first = line_suffix text h.line h.following h.begins.in_turn in
    let later = command_suffix h.line h.following c rest h.reads in
    (first.0 ++ later.0, first.1 ∙ ap (λ t. first.0 ++ t) later.1 ∙ sym (append_assoc first.0 later.0 rest))

-- one more whole command
pub whole_more : (text : List ℕ) (commands : List PlainCommand) (front : List ℕ) (c : PlainCommand) → AreWholeCommands text commands
    → ((more : List ℕ) → FirstCommand (front ++ more) c more) → AreWholeCommands (text ++ front) (commands ++ c ∷ [])
unfolding AreWholeCommands
whole_more text [] front c none first = ([], (λ more. subst (λ t. FirstCommand ((t ++ front) ++ more) c more) (sym none) (first more)), refl)
whole_more text (d ∷ commands) front c h first = (
  h.0 ++ front,
  (λ more.
      subst (λ t. FirstCommand t d ((h.0 ++ front) ++ more)) (sym (append_assoc text front more))
      (subst (λ t. FirstCommand (text ++ (front ++ more)) d t) (sym (append_assoc h.0 front more)) (h.1 (front ++ more)))),
  whole_more h.0 commands front c h.2 first,
)

pub whole_none : IsWhole []
unfolding AreWholeCommands
whole_none = ([], refl)

pub is_whole_more : (text front : List ℕ) (c : PlainCommand) → IsWhole text → ((more : List ℕ) → FirstCommand (front ++ more) c more) → IsWhole (text ++ front)
is_whole_more text front c h first = (h.0 ++ c ∷ [], whole_more text h.0 front c h.1 first)

-- the first command of a text that is made of whole commands is first whatever follows, and what is left is made of whole commands
step : (text : List ℕ) (commands : List PlainCommand) (c : PlainCommand) (rest : List ℕ) → AreWholeCommands text commands → FirstCommand text c rest
    → IsWhole rest × ((more : List ℕ) → FirstCommand (text ++ more) c (rest ++ more))
unfolding AreWholeCommands
step text [] c rest none h = absurd (h.begins.some none)
step text (d ∷ commands) c rest all h =
    let first : FirstCommand text d all.0 = subst (λ t. FirstCommand t d all.0) (append-nil text) (subst (λ r. FirstCommand (text ++ []) d r) (append-nil all.0) (all.1 [])) in
    let same = FirstCommand-one text d c all.0 rest first h in (
      subst (λ r. IsWhole r) same.1 (commands, all.2),
      λ more. subst (λ r. FirstCommand (text ++ more) c (r ++ more)) same.1 (subst (λ e. FirstCommand (text ++ more) e (all.0 ++ more)) same.0 (all.1 more)),
    )

pub whole_step : (text : List ℕ) (c : PlainCommand) (rest : List ℕ) → IsWhole text → FirstCommand text c rest
    → IsWhole rest × ((more : List ℕ) → FirstCommand (text ++ more) c (rest ++ more))
whole_step text c rest whole h = step text whole.0 c rest whole.1 h

-- ---- as a text is read
ends_line : (front : List ℕ) (n : ℕ) → length front ≡ suc n → get_or front n 0 ≡ line_feed → EndsLine front
unfolding EndsLine
ends_line [] n long last = absurd (omega arith)
ends_line (x ∷ []) zero long last = ([], ap (λ y. y ∷ []) last)
ends_line (x ∷ []) (suc n) long last = absurd (omega arith)
ends_line (x ∷ y ∷ front) zero long last = absurd (omega arith)
ends_line (x ∷ y ∷ front) (suc n) long last =
    let rest = ends_line (y ∷ front) n (omega arith) last in
    (x ∷ rest.0, ap (λ l. x ∷ l) rest.1)

-- the last byte of what was read
last_read : (before front rest : List ℕ) (n : ℕ) → 0 < length front → n ≡ length before + length front → get_or (before ++ (front ++ rest)) (n - 1) 0 ≡ get_or front (length front - 1) 0
last_read before front rest n some e =
    let at : n - 1 ≡ length before + (length front - 1) = omega arith in
    ap (λ i. get_or (before ++ (front ++ rest)) i 0) at ∙ get_or-append-add before (front ++ rest) (length front - 1) 0 ∙ get_or_append_left front rest 0 (length front - 1) (omega arith)

-- what a text holds of whole commands, after one more of them
pub record HasRead (text : List ℕ) (n : ℕ) (rest : List ℕ) : Type 0 where
  pub within : n ≤ length text
  pub whole : IsWhole (take n text)
  pub behind : rest ≡ drop n text

pub read_on : (text : List ℕ) (n : ℕ) (old : List ℕ) (c : PlainCommand) (new : List ℕ) → HasRead text n old → FirstCommand old c new → c ≢ bad_end
    → get_or text (length text - length new - 1) 0 ≡ line_feed → HasRead text (length text - length new) new
read_on text n old c new so_far h whole last =
    let s = first_suffix old c new h in
    let parts : text ≡ take n text ++ (s.0 ++ new) = sym (take-append-drop n text) ∙ ap (λ l. take n text ++ l) (sym so_far.behind ∙ s.1) in
    let joined : text ≡ (take n text ++ s.0) ++ new = parts ∙ sym (append_assoc (take n text) s.0 new) in
    let sum : length text ≡ length (take n text ++ s.0) + length new = ap length joined ∙ length-append (take n text ++ s.0) new in
    let front : length (take n text ++ s.0) ≡ length (take n text) + length s.0 = length-append (take n text) s.0 in
    let at : length (take n text ++ s.0) ≡ length text - length new = omega arith in
    let shorter = FirstCommand-shorter old c new h in
    let own : length old ≡ length s.0 + length new = ap length s.1 ∙ length-append s.0 new in
    let some : 0 < length s.0 = omega arith in
    let feed = sym (last_read (take n text) s.0 new (length text - length new) some (sym at ∙ front)) ∙ sym (ap (λ t. get_or t (length text - length new - 1) 0) parts) ∙ last in
    let first = first_goes_on s.0 new c whole (ends_line s.0 (length s.0 - 1) (omega arith) feed) (subst (λ t. FirstCommand t c new) s.1 h) in
    record {
      within = omega arith;
      whole = subst (λ t. IsWhole t) (sym (ap (λ t. take (length text - length new) t) joined ∙ take_at (take n text ++ s.0) new (length text - length new) at))
          (is_whole_more (take n text) s.0 c so_far.whole first);
      behind = sym (ap (λ t. drop (length text - length new) t) joined ∙ drop_at (take n text ++ s.0) new (length text - length new) at);
    }
