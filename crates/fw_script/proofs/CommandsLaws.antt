-- A text holds one list of commands.
use Rattle.std.proofs.Common.{◌≡◌, ◌⊎◌, inl, inr, ℕ, ◌≤◌, ◌<◌, List, [], ◌∷◌, ◌++◌, length, lit<, refl, sym, ap, subst, ◌∙◌, arith, append_assoc}
use Rattle.std.specs.Prelude.{codes, Contains, IsUtf8, Bool, true, false, Option, Some, None, MatchOption, unwrap_or, ◌≢◌}
use Rattle.std.specs.Str.Parse.{digits_value}
use Rattle.fw_script.specs.declared.commands.Command.{Command}
use Rattle.fw_script.specs.declared.commands.Command.TheVariants.{BadCommand}
use Rattle.fw_script.specs.Commands.{IsEntryLine, IsReportLine, IsLinesLine, IsEntry, IsCutShort, IsCommand, FirstCommand, CommandsOf, TakesLines, entry_content, entry_word}
use Rattle.fw_script.specs.declared.commands.EntryKind.{EntryKind}
use Rattle.fw_script.specs.declared.commands.EntryKind.TheVariants as kind
use Rattle.fw_script.specs.Hours.{IsHourText}
use Rattle.fw_script.specs.Plain.{PlainCommand, entry, report, lines, state, checkpoint, bad_command, bad_end, plain_command}
use Rattle.fw_script.specs.Splits.{FirstSplit, LastSplit}
use Rattle.fw_script.specs.Words.{IsLineCount, IsSequence, space}
use Rattle.fw_script.specs.Lines.{StartsWithLine, StartsWithLines, FollowsLines}
use Rattle.fw_script.proofs.WordsLaws.{FirstSplit-one, LastSplit-one, arguments-one}
use Rattle.fw_script.proofs.LinesLaws.{FollowsLines-start, StartsWithLine-one, StartsWithLines-one, StartsWithLine-shorter, StartsWithLines-shorter}
use Rattle.fw_script.proofs.HoursLaws.{IsHourText-one}

-- an entry's line, split word by word
pub entry_arguments : (k : EntryKind) (line arguments o s l : List ℕ) (n : ℕ) → line ≡ entry_word k ++ space ∷ arguments → IsEntryLine k line o s l n → FirstSplit space arguments o (s ++ space ∷ l)
entry_arguments k line arguments o s l n h e = record { in_turn = arguments-one (entry_word k) line _ _ h e.in_turn; clear = e.origin_is_word }

pub entry_rest : (k : EntryKind) (line arguments origin rest o s l : List ℕ) (n : ℕ) → line ≡ entry_word k ++ space ∷ arguments → FirstSplit space arguments origin rest
    → IsEntryLine k line o s l n → FirstSplit space rest s l
entry_rest k line arguments origin rest o s l n h f e = record {
  in_turn = (FirstSplit-one space arguments _ _ _ _ f (entry_arguments k line arguments o s l n h e)).1;
  clear = e.sequence_is_word;
}

pub entry_takes : (k : EntryKind) (line arguments origin rest sequence last o s l : List ℕ) (n : ℕ) → line ≡ entry_word k ++ space ∷ arguments → FirstSplit space arguments origin rest
    → FirstSplit space rest sequence last → IsEntryLine k line o s l n → TakesLines k last n
entry_takes k line arguments origin rest sequence last o s l n h f g e =
    subst (λ w. TakesLines k w n) (FirstSplit-one space rest _ _ _ _ (entry_rest k line arguments origin rest o s l n h f e) g).1 e.takes

-- a line that is split so is an entry's
pub entry_there : (k : EntryKind) (line arguments origin rest sequence last : List ℕ) (n : ℕ) → line ≡ entry_word k ++ space ∷ arguments → FirstSplit space arguments origin rest
    → FirstSplit space rest sequence last → TakesLines k last n → IsEntryLine k line origin sequence last n
entry_there k line arguments origin rest sequence last n h f g takes = record {
  in_turn = h ∙ ap (λ l. entry_word k ++ space ∷ l) (f.in_turn ∙ ap (λ l. origin ++ space ∷ l) g.in_turn);
  origin_is_word = f.clear;
  sequence_is_word = g.clear;
  takes = takes;
}

pub never_both : (b : Bool) → b ≡ true → b ≡ false → ⊥
never_both true h k = absurd (cc)
never_both false h k = absurd (cc)

-- what holds of each kind of entry holds of all
pub every_kind : (P : EntryKind → Type 0) → P kind.Post → P kind.Commit → P kind.Policy → P kind.AddPurchase → P kind.Withdraw → (k : EntryKind) → P k
every_kind P post commit policy add withdraw kind.Post = post
every_kind P post commit policy add withdraw kind.Commit = commit
every_kind P post commit policy add withdraw kind.Policy = policy
every_kind P post commit policy add withdraw kind.AddPurchase = add
every_kind P post commit policy add withdraw kind.Withdraw = withdraw

-- a kind of which the last word of an entry's line is a number of lines
abbrev pub HasLines : EntryKind → Type 0
HasLines k = (k ≡ kind.Post) ⊎ ((k ≡ kind.Commit) ⊎ ((k ≡ kind.Policy) ⊎ (k ≡ kind.AddPurchase)))

withdraws_no_lines : HasLines kind.Withdraw → ⊥
withdraws_no_lines (inl e) = absurd (cc)
withdraws_no_lines (inr (inl e)) = absurd (cc)
withdraws_no_lines (inr (inr (inl e))) = absurd (cc)
withdraws_no_lines (inr (inr (inr e))) = absurd (cc)

pub takes_lines : (k : EntryKind) (last : List ℕ) (read : Option ℕ) → HasLines k → MatchOption read ((count : ℕ) → ¬ IsLineCount last count) (IsLineCount last)
    → MatchOption read ((count : ℕ) → ¬ TakesLines k last count) (TakesLines k last)
unfolding TakesLines
takes_lines kind.Post last read lined h = h
takes_lines kind.Commit last read lined h = h
takes_lines kind.Policy last read lined h = h
takes_lines kind.AddPurchase last read lined h = h
takes_lines kind.Withdraw last read lined h = absurd (withdraws_no_lines lined)

pub content_is_lines : (k : EntryKind) (last taken : List ℕ) → HasLines k → taken ≡ entry_content k last taken
unfolding entry_content
content_is_lines kind.Post last taken lined = refl
content_is_lines kind.Commit last taken lined = refl
content_is_lines kind.Policy last taken lined = refl
content_is_lines kind.AddPurchase last taken lined = refl
content_is_lines kind.Withdraw last taken lined = absurd (withdraws_no_lines lined)

-- a report's line, split word by word from its end
pub report_arguments : (line arguments key : List ℕ) (from to : ℕ) → line ≡ codes "report" ++ space ∷ arguments → (e : IsReportLine line key from to)
    → LastSplit space arguments (key ++ space ∷ e.from_text) e.to_text
report_arguments line arguments key from to h e = record {
  in_turn = arguments-one (codes "report") line _ _ h e.in_turn ∙ sym (append_assoc key (space ∷ e.from_text) (space ∷ e.to_text));
  clear = e.to_is_word;
}

pub report_rest : (line arguments rest last key : List ℕ) (from to : ℕ) → line ≡ codes "report" ++ space ∷ arguments → LastSplit space arguments rest last
    → (e : IsReportLine line key from to) → LastSplit space rest key e.from_text
report_rest line arguments rest last key from to h f e = record {
  in_turn = (LastSplit-one space arguments _ _ _ _ f (report_arguments line arguments key from to h e)).0;
  clear = e.from_is_word;
}

-- the words of a report's line are those that it was split into
pub record IsReportOf (key from_text to_text k : List ℕ) (from to : ℕ) : Type 0 where
  pub key_is_text : IsUtf8 key
  pub same_key : k ≡ key
  pub from_is_hour : IsHourText from_text from
  pub to_is_hour : IsHourText to_text to

pub report_words : (line arguments rest last key first k : List ℕ) (from to : ℕ) → line ≡ codes "report" ++ space ∷ arguments → LastSplit space arguments rest last
    → LastSplit space rest key first → IsReportLine line k from to → IsReportOf key first last k from to
report_words line arguments rest last key first k from to h f g e =
    let late = LastSplit-one space arguments _ _ _ _ (report_arguments line arguments k from to h e) f in
    let early = LastSplit-one space rest _ _ _ _ (report_rest line arguments rest last k from to h f e) g in
    record {
      key_is_text = subst IsUtf8 early.0 e.key_is_text;
      same_key = early.0;
      from_is_hour = subst (λ w. IsHourText w from) early.1 e.from_is_hour;
      to_is_hour = subst (λ w. IsHourText w to) late.1 e.to_is_hour;
    }

-- the line of `lines`, split word by word from its end
pub lines_last : (line : List ℕ) (from to : ℕ) → (e : IsLinesLine line from to) → LastSplit space line (codes "lines" ++ space ∷ e.from_text) e.to_text
lines_last line from to e = record { in_turn = e.in_turn ∙ sym (append_assoc (codes "lines") (space ∷ e.from_text) (space ∷ e.to_text)); clear = e.to_is_word }

pub lines_rest : (line rest last : List ℕ) (from to : ℕ) → LastSplit space line rest last → (e : IsLinesLine line from to) → LastSplit space rest (codes "lines") e.from_text
lines_rest line rest last from to f e = record {
  in_turn = (LastSplit-one space line _ _ _ _ f (lines_last line from to e)).0;
  clear = e.from_is_word;
}

-- the words of the line are those that it was split into
pub record IsLinesOf (word from_text to_text : List ℕ) (from to : ℕ) : Type 0 where
  pub same_word : word ≡ codes "lines"
  pub from_is_hour : IsHourText from_text from
  pub to_is_hour : IsHourText to_text to

pub lines_words : (line rest last word first : List ℕ) (from to : ℕ) → LastSplit space line rest last → LastSplit space rest word first → IsLinesLine line from to
    → IsLinesOf word first last from to
lines_words line rest last word first from to f g e =
    let late = LastSplit-one space line _ _ _ _ (lines_last line from to e) f in
    let early = LastSplit-one space rest _ _ _ _ (lines_rest line rest last from to f e) g in
    record {
      same_word = sym early.0;
      from_is_hour = subst (λ w. IsHourText w from) early.1 e.from_is_hour;
      to_is_hour = subst (λ w. IsHourText w to) late.1 e.to_is_hour;
    }

IsLineCount-one : (word word' : List ℕ) (n m : ℕ) → word ≡ word' → IsLineCount word n → IsLineCount word' m → n ≡ m
IsLineCount-one word word' n m e h k = sym h.decimal.value ∙ ap (λ w. digits_value 10 w) e ∙ k.decimal.value

-- an entry takes one number of lines
TakesLines-one : (k : EntryKind) (word word' : List ℕ) (n m : ℕ) → word ≡ word' → TakesLines k word n → TakesLines k word' m → n ≡ m
unfolding TakesLines
TakesLines-one kind.Post word word' n m e h k = IsLineCount-one word word' n m e h k
TakesLines-one kind.Commit word word' n m e h k = IsLineCount-one word word' n m e h k
TakesLines-one kind.Policy word word' n m e h k = IsLineCount-one word word' n m e h k
TakesLines-one kind.AddPurchase word word' n m e h k = IsLineCount-one word word' n m e h k
TakesLines-one kind.Withdraw word word' n m e h k = h.1 ∙ sym k.1

-- the arguments of an entry's line are one list
pub record AreArguments (o s l o' s' l' : List ℕ) (n m : ℕ) : Type 0 where
  pub origin : o ≡ o'
  pub sequence : s ≡ s'
  pub last : l ≡ l'
  pub count : n ≡ m

pub IsEntryLine-one : (k : EntryKind) (line o s l o' s' l' : List ℕ) (n m : ℕ) → IsEntryLine k line o s l n → IsEntryLine k line o' s' l' m → AreArguments o s l o' s' l' n m
IsEntryLine-one k line o s l o' s' l' n m h g =
    let f = entry_arguments k line _ o s l n h.in_turn h in
    let first = FirstSplit-one space _ _ _ _ _ f (entry_arguments k line _ o' s' l' m h.in_turn g) in
    let second = FirstSplit-one space _ _ _ _ _ (entry_rest k line _ o _ o s l n h.in_turn f h) (entry_rest k line _ o _ o' s' l' m h.in_turn f g) in
    record { origin = first.0; sequence = second.0; last = second.1; count = TakesLines-one k l l' n m second.1 h.takes g.takes }

IsReportLine-one : (line key key' : List ℕ) (from to from' to' : ℕ) → IsReportLine line key from to → IsReportLine line key' from' to' → (key ≡ key') × (from ≡ from') × (to ≡ to')
IsReportLine-one line key key' from to from' to' h k =
    let last = report_arguments line _ key from to h.in_turn h in
    let first = report_rest line _ _ _ key from to h.in_turn last h in
    let same = report_words line _ _ _ _ _ key' from' to' h.in_turn last first k in
    (sym same.same_key, IsHourText-one h.from_text from from' h.from_is_hour same.from_is_hour, IsHourText-one h.to_text to to' h.to_is_hour same.to_is_hour)

IsLinesLine-one : (line : List ℕ) (from to from' to' : ℕ) → IsLinesLine line from to → IsLinesLine line from' to' → (from ≡ from') × (to ≡ to')
IsLinesLine-one line from to from' to' h k =
    let same = lines_words line _ _ (codes "lines") h.from_text from' to' (lines_last line from to h) (record { in_turn = refl; clear = h.from_is_word }) k in
    (IsHourText-one h.from_text from from' h.from_is_hour same.from_is_hour, IsHourText-one h.to_text to to' h.to_is_hour same.to_is_hour)

apart : (x y : ℕ) → x < y → x ≡ y → ⊥
apart x y lt e = omega arith

heads : (x y : ℕ) (xs ys : List ℕ) → x ∷ xs ≡ y ∷ ys → x ≡ y
heads x y xs ys e = cc

seconds : (a b x y : ℕ) (xs ys : List ℕ) → a ∷ x ∷ xs ≡ b ∷ y ∷ ys → x ≡ y
seconds a b x y xs ys e = cc

thirds : (a b c d x y : ℕ) (xs ys : List ℕ) → a ∷ b ∷ x ∷ xs ≡ c ∷ d ∷ y ∷ ys → x ≡ y
thirds a b c d x y xs ys e = cc

-- the words of entries differ, from each other and from those of the other commands
same_kind : (k j : EntryKind) (xs ys : List ℕ) → entry_word k ++ xs ≡ entry_word j ++ ys → k ≡ j
unfolding entry_word
same_kind kind.Post kind.Post xs ys e = refl
same_kind kind.Commit kind.Commit xs ys e = refl
same_kind kind.Policy kind.Policy xs ys e = refl
same_kind kind.AddPurchase kind.AddPurchase xs ys e = refl
same_kind kind.Withdraw kind.Withdraw xs ys e = refl
same_kind kind.Post kind.Commit xs ys e = absurd (apart 99 112 (lit< tt) (sym (heads _ _ _ _ e)))
same_kind kind.Commit kind.Post xs ys e = absurd (apart 99 112 (lit< tt) (heads _ _ _ _ e))
same_kind kind.Commit kind.Policy xs ys e = absurd (apart 99 112 (lit< tt) (heads _ _ _ _ e))
same_kind kind.Policy kind.Commit xs ys e = absurd (apart 99 112 (lit< tt) (sym (heads _ _ _ _ e)))
same_kind kind.Post kind.Policy xs ys e = absurd (apart 108 115 (lit< tt) (sym (thirds _ _ _ _ _ _ _ _ e)))
same_kind kind.Policy kind.Post xs ys e = absurd (apart 108 115 (lit< tt) (thirds _ _ _ _ _ _ _ _ e))
same_kind kind.AddPurchase kind.Post xs ys e = absurd (apart 97 112 (lit< tt) (heads _ _ _ _ e))
same_kind kind.Post kind.AddPurchase xs ys e = absurd (apart 97 112 (lit< tt) (sym (heads _ _ _ _ e)))
same_kind kind.AddPurchase kind.Commit xs ys e = absurd (apart 97 99 (lit< tt) (heads _ _ _ _ e))
same_kind kind.Commit kind.AddPurchase xs ys e = absurd (apart 97 99 (lit< tt) (sym (heads _ _ _ _ e)))
same_kind kind.AddPurchase kind.Policy xs ys e = absurd (apart 97 112 (lit< tt) (heads _ _ _ _ e))
same_kind kind.Policy kind.AddPurchase xs ys e = absurd (apart 97 112 (lit< tt) (sym (heads _ _ _ _ e)))
same_kind kind.Post kind.Withdraw xs ys e = absurd (apart 112 119 (lit< tt) (heads _ _ _ _ e))
same_kind kind.Withdraw kind.Post xs ys e = absurd (apart 112 119 (lit< tt) (sym (heads _ _ _ _ e)))
same_kind kind.Commit kind.Withdraw xs ys e = absurd (apart 99 119 (lit< tt) (heads _ _ _ _ e))
same_kind kind.Withdraw kind.Commit xs ys e = absurd (apart 99 119 (lit< tt) (sym (heads _ _ _ _ e)))
same_kind kind.Policy kind.Withdraw xs ys e = absurd (apart 112 119 (lit< tt) (heads _ _ _ _ e))
same_kind kind.Withdraw kind.Policy xs ys e = absurd (apart 112 119 (lit< tt) (sym (heads _ _ _ _ e)))
same_kind kind.AddPurchase kind.Withdraw xs ys e = absurd (apart 97 119 (lit< tt) (heads _ _ _ _ e))
same_kind kind.Withdraw kind.AddPurchase xs ys e = absurd (apart 97 119 (lit< tt) (sym (heads _ _ _ _ e)))

not_report : (k : EntryKind) (xs ys : List ℕ) → entry_word k ++ xs ≡ codes "report" ++ ys → ⊥
unfolding entry_word
not_report kind.Post xs ys e = apart 112 114 (lit< tt) (heads _ _ _ _ e)
not_report kind.Commit xs ys e = apart 99 114 (lit< tt) (heads _ _ _ _ e)
not_report kind.Policy xs ys e = apart 112 114 (lit< tt) (heads _ _ _ _ e)
not_report kind.AddPurchase xs ys e = apart 97 114 (lit< tt) (heads _ _ _ _ e)
not_report kind.Withdraw xs ys e = apart 114 119 (lit< tt) (sym (heads _ _ _ _ e))

not_lines : (k : EntryKind) (xs ys : List ℕ) → entry_word k ++ xs ≡ codes "lines" ++ ys → ⊥
unfolding entry_word
not_lines kind.Post xs ys e = apart 108 112 (lit< tt) (sym (heads _ _ _ _ e))
not_lines kind.Commit xs ys e = apart 99 108 (lit< tt) (heads _ _ _ _ e)
not_lines kind.Policy xs ys e = apart 108 112 (lit< tt) (sym (heads _ _ _ _ e))
not_lines kind.AddPurchase xs ys e = apart 97 108 (lit< tt) (heads _ _ _ _ e)
not_lines kind.Withdraw xs ys e = apart 108 119 (lit< tt) (sym (heads _ _ _ _ e))

not_state : (k : EntryKind) (xs : List ℕ) → entry_word k ++ xs ≡ codes "state" → ⊥
unfolding entry_word
not_state kind.Post xs e = apart 112 115 (lit< tt) (heads _ _ _ _ e)
not_state kind.Commit xs e = apart 99 115 (lit< tt) (heads _ _ _ _ e)
not_state kind.Policy xs e = apart 112 115 (lit< tt) (heads _ _ _ _ e)
not_state kind.AddPurchase xs e = apart 97 115 (lit< tt) (heads _ _ _ _ e)
not_state kind.Withdraw xs e = apart 115 119 (lit< tt) (sym (heads _ _ _ _ e))

not_checkpoint : (k : EntryKind) (xs : List ℕ) → entry_word k ++ xs ≡ codes "checkpoint" → ⊥
unfolding entry_word
not_checkpoint kind.Post xs e = apart 99 112 (lit< tt) (sym (heads _ _ _ _ e))
not_checkpoint kind.Commit xs e = apart 104 111 (lit< tt) (sym (seconds _ _ _ _ _ _ e))
not_checkpoint kind.Policy xs e = apart 99 112 (lit< tt) (sym (heads _ _ _ _ e))
not_checkpoint kind.AddPurchase xs e = apart 97 99 (lit< tt) (heads _ _ _ _ e)
not_checkpoint kind.Withdraw xs e = apart 99 119 (lit< tt) (sym (heads _ _ _ _ e))

-- a line is of one command
entry_no_report : (k : EntryKind) (line o s l key : List ℕ) (n from to : ℕ) → IsEntryLine k line o s l n → IsReportLine line key from to → ⊥
entry_no_report k line o s l key n from to e r = not_report k _ _ (sym e.in_turn ∙ r.in_turn)

entry_no_lines : (k : EntryKind) (line o s l : List ℕ) (n from to : ℕ) → IsEntryLine k line o s l n → IsLinesLine line from to → ⊥
entry_no_lines k line o s l n from to e r = not_lines k _ _ (sym e.in_turn ∙ r.in_turn)

report_no_lines : (line key : List ℕ) (from to from' to' : ℕ) → IsReportLine line key from to → IsLinesLine line from' to' → ⊥
report_no_lines line key from to from' to' r l = apart 108 114 (lit< tt) (sym (heads _ _ _ _ (sym r.in_turn ∙ l.in_turn)))

entry_no_state : (k : EntryKind) (line o s l : List ℕ) (n : ℕ) → IsEntryLine k line o s l n → line ≡ codes "state" → ⊥
entry_no_state k line o s l n e is = not_state k _ (sym e.in_turn ∙ is)

report_no_state : (line key : List ℕ) (from to : ℕ) → IsReportLine line key from to → line ≡ codes "state" → ⊥
report_no_state line key from to r is = apart 114 115 (lit< tt) (heads _ _ _ _ (sym r.in_turn ∙ is))

lines_no_state : (line : List ℕ) (from to : ℕ) → IsLinesLine line from to → line ≡ codes "state" → ⊥
lines_no_state line from to l is = apart 108 115 (lit< tt) (heads _ _ _ _ (sym l.in_turn ∙ is))

entry_no_checkpoint : (k : EntryKind) (line o s l : List ℕ) (n : ℕ) → IsEntryLine k line o s l n → line ≡ codes "checkpoint" → ⊥
entry_no_checkpoint k line o s l n e is = not_checkpoint k _ (sym e.in_turn ∙ is)

report_no_checkpoint : (line key : List ℕ) (from to : ℕ) → IsReportLine line key from to → line ≡ codes "checkpoint" → ⊥
report_no_checkpoint line key from to r is = apart 99 114 (lit< tt) (sym (heads _ _ _ _ (sym r.in_turn ∙ is)))

lines_no_checkpoint : (line : List ℕ) (from to : ℕ) → IsLinesLine line from to → line ≡ codes "checkpoint" → ⊥
lines_no_checkpoint line from to l is = apart 99 108 (lit< tt) (sym (heads _ _ _ _ (sym l.in_turn ∙ is)))

state_no_checkpoint : (line : List ℕ) → line ≡ codes "state" → line ≡ codes "checkpoint" → ⊥
state_no_checkpoint line is this = apart 99 115 (lit< tt) (sym (heads _ _ _ _ (sym is ∙ this)))

-- an entry's line is of one kind, with one list of arguments
entry_one : (k j : EntryKind) (line o s l o' s' l' : List ℕ) (n m : ℕ) → IsEntryLine k line o s l n → IsEntryLine j line o' s' l' m → (k ≡ j) × AreArguments o s l o' s' l' n m
entry_one k j line o s l o' s' l' n m h g =
    let same = same_kind k j _ _ (sym h.in_turn ∙ g.in_turn) in
    (same, IsEntryLine-one k line o s l o' s' l' n m h (subst (λ i. IsEntryLine i line o' s' l' m) (sym same) g))

-- an entry is of one kind, with one origin, one sequence number, one content and one rest
record AreSame (k j : EntryKind) (o s c r o' s' c' r' : List ℕ) : Type 0 where
  pub kind : k ≡ j
  pub origin : o ≡ o'
  pub sequence : s ≡ s'
  pub content : c ≡ c'
  pub rest : r ≡ r'

IsEntry-one : (k j : EntryKind) (line following o s c rest o' s' c' rest' : List ℕ) → IsEntry k line following o s c rest → IsEntry j line following o' s' c' rest'
    → AreSame k j o s c rest o' s' c' rest'
IsEntry-one k j line following o s c rest o' s' c' rest' h g =
    let one = entry_one k j line o s h.last o' s' g.last h.count g.count h.asked g.asked in
    let taken = StartsWithLines-one g.count following h.taken rest g.taken rest' (subst (λ n. StartsWithLines n following h.taken rest) one.1.count h.given) g.given in
    record {
      kind = one.0;
      origin = one.1.origin;
      sequence = one.1.sequence;
      content = h.brought ∙ ap (λ i. entry_content i h.last h.taken) one.0 ∙ ap (λ l. entry_content j l h.taken) one.1.last ∙ ap (λ l. entry_content j g.last l) taken.0 ∙ sym g.brought;
      rest = taken.1;
    }

entry_not_short : (k : EntryKind) (line following o s c rest : List ℕ) → IsEntry k line following o s c rest → IsCutShort line following → ⊥
entry_not_short k line following o s c rest h short =
    let one = entry_one k short.kind line o s h.last _ _ short.last h.count short.count h.asked short.asked in
    short.too_few rest (subst (λ n. FollowsLines n following rest) one.1.count h.given.follows)

-- a line that is no entry's, no report's and no list of lines is a word alone or no command
pub word_or_none : (line : List ℕ) (read : Option Command) → ((k : EntryKind) (o s l : List ℕ) (n : ℕ) → IsEntryLine k line o s l n → ⊥)
    → ((key : List ℕ) (from to : ℕ) → IsReportLine line key from to → ⊥) → ((from to : ℕ) → IsLinesLine line from to → ⊥)
    → MatchOption read ((line ≢ codes "state") × (line ≢ codes "checkpoint")) (λ c. (following : List ℕ) → IsCommand line following (plain_command c) following)
    → (following : List ℕ) → IsCommand line following (plain_command (unwrap_or read BadCommand)) following
unfolding IsCommand
word_or_none line (Some c) no_entry no_report no_lines reads following = reads following
word_or_none line None no_entry no_report no_lines no_word following =
    (record { no_entry = no_entry; no_report = no_report; no_lines = no_lines; no_state = no_word.0; no_checkpoint = no_word.1 }, refl)

-- a line and what follows it are one command
IsCommand-one : (line following : List ℕ) (c d : PlainCommand) (rest rest' : List ℕ) → IsCommand line following c rest → IsCommand line following d rest' → (c ≡ d) × (rest ≡ rest')
unfolding IsCommand
IsCommand-one line following (entry k o s c) (entry j o' s' c') rest rest' h g = let same = IsEntry-one _ _ _ _ _ _ _ _ _ _ _ _ h g in (cc, same.rest)
IsCommand-one line following (report key from to) (report key' from' to') rest rest' h g = let same = IsReportLine-one _ _ _ _ _ _ _ h.0 g.0 in (cc, h.1 ∙ sym g.1)
IsCommand-one line following (lines from to) (lines from' to') rest rest' h g = let same = IsLinesLine-one _ _ _ _ _ h.0 g.0 in (cc, h.1 ∙ sym g.1)
IsCommand-one line following state state rest rest' h g = (refl, h.1 ∙ sym g.1)
IsCommand-one line following checkpoint checkpoint rest rest' h g = (refl, h.1 ∙ sym g.1)
IsCommand-one line following bad_command bad_command rest rest' h g = (refl, h.1 ∙ sym g.1)
IsCommand-one line following bad_end bad_end rest rest' h g = (refl, h.1 ∙ sym g.1)
IsCommand-one line following (entry k o s c) (report key from to) rest rest' h g = absurd (entry_no_report _ _ _ _ _ _ _ _ _ h.asked g.0)
IsCommand-one line following (report key from to) (entry k o s c) rest rest' h g = absurd (entry_no_report _ _ _ _ _ _ _ _ _ g.asked h.0)
IsCommand-one line following (entry k o s c) (lines from to) rest rest' h g = absurd (entry_no_lines _ _ _ _ _ _ _ _ h.asked g.0)
IsCommand-one line following (lines from to) (entry k o s c) rest rest' h g = absurd (entry_no_lines _ _ _ _ _ _ _ _ g.asked h.0)
IsCommand-one line following (entry k o s c) bad_command rest rest' h g = absurd (g.0.no_entry _ _ _ _ _ h.asked)
IsCommand-one line following bad_command (entry k o s c) rest rest' h g = absurd (h.0.no_entry _ _ _ _ _ g.asked)
IsCommand-one line following (entry k o s c) bad_end rest rest' h g = absurd (entry_not_short _ _ _ _ _ _ _ h g.0)
IsCommand-one line following bad_end (entry k o s c) rest rest' h g = absurd (entry_not_short _ _ _ _ _ _ _ g h.0)
IsCommand-one line following (report key from to) (lines from' to') rest rest' h g = absurd (report_no_lines _ _ _ _ _ _ h.0 g.0)
IsCommand-one line following (lines from' to') (report key from to) rest rest' h g = absurd (report_no_lines _ _ _ _ _ _ g.0 h.0)
IsCommand-one line following (entry k o s c) state rest rest' h g = absurd (entry_no_state _ _ _ _ _ _ h.asked g.0)
IsCommand-one line following state (entry k o s c) rest rest' h g = absurd (entry_no_state _ _ _ _ _ _ g.asked h.0)
IsCommand-one line following (report key from to) state rest rest' h g = absurd (report_no_state _ _ _ _ h.0 g.0)
IsCommand-one line following state (report key from to) rest rest' h g = absurd (report_no_state _ _ _ _ g.0 h.0)
IsCommand-one line following (lines from to) state rest rest' h g = absurd (lines_no_state _ _ _ h.0 g.0)
IsCommand-one line following state (lines from to) rest rest' h g = absurd (lines_no_state _ _ _ g.0 h.0)
IsCommand-one line following state bad_command rest rest' h g = absurd (g.0.no_state h.0)
IsCommand-one line following bad_command state rest rest' h g = absurd (h.0.no_state g.0)
IsCommand-one line following state bad_end rest rest' h g = absurd (entry_no_state _ _ _ _ _ _ g.0.asked h.0)
IsCommand-one line following bad_end state rest rest' h g = absurd (entry_no_state _ _ _ _ _ _ h.0.asked g.0)
IsCommand-one line following (entry k o s c) checkpoint rest rest' h g = absurd (entry_no_checkpoint _ _ _ _ _ _ h.asked g.0)
IsCommand-one line following checkpoint (entry k o s c) rest rest' h g = absurd (entry_no_checkpoint _ _ _ _ _ _ g.asked h.0)
IsCommand-one line following (report key from to) checkpoint rest rest' h g = absurd (report_no_checkpoint _ _ _ _ h.0 g.0)
IsCommand-one line following checkpoint (report key from to) rest rest' h g = absurd (report_no_checkpoint _ _ _ _ g.0 h.0)
IsCommand-one line following (lines from to) checkpoint rest rest' h g = absurd (lines_no_checkpoint _ _ _ h.0 g.0)
IsCommand-one line following checkpoint (lines from to) rest rest' h g = absurd (lines_no_checkpoint _ _ _ g.0 h.0)
IsCommand-one line following state checkpoint rest rest' h g = absurd (state_no_checkpoint _ h.0 g.0)
IsCommand-one line following checkpoint state rest rest' h g = absurd (state_no_checkpoint _ g.0 h.0)
IsCommand-one line following checkpoint bad_command rest rest' h g = absurd (g.0.no_checkpoint h.0)
IsCommand-one line following bad_command checkpoint rest rest' h g = absurd (h.0.no_checkpoint g.0)
IsCommand-one line following checkpoint bad_end rest rest' h g = absurd (entry_no_checkpoint _ _ _ _ _ _ g.0.asked h.0)
IsCommand-one line following bad_end checkpoint rest rest' h g = absurd (entry_no_checkpoint _ _ _ _ _ _ h.0.asked g.0)
IsCommand-one line following (report key from to) bad_command rest rest' h g = absurd (g.0.no_report _ _ _ h.0)
IsCommand-one line following bad_command (report key from to) rest rest' h g = absurd (h.0.no_report _ _ _ g.0)
IsCommand-one line following (lines from to) bad_command rest rest' h g = absurd (g.0.no_lines _ _ h.0)
IsCommand-one line following bad_command (lines from to) rest rest' h g = absurd (h.0.no_lines _ _ g.0)
IsCommand-one line following (report key from to) bad_end rest rest' h g = absurd (entry_no_report _ _ _ _ _ _ _ _ _ g.0.asked h.0)
IsCommand-one line following bad_end (report key from to) rest rest' h g = absurd (entry_no_report _ _ _ _ _ _ _ _ _ h.0.asked g.0)
IsCommand-one line following (lines from to) bad_end rest rest' h g = absurd (entry_no_lines _ _ _ _ _ _ _ _ g.0.asked h.0)
IsCommand-one line following bad_end (lines from to) rest rest' h g = absurd (entry_no_lines _ _ _ _ _ _ _ _ h.0.asked g.0)
IsCommand-one line following bad_command bad_end rest rest' h g = absurd (h.0.no_entry _ _ _ _ _ g.0.asked)
IsCommand-one line following bad_end bad_command rest rest' h g = absurd (g.0.no_entry _ _ _ _ _ h.0.asked)

-- a text begins with one command
pub FirstCommand-one : (text : List ℕ) (c d : PlainCommand) (rest rest' : List ℕ) → FirstCommand text c rest → FirstCommand text d rest' → (c ≡ d) × (rest ≡ rest')
FirstCommand-one text c d rest rest' h k =
    let same = StartsWithLine-one text _ _ _ _ h.begins k.begins in
    let reads = subst (λ l. IsCommand l k.following c rest) same.0 (subst (λ f. IsCommand h.line f c rest) same.1 h.reads) in
    IsCommand-one k.line k.following c d rest rest' reads k.reads

pub CommandsOf-one : (text : List ℕ) (these those : List PlainCommand) → CommandsOf text these → CommandsOf text those → these ≡ those
unfolding CommandsOf
CommandsOf-one text [] [] h k = refl
CommandsOf-one text [] (d ∷ those) h k = absurd (k.1.begins.some h)
CommandsOf-one text (c ∷ these) [] h k = absurd (h.1.begins.some k)
CommandsOf-one text (c ∷ these) (d ∷ those) h k =
    let same = FirstCommand-one text c d h.0 k.0 h.1 k.1 in
    let later = CommandsOf-one k.0 these those (subst (λ t. CommandsOf t these) same.1 h.2) k.2 in
    cc

command_length : (line following : List ℕ) (c : PlainCommand) (rest : List ℕ) → IsCommand line following c rest → length rest ≤ length following
unfolding IsCommand
command_length line following (entry k o s c) rest h = StartsWithLines-shorter h.count following h.taken rest h.given
command_length line following (report key from to) rest h = omega (arith, ap (λ t. length t) h.1)
command_length line following (lines from to) rest h = omega (arith, ap (λ t. length t) h.1)
command_length line following state rest h = omega (arith, ap (λ t. length t) h.1)
command_length line following checkpoint rest h = omega (arith, ap (λ t. length t) h.1)
command_length line following bad_command rest h = omega (arith, ap (λ t. length t) h.1)
command_length line following bad_end rest h = rw h.1 (omega arith)

pub FirstCommand-shorter : (text : List ℕ) (c : PlainCommand) (rest : List ℕ) → FirstCommand text c rest → length rest < length text
FirstCommand-shorter text c rest h =
    let line = StartsWithLine-shorter text h.line h.following h.begins in
    let later = command_length h.line h.following c rest h.reads in
    omega arith

-- a line `withdraw ORIGIN SEQUENCE TARGET` is a withdrawal, and what follows it is left
pub withdrawal_there : (text line following o s target : List ℕ) (number : ℕ) → StartsWithLine text line following
    → line ≡ codes "withdraw" ++ space ∷ (o ++ space ∷ (s ++ space ∷ target)) → ¬ Contains o space → ¬ Contains s space → IsSequence target number
    → FirstCommand text (entry kind.Withdraw o s target) following
unfolding IsCommand TakesLines entry_content entry_word
withdrawal_there text line following o s target number begins is o_word s_word reads = record {
  line = line;
  following = following;
  begins = begins;
  reads = record {
    last = target;
    count = 0;
    taken = [];
    asked = record { in_turn = is; origin_is_word = o_word; sequence_is_word = s_word; takes = ((number, reads), refl) };
    given = record { in_turn = refl; follows = FollowsLines-start following };
    brought = refl;
  };
}

-- the content of a withdrawal is a sequence number
pub withdrawal_target : (text o s c rest : List ℕ) → FirstCommand text (entry kind.Withdraw o s c) rest → (number : ℕ) × IsSequence c number
unfolding IsCommand TakesLines entry_content
withdrawal_target text o s c rest h = subst (λ w. (number : ℕ) × IsSequence w number) (sym h.reads.brought) h.reads.asked.takes.0
