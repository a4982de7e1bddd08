-- Which commands a script holds.
use Rattle.std.specs.Prelude.{◌≡◌, ◌≢◌, ℕ, List, [], ◌∷◌, ◌++◌, Contains, IsUtf8, codes}
use Rattle.fw_script.specs.Hours.{IsHourText}
use Rattle.fw_script.specs.Lines.{StartsWithLine, StartsWithLines, FollowsLines}
use Rattle.fw_script.specs.Plain.{PlainCommand, entry, report, lines, state, checkpoint, bad_command, bad_end}
use Rattle.fw_script.specs.declared.commands.EntryKind.{EntryKind}
use Rattle.fw_script.specs.declared.commands.EntryKind.TheVariants as kind
use Rattle.fw_script.specs.Words.{space, IsLineCount, IsSequence}

-- the word that begins the line of an entry
unfoldable pub entry_word : EntryKind → List ℕ
entry_word kind.Post = codes "post"
entry_word kind.Commit = codes "commit"
entry_word kind.Policy = codes "policy"
entry_word kind.AddPurchase = codes "add"
entry_word kind.Withdraw = codes "withdraw"

-- An entry of this kind, whose line ends with this word, takes so many of the lines that follow. The word is their number, but for a
-- withdrawal: that takes none, and the word is the sequence number of what it withdraws.
unfoldable pub TakesLines : EntryKind → List ℕ → ℕ → Type 0
TakesLines kind.Post last count = IsLineCount last count
TakesLines kind.Commit last count = IsLineCount last count
TakesLines kind.Policy last count = IsLineCount last count
TakesLines kind.AddPurchase last count = IsLineCount last count
TakesLines kind.Withdraw last count = ((target : ℕ) × IsSequence last target) × (count ≡ 0)

-- the content of an entry of this kind: the lines that it takes, but of a withdrawal the last word of its line
unfoldable pub entry_content : EntryKind → List ℕ → List ℕ → List ℕ
entry_content kind.Post last taken = taken
entry_content kind.Commit last taken = taken
entry_content kind.Policy last taken = taken
entry_content kind.AddPurchase last taken = taken
entry_content kind.Withdraw last taken = last

-- the line is `WORD ORIGIN SEQUENCE LAST`, and asks for an entry of this kind, which takes so many of the lines that follow
pub record IsEntryLine (k : EntryKind) (line origin sequence last : List ℕ) (count : ℕ) : Type 0 where
  pub in_turn : line ≡ entry_word k ++ space ∷ (origin ++ space ∷ (sequence ++ space ∷ last))
  pub origin_is_word : ¬ Contains origin space
  pub sequence_is_word : ¬ Contains sequence space
  pub takes : TakesLines k last count

-- the line is `report KEY FROM TO`: the key may hold spaces, and the times stand on whole hours
pub record IsReportLine (line key : List ℕ) (from to : ℕ) : Type 0 where
  pub from_text : List ℕ
  pub to_text : List ℕ
  pub in_turn : line ≡ codes "report" ++ space ∷ (key ++ space ∷ (from_text ++ space ∷ to_text))
  pub from_is_word : ¬ Contains from_text space
  pub to_is_word : ¬ Contains to_text space
  pub key_is_text : IsUtf8 key
  pub from_is_hour : IsHourText from_text from
  pub to_is_hour : IsHourText to_text to

-- the line is `lines FROM TO`: the times stand on whole hours
pub record IsLinesLine (line : List ℕ) (from to : ℕ) : Type 0 where
  pub from_text : List ℕ
  pub to_text : List ℕ
  pub in_turn : line ≡ codes "lines" ++ space ∷ (from_text ++ space ∷ to_text)
  pub from_is_word : ¬ Contains from_text space
  pub to_is_word : ¬ Contains to_text space
  pub from_is_hour : IsHourText from_text from
  pub to_is_hour : IsHourText to_text to

-- the line is none of the commands
pub record IsNoCommand (line : List ℕ) : Type 0 where
  pub no_entry : (k : EntryKind) (origin sequence last : List ℕ) (count : ℕ) → ¬ IsEntryLine k line origin sequence last count
  pub no_report : (key : List ℕ) (from to : ℕ) → ¬ IsReportLine line key from to
  pub no_lines : (from to : ℕ) → ¬ IsLinesLine line from to
  pub no_state : line ≢ codes "state"
  pub no_checkpoint : line ≢ codes "checkpoint"

-- the line, with the text that follows it, is this entry, and `rest` follows the lines that it takes
pub record IsEntry (k : EntryKind) (line following origin sequence content rest : List ℕ) : Type 0 where
  pub last : List ℕ
  pub count : ℕ
  pub taken : List ℕ
  pub asked : IsEntryLine k line origin sequence last count
  pub given : StartsWithLines count following taken rest
  pub brought : content ≡ entry_content k last taken

-- the line asks for more lines than follow it
pub record IsCutShort (line following : List ℕ) : Type 0 where
  pub kind : EntryKind
  pub origin : List ℕ
  pub sequence : List ℕ
  pub last : List ℕ
  pub count : ℕ
  pub asked : IsEntryLine kind line origin sequence last count
  pub too_few : (rest : List ℕ) → ¬ FollowsLines count following rest

-- the line, with the text that follows it, is this command, and `rest` is left to read
unfoldable pub IsCommand : List ℕ → List ℕ → PlainCommand → List ℕ → Type 0
IsCommand line following (entry k origin sequence content) rest = IsEntry k line following origin sequence content rest
IsCommand line following (report key from to) rest = IsReportLine line key from to × (rest ≡ following)
IsCommand line following (lines from to) rest = IsLinesLine line from to × (rest ≡ following)
IsCommand line following state rest = (line ≡ codes "state") × (rest ≡ following)
IsCommand line following checkpoint rest = (line ≡ codes "checkpoint") × (rest ≡ following)
IsCommand line following bad_command rest = IsNoCommand line × (rest ≡ following)
IsCommand line following bad_end rest = IsCutShort line following × (rest ≡ [])

-- the first command of a text, and what is left of the text after it
pub record FirstCommand (text : List ℕ) (command : PlainCommand) (rest : List ℕ) : Type 0 where
  pub line : List ℕ
  pub following : List ℕ
  pub begins : StartsWithLine text line following
  pub reads : IsCommand line following command rest

-- the commands that a script holds, in order
unfoldable pub CommandsOf : List ℕ → List PlainCommand → Type 0
CommandsOf text [] = text ≡ []
CommandsOf text (command ∷ commands) = (rest : List ℕ) × FirstCommand text command rest × CommandsOf rest commands

-- these commands come first in the text, and `rest` is what follows them
unfoldable pub StartsWithCommands : List ℕ → List PlainCommand → List ℕ → Type 0
StartsWithCommands text [] rest = rest ≡ text
StartsWithCommands text (command ∷ commands) rest = (next : List ℕ) × FirstCommand text command next × StartsWithCommands next commands rest
