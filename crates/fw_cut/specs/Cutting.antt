-- What is cut off a text.
use Rattle.std.specs.Prelude.{◌≡◌, ◌⊎◌, ◌≤◌, ℕ, List, [], false, take, drop, length}
use Rattle.csv.specs.Machine.{Feeds}
use Rattle.csv.specs.Reading.{default_config}
use Rattle.csv.specs.declared.parser.State.{State}
use Rattle.csv.specs.declared.parser.State.TheVariants as st
use Rattle.fw_cut.specs.Records.{Record, IsWhole, all_records}
use Rattle.fw_cut.specs.declared.cutting.Cut.{Cut}

-- no byte of the text ends a record
pub record HasNoEnd (text : List ℕ) : Type 0 where
  pub to : State
  pub fields : Record
  pub field : List ℕ
  pub fed : Feeds default_config st.StartRecord [] [] text to fields field false

-- The first bytes of a text are cut off: whole records, as many as there are and at most `most`.
pub record Cuts (text : List ℕ) (most : ℕ) (cut : Cut) : Type 0 where
  pub within : cut.end ≤ length text
  pub whole : IsWhole (take cut.end text)
  pub count : length (all_records (take cut.end text)) ≡ cut.records
  pub few : cut.records ≤ most
  pub all : (cut.records ≡ most) ⊎ HasNoEnd (drop cut.end text)
