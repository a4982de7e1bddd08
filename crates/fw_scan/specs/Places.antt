-- The places between two bytes as states of the csv crate's machine.
use Rattle.std.specs.Prelude.{ℕ, List, false}
use Rattle.csv.specs.Machine.{Feeds}
use Rattle.csv.specs.Reading.{default_config}
use Rattle.csv.specs.declared.parser.State.{State}
use Rattle.csv.specs.declared.parser.State.TheVariants as st
use Rattle.csv.specs.declared.parser.Action.{Action as Does}
use Rattle.csv.specs.declared.parser.Action.TheVariants as act
use Rattle.fw_scan.specs.declared.place.Place.{Place}
use Rattle.fw_scan.specs.declared.place.Place.TheVariants as place
use Rattle.fw_scan.specs.declared.place.Action.{Action}
use Rattle.fw_scan.specs.declared.place.Action.TheVariants as action

-- a record: its fields in order, each as its bytes
abbrev pub Record : Type 0
Record = List (List ℕ)

-- the state of the machine that reads CSV
abbrev pub state_of : Place → State
state_of place.StartRecord = st.StartRecord
state_of place.StartField = st.StartField
state_of place.InField = st.InField
state_of place.InQuotes = st.InQuoted
state_of place.AfterQuote = st.AfterQuote
state_of place.AfterReturn = st.AfterCr

-- what that machine does
abbrev pub action_of : Action → Does
action_of action.Skip = act.Skip
action_of action.Copy = act.Copy
action_of action.EndField = act.EndField
action_of action.EndRecord = act.EndRecord

abbrev pub stepped : Place × Action → State × Does
stepped p = (state_of p.0, action_of p.1)

-- the bytes end no field: the one at hand becomes another, and the reader stands where it stood
abbrev pub StaysIn : State → Record → List ℕ → List ℕ → List ℕ → Type 0
StaysIn s fields field bytes field2 = Feeds default_config s fields field bytes s fields field2 false

-- the same, whatever was read of the record before
abbrev pub Joins : Place → List ℕ → Type 0
Joins p bytes = (fields : Record) (field : List ℕ)
    → (field2 : List ℕ) × StaysIn (state_of p) fields field bytes field2
