-- Where the reader of a short text stands.
use Rattle.std.specs.Prelude.{◌≡◌, ℕ, List}
use Rattle.csv.specs.declared.parser.State.{State}
use Rattle.csv.specs.declared.parser.State.TheVariants as st
use Rattle.csv.specs.declared.parser.Action.{Action as Does}
use Rattle.csv.specs.declared.parser.Action.TheVariants as act
use Rattle.fw_rows.specs.declared.short.Place.{Place}
use Rattle.fw_rows.specs.declared.short.Place.TheVariants as place
use Rattle.fw_rows.specs.declared.short.Action.{Action}
use Rattle.fw_rows.specs.declared.short.Action.TheVariants as action
use Rattle.fw_rows.specs.declared.short.ShortText.{ShortText}

-- the state of the machine that reads CSV
abbrev pub state_of : Place → State
state_of place.StartRecord = st.StartRecord
state_of place.StartField = st.StartField
state_of place.InField = st.InField
state_of place.InQuotes = st.InQuoted
state_of place.AfterQuote = st.AfterQuote
state_of place.AfterReturn = st.AfterCr

-- what that machine does
abbrev pub action_of : Action → Does
action_of action.Skip = act.Skip
action_of action.Copy = act.Copy
action_of action.EndField = act.EndField
action_of action.EndRecord = act.EndRecord

abbrev pub stepped : Place × Action → State × Does
stepped p = (state_of p.0, action_of p.1)

-- the reader of a short text reads on from the state s with y left
pub record AtShort (r : ShortText) (s : State) (y : List ℕ) : Type 0 where
  pub rest : r.rest.now ≡ y
  pub state : state_of r.place ≡ s
