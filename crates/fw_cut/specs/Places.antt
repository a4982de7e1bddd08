-- The places between two bytes as states of the csv crate's machine.
use Rattle.std.specs.Prelude.{◌≡◌, ◌≢◌, ◌⊎◌, ◌+◌, ◌==◌, ◌&&◌, if◌then◌else◌, ℕ, Bool, List, [], ◌∷◌, true, false, get_or, take}
use Rattle.csv.specs.Machine.{Feeds, is_end}
use Rattle.csv.specs.Reading.{default_config}
use Rattle.csv.specs.declared.parser.Action.{Action}
use Rattle.csv.specs.declared.parser.State.{State}
use Rattle.csv.specs.declared.parser.State.TheVariants as st
use Rattle.fw_cut.specs.Records.{Record}
use Rattle.fw_cut.specs.declared.place.Place.{Place}
use Rattle.fw_cut.specs.declared.place.Place.TheVariants as place
use Rattle.fw_cut.specs.declared.place.Step.{Step}

abbrev pub state_of : Place → State
state_of place.Start = st.StartRecord
state_of place.AfterReturn = st.AfterCr
state_of place.Field = st.StartField
state_of place.Plain = st.InField
state_of place.Quoted = st.InQuoted
state_of place.AfterQuote = st.AfterQuote

-- a record has ended, and the next one hasn't begun
abbrev pub IsBehind : State → Type 0
IsBehind s = (s ≡ st.StartRecord) ⊎ (s ≡ st.AfterCr)

-- what a byte does is what the machine does
abbrev pub Does : State × Action → Step → Type 0
Does outcome step = (outcome.0 ≡ state_of step.place) × (is_end outcome.1 ≡ step.ends) × (step.ends ≡ true → IsBehind (state_of step.place))

-- the bytes end no record, and a reader that stood at p stands at q behind them, whatever it has read of the record before
abbrev pub GoesOn : Place → List ℕ → Place → Type 0
GoesOn p bytes q = (fields : Record) (field : List ℕ) → (fields2 : Record) × (field2 : List ℕ) × Feeds default_config (state_of p) fields field bytes (state_of q) fields2 field2 false

-- no quote and no line end
abbrev pub IsPlain : ℕ → Type 0
IsPlain c = (c ≢ 34) × (c ≢ 13) × (c ≢ 10)

-- behind a plain byte that stands outside of quotes
abbrev pub place_of : ℕ → Place
place_of c = if c == 44 then place.Field else place.Plain

-- behind plain bytes, from the place p on, which is outside of quotes
unfoldable pub place_behind : Place → List ℕ → Place
place_behind p [] = p
place_behind p (c ∷ rest) = place_behind (place_of c) rest

-- how many bytes are looked at together
abbrev pub block : ℕ
block = 32

-- the bytes up to a place are passed within quotes, but for the one there where it is a quote that another follows
abbrev pub IsPassedBut : List ℕ → ℕ → Bool → Type 0
IsPassedBut text last true = GoesOn place.Quoted (take last text) place.Quoted
IsPassedBut text last false = GoesOn place.Quoted (take (last + 1) text) place.Quoted

abbrev pub IsPassed : List ℕ → ℕ → Type 0
IsPassed text last = IsPassedBut text last (get_or text last 0 == 34 && get_or text (last + 1) 0 == 34)
