-- The fronts of a split: each begins the next.
use Rattle.std.specs.Prelude.{◌≡◌, ℕ, ◌-◌, ◌<◌, ◌≤◌, List, [], length, get_or, Option, Some, IfSome}
use mathlib.Core.Option.{some}
use lib.ListN.{get_elem?}
use Rattle.logbook.specs.Pages.{Book}
use Rattle.fw_snapshot.specs.History.{History}
use Rattle.fw_group.specs.Laws.{Begins}

-- what stands for a front where there is none
abbrev pub no_front : History
no_front = record { currency = []; entries = [] }

-- the last of the fronts
abbrev pub latest : List History → History
latest fronts = get_or fronts (length fronts - 1) no_front

-- each front begins those behind it
abbrev pub IsChain : List History → Type 0
IsChain fronts = (i j : ℕ) → i ≤ j → j < length fronts → Begins (get_or fronts i no_front) (get_or fronts j no_front)

-- a front, and the list of fronts in which it is
pub record Marked : Type 0 where
  pub front : History
  pub of : Book

-- the lists of all fronts and of all posts of a split
pub record Names : Type 0 where
  pub fronts : Book
  pub posts : Book

-- a thread has taken none, or a front that begins this one
abbrev pub HasTaken : History → Option History → Type 0
HasTaken front taken = IfSome taken (λ h. Begins h front)

-- What readers take is a front of the list, and each front that a thread has taken begins it.
abbrev pub BeginsWithAll : Book → Marked → List (Option History) → Type 0
BeginsWithAll fronts page taken = (page.of ≡ fronts) × ((seat : ℕ) (t : Option History) → get_elem? taken seat ≡ some t → HasTaken page.front t)

-- A thread takes what is shown, or shows it: what it had taken before begins it, and it is what the thread has taken from now on.
abbrev pub TakesNext : Book → Option History → Marked → Marked → Option History → Type 0
TakesNext fronts old page next new = (next.of ≡ fronts) × HasTaken next.front old × (new ≡ Some next.front)
