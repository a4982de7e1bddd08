-- The bytes of a log, from its first gate on.
use Rattle.std.specs.Prelude.{◌≡◌, ◌≢◌, ℕ, ◌+◌, ◌≤◌, List, ◌∷◌, ◌++◌, length, drop, map, Vec}
use Rattle.std.specs.Int.{to_le_bytes}
use Rattle.std.specs.Int.Width.{w32}
use Rattle.std.specs.List.{flat_map, AllByRecursion}
use Rattle.std.specs.declared.alloc.Global.{Global}

-- a payload's length in four bytes, the lowest first, and the payload
unfoldable pub sized : List ℕ → List ℕ
sized payload = to_le_bytes w32 (length payload) ++ payload

-- a frame whose gate is open
abbrev pub open_frame : List ℕ → List ℕ
open_frame payload = 1 ∷ sized payload

-- open frames of these payloads, one after the other
unfoldable pub spelled : List (List ℕ) → List ℕ
spelled payloads = flat_map open_frame payloads

-- a payload has 1 to 8,388,608 bytes
abbrev pub IsFit : List ℕ → Type 0
IsFit payload = (1 ≤ length payload) × (length payload ≤ 8388608)

abbrev pub AllFit : List (List ℕ) → Type 0
AllFit payloads = AllByRecursion IsFit payloads

-- the bytes are open frames of these payloads, a closed gate (any byte but 1), and then any bytes
pub record Tells (payloads : List (List ℕ)) (bytes : List ℕ) : Type 0 where
  pub gate : ℕ
  pub rest : List ℕ
  pub is : bytes ≡ spelled payloads ++ gate ∷ rest
  pub shut : gate ≢ 1
  pub fit : AllFit payloads

-- neither a closed gate nor a whole open frame stands here: the bytes are at their end, or the frame behind an
-- open gate has no length that a payload can have, or doesn't end within them
pub record IsBroken (bytes : List ℕ) : Type 0 where
  pub no_closed_gate : (gate : ℕ) (rest : List ℕ) → bytes ≡ gate ∷ rest → gate ≡ 1
  pub no_frame : (payload rest : List ℕ) → IsFit payload → bytes ≡ open_frame payload ++ rest → ⊥

-- in a file whose first gate is at `start`, open frames stand from there up to `gate`
pub record Walked (start gate : ℕ) (file : List ℕ) : Type 0 where
  pub passed : List (List ℕ)
  pub is : drop start file ≡ spelled passed ++ drop gate file
  pub fit : AllFit passed
  pub place : gate ≡ start + length (spelled passed)

-- open frames stand up to `at`, and there neither a closed gate nor a whole open frame does
pub record BreaksAt (start at : ℕ) (file : List ℕ) : Type 0 where
  pub walked : Walked start at file
  pub broken : IsBroken (drop at file)

-- the bytes of each payload
abbrev pub payloads_of : List (Vec ℕ Global) → List (List ℕ)
payloads_of payloads = map (λ (payload : Vec ℕ Global). payload.items) payloads
