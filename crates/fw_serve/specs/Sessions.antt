-- A warehouse that is stopped and opened again, time after time.
use Rattle.std.specs.Prelude.{◌≡◌, ◌⊎◌, ◌+◌, ℕ, List, [], ◌∷◌, drop, length, take}
use Rattle.fw_disk.specs.declared.volume.Side.{Side}
use Rattle.fw_disk.specs.Volume.{Image}
use Rattle.fw_entry.specs.Entry.{EntryValue}
use Rattle.fw_recover.specs.Committing.{with_first}
use Rattle.fw_recover.specs.Corrupt.{CorruptAt}
use Rattle.fw_recover.specs.Stands.{StandsFor, StandsForNone}
use Rattle.fw_script.specs.Plain.{PlainCommand}
use Rattle.fw_snapshot.specs.History.{History}
use Rattle.fw_snapshot.specs.Verdicts.{verdicts_on}
use Rattle.fw_serve.specs.Runs.{AreJudged, verdict_lines}
use Rattle.fw_serve.specs.Standings.{AreInFlight}

-- this warehouse is opened from the files: they stand for it, and they are neither missing nor corrupt
pub record Opens (found : History) (image : Image) : Type 0 where
  pub stands : StandsFor found image
  pub is_there : StandsForNone image → ⊥
  pub is_sound : (side : Side) (at : ℕ) → CorruptAt image side at → ⊥

-- what comes between an opening and the next stop: entries are committed, one by one or in groups, the first `answered` of them are answered, `in_flight`
-- more were being committed, and a crash leaves an image
pub record SessionValue : Type 0 where
  pub entries : List EntryValue
  pub answered : ℕ
  pub in_flight : ℕ
  pub image : Image

-- the image has each entry that was answered, and of those in flight none or all
pub record HasKept (before : History) (s : SessionValue) : Type 0 where
  pub first : ℕ
  pub none_or_all : (first ≡ s.answered) ⊎ (first ≡ s.answered + s.in_flight)
  pub stands : StandsFor (with_first before first s.entries) s.image

-- The session of a script that is stopped: of its entries the first `answered` are those that the answers speak of, each answered by the line of its
-- verdict; behind them is the one in flight, or none.
pub record IsSessionOf (InFlight : EntryValue → Type 0) (held : History) (commands : List PlainCommand) (answers : List (List ℕ)) (s : SessionValue) : Type 0 where
  pub are_judged : AreJudged held.currency commands answers (take s.answered s.entries) (verdict_lines (length held.entries) (verdicts_on held.entries (take s.answered s.entries)))
  pub flies : AreInFlight InFlight (drop s.answered s.entries)

-- the first session begins with the warehouse `before`, each other one with what is opened from the image that the last one left, and `after` is what
-- is opened at the end
unfoldable pub PassesThrough : History → List SessionValue → History → Type 0
PassesThrough before [] after = after ≡ before
PassesThrough before (s ∷ sessions) after = (found : History) × HasKept before s × StandsFor found s.image × PassesThrough found sessions after
