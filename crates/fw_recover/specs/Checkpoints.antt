-- Checkpoints: the side that isn't in use is made anew of the warehouse as it is.
use Rattle.std.specs.Prelude.{◌≡◌, ℕ, ◌+◌, ◌<◌, ◌≤◌, Bool, false, IsTrue, List, ◌∷◌, ◌++◌, length}
use Rattle.fw_disk.specs.Volume.{View, other}
use Rattle.fw_entry_bytes.specs.declared.form.Form.TheVariants.{Two}
use Rattle.fw_charge.specs.Charge.{Charge}
use Rattle.fw_segment.specs.States.{Spells, SpellsJoined}
use Rattle.fw_snapshot.specs.History.{History}
use Rattle.fw_recover.specs.Sides.{made_of}
use Rattle.fw_recover.specs.Store.{StoreState}

-- an open side of the second form, whose body spells the warehouse, and whose log has no group
pub record HasBodyAlone (generation : ℕ) (h : History) (file : List ℕ) : Type 0 where
  pub body : List ℕ
  pub spells : Spells body h
  pub tail : List ℕ
  pub is : file ≡ 1 ∷ (made_of Two generation body ++ 0 ∷ tail)

-- a volume of this limit has no room for a side that is made of the warehouse: 25 bytes of header, the body, and a gate. The body has few segments:
-- each is laid out by column, and no two that follow each other have room in one
pub record HasNoRoomFor (limit : ℕ) (h : History) : Type 0 where
  pub body : List ℕ
  pub spells : Spells body h
  pub segments : List (List Charge)
  pub joined : SpellsJoined body h segments
  pub too_long : limit < 26 + length body

-- the store after a checkpoint: the other side is in use, of the second form whichever the old one was of, with the next
-- generation, a body that spells the warehouse by few segments, and an empty log right behind it
pub record IsCheckpointed {V : Type 0} (tells : Bool) (view : V → View) (old new : StoreState V) : Type 0 where
  pub form : new.form ≡ Two
  pub generation : new.generation ≡ old.generation + 1
  pub side : new.log.side ≡ other old.log.side
  pub body : List ℕ
  pub spells : Spells body new.history
  pub segments : List (List Charge)
  pub joined : SpellsJoined body new.history segments
  pub fits : 26 + length body ≤ (view new.volume).limit
  pub start : new.log.start ≡ 25 + length body
  pub no_group : new.log.end ≡ new.log.start
  pub failed : new.failed ≡ false
  pub made : IsTrue tells → HasBodyAlone new.generation new.history ((view new.volume).seen new.log.side)
  pub same_body : (told : IsTrue tells) → (made told).body ≡ body
