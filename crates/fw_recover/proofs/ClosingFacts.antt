-- What a crash leaves while a side is closed.
use Rattle.std.proofs.Common.{◌≡◌, ◌⊎◌, inl, inr, ℕ, List, length, get_or, ◌∙◌, subst}
use Rattle.fw_disk.specs.declared.volume.Side.{Side}
use Rattle.fw_disk.specs.Volume.{Image, View, Calm, LeavesOnly, Torn, TornFrom, other}
use Rattle.fw_disk.proofs.Moments.{calm_before, weakened}
use Rattle.fw_recover.specs.Making.{AllSettled, Closing, Keeps}

-- before it is written, all stands as it was
unwritten : (side : Side) (old : View) → AllSettled old → (c : Image) → old.may_leave c → Keeps side old Closing c
unwritten side old settled c now = record { other_stays = settled (other side) c now; this = inl (settled side c now) }

-- a write of the gate that a crash cuts short
cut_short : (side : Side) (old : View) → AllSettled old → (length (old.seen side) ≡ 0) ⊎ (get_or (old.seen side) 0 0 ≡ 1)
    → (c : Image) → TornFrom side 0 1 old c → Keeps side old Closing c
cut_short side old settled why c from = record {
  other_stays = from.2.other_stays ∙ settled (other side) from.0 from.1;
  this = inr (why, subst (λ (f : List ℕ). Torn 0 1 f (c side)) (settled side from.0 from.1) from.2.torn);
}

-- the gate is looked at, and then written and synced, done or not
pub closes : (side : Side) (old mid new : View) → AllSettled old → (length (old.seen side) ≡ 0) ⊎ (get_or (old.seen side) 0 0 ≡ 1)
    → Calm old mid → LeavesOnly mid new (TornFrom side 0 1 mid) → LeavesOnly old new (Keeps side old Closing)
closes side old mid new settled why calm run =
    calm_before old mid new (λ c. Keeps side old Closing c) calm
    (weakened mid new (λ c. TornFrom side 0 1 mid c) (λ c. Keeps side old Closing c) run (λ c from. cut_short side old settled why c (from.0, calm.crash from.0 from.1, from.2)))
    (λ c now. unwritten side old settled c now)
