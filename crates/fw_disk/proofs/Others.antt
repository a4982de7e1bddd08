-- What a write and a sync of one side keep of the other.
use Rattle.std.proofs.Common.{◌≡◌, ℕ, List, refl, ◌∙◌, sym, subst}
use Rattle.fw_disk.specs.declared.volume.Side.{Side}
use Rattle.fw_disk.specs.declared.volume.Side.TheVariants.{Left, Right}
use Rattle.fw_disk.specs.Volume.{Image, View, other, Torn, TornSide, Writes, Settled, StaysPending, SettlesOnly, Allows, KeepsOther}

-- an image with another file on a side
abbrev with_side : Side → List ℕ → Image → Image
with_side Left file d Left = file
with_side Left file d Right = d Right
with_side Right file d Left = d Left
with_side Right file d Right = file

has_side : (side : Side) (file : List ℕ) (d : Image) → with_side side file d side ≡ file
has_side Left file d = refl
has_side Right file d = refl

has_other : (side : Side) (file : List ℕ) (d : Image) → with_side side file d (other side) ≡ d (other side)
has_other Left file d = refl
has_other Right file d = refl

-- before the first call
pub other_kept : (side : Side) (old : View) → KeepsOther side old old
other_kept side old d now = (d, now, refl)

-- where nothing was settled
pub pending_keeps : (side : Side) (old new : View) → StaysPending old new → KeepsOther side old new
pending_keeps side old new stays d now = (d, stays d now, refl)

-- a run after a run
pub keeps_through : (side : Side) (old mid new : View) → KeepsOther side old mid → KeepsOther side mid new → KeepsOther side old new
keeps_through side old mid new first then d now =
    let there = first d now in
    let here = then there.0 there.1 in
    (here.0, here.1, here.2 ∙ there.2)

-- a write of a side on which nothing was pending, and then a sync of it, done or not
pub synced_keeps : (side : Side) (at n : ℕ) (old mid new : View) → Settled side old → Writes side at n old mid
    → Allows (TornSide side at n) old.may_leave mid.may_leave → SettlesOnly side mid new → KeepsOther side old new
synced_keeps side at n old mid new settled writes tears settles d now =
    let file = mid.seen side in
    let c = with_side side file d in
    let is = has_side side file d in
    let rest = has_other side file d in
    let here : Torn at n (d side) file = subst (λ (f : List ℕ). Torn at n f file) (sym (settled d now)) writes.seen.torn in
    let torn : Torn at n (d side) (c side) = subst (λ (f : List ℕ). Torn at n (d side) f) (sym is) here in
    (c, settles c (tears d c now (record { torn = torn; other_stays = rest })) is, rest)
