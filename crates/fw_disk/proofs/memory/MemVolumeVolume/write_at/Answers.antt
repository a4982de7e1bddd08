use Rattle.std.proofs.Common.{◌≤◌, ◌≡◌, ◌∷◌, ℕ, List, length, reverse, refl, sym, subst}
use Rattle.fw_disk.specs.declared.volume.Side.{Side}
use Rattle.fw_disk.specs.declared.calls.Call.{Call}
use Rattle.fw_disk.specs.declared.calls.Call.TheVariants.{Write}
use Rattle.fw_disk.specs.Volume.{Writes, TornSide, Allows}
use Rattle.fw_disk.specs.Memory.{files, memory_view, Leaves, AddsRange}
use Rattle.fw_disk.proofs.Moments.{torn_itself}
use Rattle.fw_disk.proofs.Record.{left_done, right_done, states}
use Rattle.fw_disk.proofs.memory.MemVolumeVolume.write_at.Goals as goal
use Rattle.fw_disk.proofs.memory.MemVolumeVolume.write_at.Goals.{In-Ok, In-Ok-write}

-- what a write of so many bytes at a place of a side does: to the view, to what is unsynced, and to what a crash may leave
abbrev IsWritten : Side → ℕ → ℕ → List ℕ → List ℕ → List Call → List ℕ → List ℕ → List Call → ℕ → ℕ → Type 0
IsWritten side at n left right calls new_left new_right new_calls limit failures =
    Writes side at n (memory_view left right calls limit failures) (memory_view new_left new_right new_calls limit failures)
    × AddsRange side at n (states left right calls) (states new_left new_right new_calls)
    × Allows (TornSide side at n) (Leaves left right calls) (Leaves new_left new_right new_calls)

written_left : (c : In-Ok) → IsWritten c.args.side c.args.at (length c.args.bytes.now) c.args.self.now.left.items c.args.self.now.right.items (reverse c.args.self.now.calls.items)
    c.write.new.file.items c.args.self.now.right.items (reverse c.write.new.calls.items) c.args.self.now.limit c.args.self.now.failures
written_left c =
    let m = c.args.self.now in
    let n = length c.args.bytes.now in
    let is = c.in-Left.is in
    let noted = c.in-Ok.ensures.noted in
    let le : c.args.at ≤ length m.left.items = subst (λ (s : Side). c.args.at ≤ length (files m.left.items m.right.items s)) is c.requires in
    let calls = subst (λ (s : Side). reverse c.write.new.calls.items ≡ Write (record { side = s; at = c.args.at; len = n; saved = noted.0 }) ∷ reverse m.calls.items) is noted.1 in
    subst (λ (s : Side). IsWritten s c.args.at n m.left.items m.right.items (reverse m.calls.items) c.write.new.file.items m.right.items (reverse c.write.new.calls.items) m.limit m.failures) (sym is)
    (left_done m.left.items m.right.items (reverse m.calls.items) (reverse c.write.new.calls.items) m.limit m.failures c.args.at c.args.bytes.now noted.0 c.write.new.file.items le c.in-Ok.ensures.written calls noted.2)

written_right : (c : In-Ok-write) → IsWritten c.args.side c.args.at (length c.args.bytes.now) c.args.self.now.left.items c.args.self.now.right.items (reverse c.args.self.now.calls.items)
    c.args.self.now.left.items c.write-in-Right.new.file.items (reverse c.write-in-Right.new.calls.items) c.args.self.now.limit c.args.self.now.failures
written_right c =
    let m = c.args.self.now in
    let n = length c.args.bytes.now in
    let is = c.in-Right.is in
    let noted = c.in-Ok-write.ensures.noted in
    let new = c.write-in-Right.new in
    let le : c.args.at ≤ length m.right.items = subst (λ (s : Side). c.args.at ≤ length (files m.left.items m.right.items s)) is c.requires in
    let calls = subst (λ (s : Side). reverse new.calls.items ≡ Write (record { side = s; at = c.args.at; len = n; saved = noted.0 }) ∷ reverse m.calls.items) is noted.1 in
    subst (λ (s : Side). IsWritten s c.args.at n m.left.items m.right.items (reverse m.calls.items) m.left.items new.file.items (reverse new.calls.items) m.limit m.failures) (sym is)
    (right_done m.left.items m.right.items (reverse m.calls.items) (reverse new.calls.items) m.limit m.failures c.args.at c.args.bytes.now noted.0 new.file.items le c.in-Ok-write.ensures.written calls noted.2)

pub returns-in-Ok-clause-told : goal.returns-in-Ok-clause-told
returns-in-Ok-clause-told c = (written_left (goal.at.returns-in-Ok-clause-told c).In-Ok).0

pub returns-in-Ok-clause-adds : goal.returns-in-Ok-clause-adds
returns-in-Ok-clause-adds c = (written_left (goal.at.returns-in-Ok-clause-adds c).In-Ok).1

pub returns-in-Ok-write-clause-told : goal.returns-in-Ok-write-clause-told
returns-in-Ok-write-clause-told c = (written_right (goal.at.returns-in-Ok-write-clause-told c).In-Ok-write).0

pub returns-in-Ok-write-clause-adds : goal.returns-in-Ok-write-clause-adds
returns-in-Ok-write-clause-adds c = (written_right (goal.at.returns-in-Ok-write-clause-adds c).In-Ok-write).1

pub returns-in-Ok-clause-every_tear : goal.returns-in-Ok-clause-every_tear
returns-in-Ok-clause-every_tear c = (written_left (goal.at.returns-in-Ok-clause-every_tear c).In-Ok).2

pub returns-in-Ok-write-clause-every_tear : goal.returns-in-Ok-write-clause-every_tear
returns-in-Ok-write-clause-every_tear c = (written_right (goal.at.returns-in-Ok-write-clause-every_tear c).In-Ok-write).2

-- what a crash could leave before is a write of which it left nothing
pub returns-in-Ok-clause-pending : goal.returns-in-Ok-clause-pending
returns-in-Ok-clause-pending c d was = returns-in-Ok-clause-every_tear c d d was (record { torn = torn_itself c.args.at (length c.args.bytes.now) (d c.args.side); other_stays = refl })

pub returns-in-Ok-write-clause-pending : goal.returns-in-Ok-write-clause-pending
returns-in-Ok-write-clause-pending c d was = returns-in-Ok-write-clause-every_tear c d d was (record { torn = torn_itself c.args.at (length c.args.bytes.now) (d c.args.side); other_stays = refl })
