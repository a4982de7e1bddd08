use Rattle.std.proofs.Common.{max, ◌≡◌, ◌++◌, ◌+◌, [], ◌∷◌, false, IsTrue, List, ℕ, length, subst, sym, ◌∙◌, ap, arith, length-append}
use Rattle.fw_disk.specs.Volume.{LeavesOnly, KeepsOther}
use Rattle.fw_journal.specs.Frames.{sized}
use Rattle.fw_journal.specs.Log.{LogState, Stands, IsReady, Appends, Framed, WhileFraming, Lengthens}
use Rattle.fw_journal.proofs.Spelling.{length-sized}
use Rattle.fw_journal.proofs.Images.{appends, appended}
use Rattle.fw_journal.proofs.log.Log.append.Given as given
use Rattle.fw_journal.proofs.log.Log.append.Goals as goal
use Rattle.fw_journal.proofs.log.Log.append.Goals.{After-deref, After-write_frame, In-Ok-write_frame}

length-framed : (payload frame : List ℕ) → frame ≡ sized payload ++ 0 ∷ [] → length frame ≡ 5 + length payload
length-framed payload frame is = omega (arith, ap (λ (l : List ℕ). length l) is, length-append (sized payload) (0 ∷ []), length-sized payload)

-- where the frame ends
frame_end : (gate : ℕ) (payload frame : List ℕ) → frame ≡ sized payload ++ 0 ∷ [] → gate + 1 + length frame ≡ gate + 6 + length payload
frame_end gate payload frame is = omega (arith, length-framed payload frame is)

-- the frame that is written is that of the payload
frame_is : (g : given.Over) (c : After-deref g) → c.deref.result.now ≡ sized c.args.payload.now ++ 0 ∷ []
frame_is g c = c.deref.ensures.value ∙ c.in-Ok.ensures

-- while it is written, each image has the payloads, or these and the new one
moments : (g : given.Over) (c : After-write_frame g) → c.deref.result.now ≡ sized c.args.payload.now ++ 0 ∷ [] → IsTrue g.V.Volume.tells → (payloads : List (List ℕ))
    → Stands c.args.self.now payloads (g.V.Volume.view c.args.volume.now)
    → LeavesOnly (g.V.Volume.view c.args.volume.now) (g.V.Volume.view c.write_frame.new.volume) (Appends c.args.self.now payloads c.args.payload.now (g.V.Volume.view c.args.volume.now))
moments g c frame told payloads =
    let old = g.V.Volume.view c.args.volume.now in
    let new = g.V.Volume.view c.write_frame.new.volume in
    let payload = c.args.payload.now in
    let P : LogState → Type 0 = λ log. Stands log payloads old → LeavesOnly old new (Appends log payloads payload old) in
    subst P c.self.view_is (λ stands. appends _ payloads payload c.requires.size old stands new
    (subst (λ (f : List ℕ). LeavesOnly old new (WhileFraming c.self.inside.side c.self.inside.end f old)) frame (c.write_frame.ensures.any_moment told stands.settled)))

-- what could be left of the other side still can
other_kept : (g : given.Over) (c : After-write_frame g) → IsTrue g.V.Volume.tells → KeepsOther c.args.self.now.side (g.V.Volume.view c.args.volume.now) (g.V.Volume.view c.write_frame.new.volume)
other_kept g c told =
    let old = g.V.Volume.view c.args.volume.now in
    let new = g.V.Volume.view c.write_frame.new.volume in
    let P : LogState → Type 0 = λ log. IsReady g.V.Volume.tells log old in
    let ready = subst P (sym c.self.view_is) c.requires.ready in
    let was = ready.told told c.if-self.false in
    let Q : LogState → Type 0 = λ log. KeepsOther log.side old new in
    subst Q c.self.view_is (c.write_frame.ensures.kept_other told was.1.settled)

lengthened : (g : given.Over) (c : After-write_frame g) → c.deref.result.now ≡ sized c.args.payload.now ++ 0 ∷ []
    → Lengthens c.args.self.now.side (c.args.self.now.end + 6 + length c.args.payload.now) (g.V.Volume.view c.args.volume.now) (g.V.Volume.view c.write_frame.new.volume)
lengthened g c frame =
    let old = g.V.Volume.view c.args.volume.now in
    let new = g.V.Volume.view c.write_frame.new.volume in
    let payload = c.args.payload.now in
    let P : LogState → Type 0 = λ log. Lengthens log.side (log.end + 6 + length payload) old new in
    subst P c.self.view_is (subst (λ (n : ℕ). Lengthens c.self.inside.side n old new) (frame_end c.self.inside.end payload c.deref.result.now frame) c.write_frame.ensures.sizes)

-- once it is written, the log has the payloads and the new one
stands_more : (g : given.Over) (c : In-Ok-write_frame g) → c.deref.result.now ≡ sized c.args.payload.now ++ 0 ∷ [] → IsTrue g.V.Volume.tells → (payloads : List (List ℕ))
    → Stands (record { side = c.self.inside.side; start = c.self.inside.start; end = c.self.inside.end; failed = c.self.inside.failed }) payloads (g.V.Volume.view c.args.volume.now)
    → Stands (record { side = c.self.inside.side; start = c.self.inside.start; end = c.self.inside.end + 5 + length c.args.payload.now; failed = false })
    (payloads ++ c.args.payload.now ∷ []) (g.V.Volume.view c.write_frame.new.volume)
stands_more g c frame told payloads stands =
    let old = g.V.Volume.view c.args.volume.now in
    let new = g.V.Volume.view c.write_frame.new.volume in
    appended _ payloads c.args.payload.now c.requires.size old stands new
    (subst (λ (f : List ℕ). Framed c.self.inside.side c.self.inside.end f old new) frame (c.in-Ok-write_frame.ensures.done told stands.settled))

pub write_frame-requires-clause-fits : goal.write_frame-requires-clause-fits
write_frame-requires-clause-fits g c =
    let frame = frame_is g (goal.at.write_frame-requires-clause-fits g c).After-deref in
    omega (arith, length-framed c.args.payload.now c.deref.result.now frame)

pub returns-in_default-write_frame-clause-any_moment : goal.returns-in_default-write_frame-clause-any_moment
returns-in_default-write_frame-clause-any_moment g c told fresh =
    let at = goal.at.returns-in_default-write_frame-clause-any_moment g c in
    moments g at.After-write_frame (frame_is g at.After-deref) told

pub returns-clause-any_moment : goal.returns-clause-any_moment
returns-clause-any_moment g c told fresh =
    let at = goal.at.returns-clause-any_moment g c in
    moments g at.After-write_frame (frame_is g at.After-deref) told

pub returns-in_default-write_frame-clause-kept_other : goal.returns-in_default-write_frame-clause-kept_other
returns-in_default-write_frame-clause-kept_other g c told =
    let at = goal.at.returns-in_default-write_frame-clause-kept_other g c in
    other_kept g at.After-write_frame told

pub returns-clause-kept_other : goal.returns-clause-kept_other
returns-clause-kept_other g c told =
    let at = goal.at.returns-clause-kept_other g c in
    other_kept g at.After-write_frame told

pub returns-clause-acknowledged : goal.returns-clause-acknowledged
returns-clause-acknowledged g c told payloads stands_old =
    let at = goal.at.returns-clause-acknowledged g c in
    let P : LogState → Type 0 = λ log. Stands log payloads (g.V.Volume.view c.args.volume.now) in
    stands_more g at.In-Ok-write_frame (frame_is g at.After-deref) told payloads (subst P (sym c.self.view_is) stands_old)

pub returns-clause-ready : goal.returns-clause-ready
returns-clause-ready g c =
    let at = goal.at.returns-clause-ready g c in
    let payload = c.args.payload.now in
    let frame = frame_is g at.After-deref in
    let P : LogState → Type 0 = λ log. IsReady g.V.Volume.tells log (g.V.Volume.view c.args.volume.now) in
    let ready = subst P (sym c.self.view_is) c.requires.ready in
    record {
      room = omega (arith, c.in-Ok-write_frame.ensures.whole, length-framed payload c.deref.result.now frame);
      told = λ told fresh. let was = ready.told told c.if-self.false in (was.0 ++ payload ∷ [], stands_more g at.In-Ok-write_frame frame told was.0 was.1);
    }

pub returns-in_default-write_frame-clause-sizes : goal.returns-in_default-write_frame-clause-sizes
returns-in_default-write_frame-clause-sizes g c =
    let at = goal.at.returns-in_default-write_frame-clause-sizes g c in
    lengthened g at.After-write_frame (frame_is g at.After-deref)

pub returns-clause-sizes : goal.returns-clause-sizes
returns-clause-sizes g c =
    let at = goal.at.returns-clause-sizes g c in
    lengthened g at.After-write_frame (frame_is g at.After-deref)

pub returns-clause-whole : goal.returns-clause-whole
returns-clause-whole g c =
    let old = g.V.Volume.view c.args.volume.now in
    let new = g.V.Volume.view c.write_frame.new.volume in
    let payload = c.args.payload.now in
    let frame = frame_is g (goal.at.returns-clause-whole g c).After-deref in
    let P : LogState → Type 0 = λ log. new.size log.side ≡ max (old.size log.side) (log.end + 6 + length payload) in
    subst P c.self.view_is (subst (λ (n : ℕ). new.size c.self.inside.side ≡ max (old.size c.self.inside.side) n) (frame_end c.self.inside.end payload c.deref.result.now frame) c.in-Ok-write_frame.ensures.whole)
