use Rattle.std.proofs.Common.{◌≡◌, ◌++◌, ◌+◌, ◌-◌, ℕ, List, length, take, drop, subst, sym, ◌∙◌, arith, Option}
use Rattle.fw_journal.specs.Frames.{open_frame, IsFit}
use Rattle.fw_journal.specs.Log.{LeadsTo}
use Rattle.fw_journal.proofs.Parsing.{payload_read, written_back}
use Rattle.fw_journal.proofs.gate.frame_at.Goals as goal

pub returns-clause-found : goal.returns-clause-found
returns-clause-found g c told =
    let file = (g.V.Volume.view c.args.volume.now).seen c.args.side in
    let bytes = drop c.args.gate file in
    let into = c.read.new.into in
    let n = c.in_ok-payload.payload.len in
    let L : Option ℕ → Type 0 = λ next. LeadsTo c.args.gate bytes next in
    let leads = subst L c.in-Some.is (c.in_ok-next.ensures.found told) in
    let next : c.in-Some.next ≡ c.args.gate + 5 + length leads.0 = leads.4 in
    let size : length into ≡ n = c.read.auto.into ∙ c.deref_mut.ensures.len in
    let asked : n ≡ c.in-Some.next - c.args.gate - 5 = c.in_ok-payload.ensures.len in
    let same : into ≡ leads.0 =
    payload_read file ((g.V.Volume.view c.next_gate.new.volume).seen c.args.side) leads.0 leads.1 into c.args.gate ((c.in_ok-next.ensures.calm told).seen c.args.side) leads.3 (omega arith) (c.in-Ok.ensures.bytes told) in
    let whole : take n (into ++ drop (length into) c.in_ok-payload.payload.items) ≡ leads.0 = written_back into c.in_ok-payload.payload.items n size ∙ same in
    let P : List ℕ → Type 0 = λ payload. (rest : List ℕ) × IsFit payload × (bytes ≡ open_frame payload ++ rest) × (c.in-Some.next ≡ c.args.gate + 5 + length payload) in
    subst P (sym whole) (leads.1, leads.2, leads.3, next)
