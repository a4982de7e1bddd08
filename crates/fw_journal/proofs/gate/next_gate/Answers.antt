use Rattle.std.proofs.Common.{◌≡◌, ◌∷◌, [], ℕ, List, ◌-◌, ◌≤◌, length, take, drop, get_or, min, arith, sym, ◌∙◌, length-drop, length-take}
use Rattle.fw_journal.proofs.Parsing.{broken_short, broken_unfit, frame_found, gate_read, size_read}
use Rattle.fw_journal.proofs.gate.next_gate.Goals as goal

-- five bytes, into which the first of a frame are read
abbrev header : List ℕ
header = 0 ∷ 0 ∷ 0 ∷ 0 ∷ 0 ∷ []

-- as many bytes as were read
read_len : (here n : ℕ) → n ≡ length (take here header) → n ≡ min here 5
read_len here n is = is ∙ length-take here header

pub returns-then-here-lt5-clause-corrupt : goal.returns-then-here-lt5-clause-corrupt
returns-then-here-lt5-clause-corrupt g c at is = (
  cc,
  λ told.
      let file = (g.V.Volume.view c.args.volume.now).seen c.args.side in
      let bytes = drop c.args.gate file in
      let long : length bytes ≡ c.len-len.result - c.args.gate = omega (arith, length-drop c.args.gate file, g.met.V.Volume.sized c.args.volume.now told c.args.side) in
      let here = c.min-here.ensures in
      let read = read_len c.min-here.result (length c.read.new.into) c.read.auto.into in
      let gate : get_or bytes 0 0 ≡ 1 = gate_read bytes c.read.new.into _ (omega arith) (c.in-Ok.ensures.bytes told) ∙ c.if-header-ne1.false in
      broken_short bytes gate (omega (arith, long, here, c.if-here-lt5.true)),
)

pub returns-in-Some-clause-found : goal.returns-in-Some-clause-found
returns-in-Some-clause-found g c told =
    let file = (g.V.Volume.view c.args.volume.now).seen c.args.side in
    let bytes = drop c.args.gate file in
    let n = c.in-Some.payload in
    let found = c.in-Some.ensures.found in
    let here = c.min-here.ensures in
    let whole : 5 ≤ c.min-here.result = c.if-here-lt5.false in
    let read = read_len c.min-here.result (length c.read.new.into) c.read.auto.into in
    let gate : get_or bytes 0 0 ≡ 1 = gate_read bytes c.read.new.into _ (omega arith) (c.in-Ok.ensures.bytes told) ∙ c.if-header-ne1.false in
    let size = size_read bytes c.read.new.into (drop c.min-here.result header) (omega arith) (c.in-Ok.ensures.bytes told) in
    let long : length bytes ≡ c.len-len.result - c.args.gate = omega (arith, length-drop c.args.gate file, g.met.V.Volume.sized c.args.volume.now told c.args.side) in
    let within : n ≤ length (drop 5 bytes) = omega (arith, found.2, length-drop 5 bytes) in
    let len : length (take n (drop 5 bytes)) ≡ n = omega (arith, length-take n (drop 5 bytes)) in (
      take n (drop 5 bytes),
      drop n (drop 5 bytes),
      (omega (arith, found.0), omega (arith, found.1)),
      frame_found bytes n (omega arith) gate (size ∙ found.3) within,
      omega arith,
    )

pub returns-in-None-clause-corrupt : goal.returns-in-None-clause-corrupt
returns-in-None-clause-corrupt g c at is = (
  cc,
  λ told.
      let file = (g.V.Volume.view c.args.volume.now).seen c.args.side in
      let bytes = drop c.args.gate file in
      let here = c.min-here.ensures in
      let whole : 5 ≤ c.min-here.result = c.if-here-lt5.false in
      let read = read_len c.min-here.result (length c.read.new.into) c.read.auto.into in
      let gate : get_or bytes 0 0 ≡ 1 = gate_read bytes c.read.new.into _ (omega arith) (c.in-Ok.ensures.bytes told) ∙ c.if-header-ne1.false in
      let size = size_read bytes c.read.new.into (drop c.min-here.result header) (omega arith) (c.in-Ok.ensures.bytes told) in
      let long : length bytes ≡ c.len-len.result - c.args.gate = omega (arith, length-drop c.args.gate file, g.met.V.Volume.sized c.args.volume.now told c.args.side) in
      broken_unfit bytes gate (λ n some most within spells. c.in-None.ensures.none n some most (omega (arith, length-drop 5 bytes)) (sym size ∙ spells)),
)
