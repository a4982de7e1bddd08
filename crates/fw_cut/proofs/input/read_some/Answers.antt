use Rattle.std.proofs.Common.{rules, arith, ◌≡◌, ◌∙◌, sym, ◌++◌, ◌+◌, ◌-◌, ◌<◌, ◌≤◌, length, true, take, replicate}
use Rattle.std.specs.Result.{is_ok}
use Rattle.std.specs.Vec.{vec_len}
use Rattle.fw_cut.proofs.PieceFacts.{room_behind, piece_kept}
use Rattle.fw_cut.proofs.input.read_some.Goals as goal

pub returns-in-Ok : goal.returns-in-Ok
returns-in-Ok g c =
    let resized : is_ok c.resize.result ≡ true = search rules in
    let filled : c.len-filled.result ≡ length c.args.text.now.items = search rules in
    let made : c.deref_mut.result.now ≡ take (c.len-filled.result + c.args.room) c.args.text.now.items ++ replicate (c.len-filled.result + c.args.room - vec_len c.args.text.now) 0
    = c.deref_mut.ensures.value ∙ (rw resized at c.resize.ensures.items) in
    let room : c.resize.new.self.len ≡ c.len-filled.result + c.args.room = rw resized at c.resize.ensures.len in
    let slots : length c.deref_mut.result.now ≡ c.resize.new.self.len = search rules in
    let piece : length c.read.new.buf ≡ c.args.room = omega arith in
    let some : 0 < length c.read.new.buf = omega (arith, piece, c.requires.some) in
    let front = room_behind _ _ _ _ _ filled made in
    let bound = c.in-Ok.ensures.bound in
    let bytes = c.in-Ok.ensures.bytes in
    let fits : c.len-filled.result + c.in-Ok.count ≤ c.resize.new.self.len = omega arith in (
      take c.in-Ok.count c.read.new.buf,
      c.truncate.ensures.items ∙ piece_kept _ _ _ _ _ _ _ _ filled front bound.0 fits,
      sym bound.1,
      bytes.0,
      (let within = bound.0 in omega (arith, within, piece)),
      λ none. bytes.1 none some,
    )
