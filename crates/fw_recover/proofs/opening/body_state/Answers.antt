use Rattle.std.proofs.Common.{◌≡◌, ℕ, length, take, drop, ◌∙◌, ap}
use Rattle.fw_journal.proofs.Parsing.{written_back}
use Rattle.fw_recover.proofs.Found.{bad_body_at}
use Rattle.fw_recover.proofs.opening.body_state.Goals as goal

pub returns-in-Err-Corrupt-clause-corrupt : goal.returns-in-Err-Corrupt-clause-corrupt
returns-in-Err-Corrupt-clause-corrupt g c side at is = (
  cc,
  λ told.
      let file = (g.V.Volume.view c.args.volume.now).seen c.args.side in
      let into = c.read.new.into in
      let n = c.in-Ok.body.len in
      let size : length into ≡ n = c.read.auto.into ∙ c.deref_mut.ensures.len in
      let asked : n ≡ c.args.body_len = c.in-Ok.ensures.len in
      let read : into ≡ take (length into) (drop 25 file) = c.in-Ok-read.ensures.bytes told in
      let same : c.deref.result.now ≡ take c.args.body_len (drop 25 file) =
      c.deref.ensures.value ∙ written_back into c.in-Ok.body.items n size ∙ read ∙ ap (λ (k : ℕ). take k (drop 25 file)) (size ∙ asked) in
      bad_body_at c.args.form file c.deref.result.now c.args.body_len c.in-Err-Corrupt.at at same (cc) (rw c.in-Err-Corrupt.field-0-is at c.in-Err-Corrupt.ensures.exact),
)
