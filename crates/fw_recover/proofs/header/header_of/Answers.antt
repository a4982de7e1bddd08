use Rattle.std.proofs.Common.{◌≡◌, ℕ, sym, ◌∙◌, subst}
use Rattle.fw_recover.specs.Corrupt.{LacksAt}
use Rattle.fw_recover.specs.Headers.{BeginsWith}
use Rattle.fw_recover.specs.Sides.{IsOpen}
use Rattle.fw_recover.proofs.Headers.{header_is}
use Rattle.fw_recover.proofs.header.header_of.Goals as goal

pub returns-in-Err-clause-corrupt : goal.returns-in-Err-clause-corrupt
returns-in-Err-clause-corrupt g c side at is = (
  cc,
  λ told.
      let file = (g.V.Volume.view c.args.volume.now).seen c.args.side in
      let begins : BeginsWith c.read.new.into c.len-len.result file = record { size = g.met.V.Volume.sized c.args.volume.now told c.args.side ∙ sym c.len-len.ensures; is = header_is file c.read.new.into c.read.auto.into (c.in-Ok.ensures.bytes told) } in
      let place : c.in-Err.at ≡ at = cc in
      subst (λ (n : ℕ). IsOpen file × LacksAt file n) place (c.in-Err.ensures.lacks file begins),
)

pub returns-in-Ok-header_in-clause-found : goal.returns-in-Ok-header_in-clause-found
returns-in-Ok-header_in-clause-found g c told =
    let file = (g.V.Volume.view c.args.volume.now).seen c.args.side in
    c.in-Ok-header_in.ensures.found file (record { size = g.met.V.Volume.sized c.args.volume.now told c.args.side ∙ sym c.len-len.ensures; is = header_is file c.read.new.into c.read.auto.into (c.in-Ok.ensures.bytes told) })
