use Rattle.std.proofs.Common.{inl}
use Rattle.fw_snapshot.specs.Verdicts.{accepted_of}
use Rattle.fw_recover.specs.Stands.{StandsForEither}
use Rattle.fw_recover.proofs.Committing.{still}
use Rattle.fw_recover.proofs.store.Store.commit_group.Goals as goal

-- where nothing was prepared nothing was written
pub returns-in_err-prepared-clause-any_moment : goal.returns-in_err-prepared-clause-any_moment
returns-in_err-prepared-clause-any_moment g c told going =
    let s = c.args.self.now in
    still g.V.Volume.tells g.V.Volume.view s c.keeps.ensures told going (λ i. StandsForEither s.history (accepted_of s.history.entries c.args.entries.now) i) (g.met.V.Volume.only_now s.volume) (λ i stands. inl stands)
