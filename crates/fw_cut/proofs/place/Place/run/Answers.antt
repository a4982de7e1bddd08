use Rattle.std.proofs.Common.{take}
use Rattle.fw_cut.proofs.RunFacts.{goes-none, plain-goes}
use Rattle.fw_cut.proofs.place.Place.run.Goals as goal

pub returns-in-Quoted-clause-goes : goal.returns-in-Quoted-clause-goes
returns-in-Quoted-clause-goes c = rw c.in-Quoted.is c.quoted_len.ensures.goes

pub returns-in_default : goal.returns-in_default
returns-in_default c = record {
  within = c.plain_len-len.ensures.within;
  goes = rw c.behind.ensures (plain-goes c.args.self (take c.plain_len-len.result c.args.text.now) c.in_default.not-Quoted c.plain_len-len.ensures.plain);
}

pub returns-in-AfterQuote-clause-goes : goal.returns-in-AfterQuote-clause-goes
returns-in-AfterQuote-clause-goes c = goes-none c.args.self
