use Rattle.std.proofs.Common.{arith}
use Rattle.fw_scan.proofs.RunFacts.{joins-none}
use Rattle.fw_scan.proofs.place.Place.run.Goals as goal

pub returns-in-InField-clause-joins : goal.returns-in-InField-clause-joins
returns-in-InField-clause-joins c = rw c.in-InField.is c.plain_len.ensures.joins

pub returns-in-InQuotes-clause-joins : goal.returns-in-InQuotes-clause-joins
returns-in-InQuotes-clause-joins c = rw c.in-InQuotes.is c.quoted_len.ensures.joins

pub returns-in_default : goal.returns-in_default
returns-in_default c = record {
  within = omega arith;
  joins = joins-none c.args.self;
}
