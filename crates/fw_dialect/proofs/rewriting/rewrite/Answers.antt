use Rattle.std.proofs.Common.{◌≡◌, rules}
use Rattle.fw_dialect.specs.Texts.{rewritten}
use Rattle.fw_dialect.proofs.BackFacts.{written_reads_back}
use Rattle.fw_dialect.proofs.rewriting.rewrite.Goals as goal

pub returns-clause-records : goal.returns-clause-records
returns-clause-records c = λ whole.
    let is : c.put_records.new.out.items ≡ rewritten c.args.dialect c.args.header.now c.args.body.now = search rules in
    written_reads_back c.args.dialect c.args.header.now c.args.body.now c.put_records.new.out.items is whole
