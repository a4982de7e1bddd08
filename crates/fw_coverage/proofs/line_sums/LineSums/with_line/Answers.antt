use Rattle.std.proofs.Common.{rules, ◌≡◌, ◌∙◌, sym, ap, false}
use Rattle.std.specs.Str.{bytes_eq}
use Rattle.fw_coverage.specs.Tallies.{with_sums}
use Rattle.fw_query.specs.Texts.{id_text}
use Rattle.fw_coverage.proofs.LineSumFacts.{other_line, with_none}
use Rattle.fw_coverage.proofs.line_sums.LineSums.with_line.Goals as goal

pub returns-else-eq : goal.returns-else-eq
returns-else-eq c =
    let other : bytes_eq (id_text c.args.line.now.commitment) c.args.id.now ≡ false = search rules in
    sym (ap (with_sums c.args.self) (other_line c.args.id.now c.args.line.now other) ∙ with_none c.args.self)
