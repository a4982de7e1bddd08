use Rattle.std.proofs.Common.{◌∙◌, append-nil, sym}
use Rattle.fw_cover.proofs.Index.{with_none, with_offers}
use Rattle.fw_cover.proofs.matching.add_row.Goals as goal

pub returns-then-not-is_open-clause-pairs : goal.returns-then-not-is_open-clause-pairs
returns-then-not-is_open-clause-pairs c = λ table found all was.
    rw (with_none c.args.hour table (c.args.at, c.args.row.now) (sym c.is_open.ensures ∙ c.if-not-is_open.true), append-nil all) was

pub returns-clause-pairs : goal.returns-clause-pairs
returns-clause-pairs c = λ table found.
    rw (with_offers c.args.hour table (c.args.at, c.args.row.now) (sym c.is_open.ensures ∙ c.if-not-is_open.false), ← found) c.in_ok-add_pairs.ensures.pairs
