use Rattle.fw_select.proofs.KnownFacts.{known_at_first}
use Rattle.fw_select.proofs.known.Known.of_segment.Goals as goal

pub returns : goal.returns
returns c = λ table. known_at_first c.args.selector.now table c.args.segment.now _ c.behind_most.result c.in_ok-numbers.ensures c.in_ok-found.ensures
