use Rattle.fw_shards.proofs.AddedFacts.{small_sum}
use Rattle.fw_shards.proofs.HistoryFacts.{added_direct, added_report, added_too_large}
use Rattle.fw_shards.proofs.DealtFacts.{shards_add}
use Rattle.fw_shards.proofs.laws.the_sum_is_the_report.Goals as goal
use Rattle.fw_snapshot.specs.History.{policy_of}

pub returns : goal.returns
returns c = record {
  direct = λ whole from to asked key reports sum each shards are totals.
      let lines = c.there_are_lines.ensures whole from to each in
      added_direct whole from to asked shards.within (shards_add whole from to asked shards) key lines.0 reports sum lines.1 are totals;
  charged = λ whole from to asked key reports sum charged each shards are totals small by.
      let lines = c.there_are_lines.ensures whole from to each in
      added_report whole from to asked shards.within (shards_add whole from to asked shards) (policy_of whole) key lines.0 reports sum charged lines.1 are totals (small_sum sum small) by;
  too_large = λ whole from to asked key reports group each shards are passes.
      let lines = c.there_are_lines.ensures whole from to each in
      added_too_large whole from to asked shards.within (shards_add whole from to asked shards) key lines.0 reports group lines.1 are passes;
}
