use Rattle.fw_shards.proofs.DealtFacts.{shards_add}
use Rattle.fw_shards.proofs.HistoryFacts.{sums_add}
use Rattle.fw_shards.proofs.RangeFacts.{range_adds}
use Rattle.fw_shards.proofs.laws.shards_add_up.Goals as goal

pub returns : goal.returns
returns c = record {
  lines = λ whole from to asked lines each shards are each_are. range_adds whole from to asked lines each shards.within (shards_add whole from to asked shards) are each_are;
  billed = λ whole from to asked key lines each shards are each_are. sums_add whole from to asked shards.within (shards_add whole from to asked shards) (λ c. c.billed) key lines each (λ xs ys same. same.billed) are each_are;
  direct = λ whole from to asked key lines each shards are each_are. sums_add whole from to asked shards.within (shards_add whole from to asked shards) (λ c. c.effective) key lines each (λ xs ys same. same.effective) are each_are;
}
