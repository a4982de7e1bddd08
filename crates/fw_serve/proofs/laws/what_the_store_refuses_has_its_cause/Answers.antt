use Rattle.fw_serve.proofs.FailedFacts.{failed_by_answer, full_by_answer, last_by_answer, old_by_answer, store_faults}
use Rattle.fw_serve.proofs.FormFacts.{checkpointed_never_old, second_never_old}
use Rattle.fw_serve.proofs.laws.what_the_store_refuses_has_its_cause.Goals as goal

pub returns : goal.returns
returns c = record {
  failed = failed_by_answer;
  generations = last_by_answer;
  too_large = full_by_answer;
  old_side = old_by_answer;
  others = store_faults;
  new_side = λ before after commands answers place second given. second_never_old commands before after answers place second given;
  checkpointed = λ before after commands answers place later given. checkpointed_never_old commands before after answers place later given;
}
