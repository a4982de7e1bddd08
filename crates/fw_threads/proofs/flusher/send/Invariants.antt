use Rattle.std.proofs.Common.{◌≡◌, ℕ, ◌+◌, length, get_or, Some}
use Rattle.std.specs.Prelude.{slice_get}
use Rattle.fw_snapshot.specs.History.{History}
use Rattle.fw_group.specs.declared.answer.Answer.{Answer}
use Rattle.fw_group.specs.Items.{entries_of}
use Rattle.fw_threads.specs.Posts.{no_entry}
use Rattle.fw_threads.specs.Told.{IsRight}
use Rattle.fw_threads.proofs.flusher.send.Given as goal

abbrev pub invariant-loop : goal.invariant-loop
invariant-loop g l =
    record {
      left : length l.answers.items + l.counter ≡ length l.importers;
      right : (k : ℕ) (a : Answer History) → slice_get l.answers.items k ≡ Some a → IsRight (get_or (entries_of l.hand) k no_entry) a;
    }
