use Rattle.std.proofs.Common.{◌≡◌, ℕ, ◌+◌, ◌≤◌, length, vec_capacity, All, Some}
use Rattle.std.specs.Prelude.{slice_get}
use Rattle.fw_group.specs.declared.answer.Answer.{Answer}
use Rattle.fw_group.specs.Answers.{AnswerIs}
use Rattle.fw_group.proofs.hand.answer_all.Given as goal

abbrev pub invariant-loop-place : goal.invariant-loop-place
invariant-loop-place g l =
    record {
      left : length l.fronts.items + l.place ≡ length l.hand;
      same : All (λ f. f ≡ l.front) l.fronts.items;
      made : length l.answers.items ≡ l.place;
      room : length l.hand ≤ vec_capacity l.answers;
      each : (k : ℕ) (a : Answer g.row.F.Denot) → slice_get l.answers.items k ≡ Some a → AnswerIs g.F.Front.list l.hand l.outcome l.front k a;
    }
