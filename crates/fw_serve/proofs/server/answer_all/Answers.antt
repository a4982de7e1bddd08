use Rattle.std.proofs.Common.{refl, inl, inr}
use Rattle.std.proofs.lemmas.Result.{err_from_is_err_and}
use Rattle.fw_serve.proofs.FlightFacts.{Runs-part, Runs-whole, RunsSoFar-more, RunsSoFar-none, RunsTo-cut, RunsTo-whole, within_one}
use Rattle.fw_serve.proofs.ServedFacts.{ServesSoFar-none, ServesSoFar-more, Serves-whole}
use Rattle.fw_script.specs.Plain.{plain_command}
use Rattle.fw_serve.specs.ReplyText.{reply_text}
use Rattle.fw_serve.specs.Standings.{standing_of}
use Rattle.fw_serve.proofs.server.answer_all.Goals as goal

pub loop-command-init : goal.loop-command-init
loop-command-init g c = record {
  so_far = ServesSoFar-none _ _ _ _ c.commands-script.ensures;
  runs = RunsSoFar-none _ _ _ _ _ _ c.commands-script.ensures;
  kept = c.new-cache.ensures.kept _ _;
}

pub returns-in_err-write_reply-clause-write : goal.returns-in_err-write_reply-clause-write
returns-in_err-write_reply-clause-write g c =
    let p = err_from_is_err_and c.from_residual.result c.from_residual.ensures.1 in
    let why = c.in_err-write_reply.ensures.part in
    rw (p.1, p.2) (
      why.0,
      record {
        left = c.loop-command.script;
        between = standing_of g.V.Volume.view c.loop-command.store;
        holds_between = g.W.Write.contents c.loop-command.writer;
        whole = c.loop-command.invariant.so_far;
        last = inr (record {
          command = plain_command c.in-Some.command;
          rest = c.next_command.new.self;
          reads = c.in-Some.ensures.command;
          answer = reply_text c.answer-reply.result;
          answered = c.answer-reply.ensures.answer;
          writes = why.1;
        });
      },
    )

pub returns-in_err-write_reply-clause-runs : goal.returns-in_err-write_reply-clause-runs
returns-in_err-write_reply-clause-runs g c =
    let p = err_from_is_err_and c.from_residual.result c.from_residual.ensures.1 in
    rw (p.1)
    (RunsTo-cut _ _ _ _ _ _ _ _
    (Runs-part _ _ _ _ _ _ _ _ _ _ _ _ _ c.loop-command.invariant.runs c.in-Some.ensures.command c.answer-reply.ensures.answer c.answer-reply.ensures.moves
    (within_one _ _ _ _ _ _ c.keeps.ensures c.keeps-in-Some.ensures (g.met.V.Volume.only_now c.loop-command.store.volume) c.answer-reply.ensures.moves) c.in_err-write_reply.ensures.part.1))

pub loop-command-preserved : goal.loop-command-preserved
loop-command-preserved g c = record {
  so_far = ServesSoFar-more _ _ _ _ _ _ _ _ _ _ _ c.loop-command.invariant.so_far c.in-Some.ensures.command c.answer-reply.ensures.answer c.in_ok-write_reply.ensures.whole;
  runs = RunsSoFar-more _ _ _ _ _ _ _ _ _ _ _ _ _ c.loop-command.invariant.runs c.in-Some.ensures.command c.answer-reply.ensures.answer c.answer-reply.ensures.moves
      (within_one _ _ _ _ _ _ c.keeps.ensures c.keeps-in-Some.ensures (g.met.V.Volume.only_now c.loop-command.store.volume) c.answer-reply.ensures.moves) c.in_ok-write_reply.ensures.whole;
  kept = c.answer-reply.ensures.kept;
}

pub returns-in-Ok-clause-done : goal.returns-in-Ok-clause-done
returns-in-Ok-clause-done g c = Serves-whole _ _ _ _ _ _ _ c.loop-command.invariant.so_far c.in_default.ensures.command.0 c.in-Ok.ensures.bytes

pub returns-clause-write : goal.returns-clause-write
returns-clause-write g c = (
  refl,
  record {
    left = c.loop-command.script;
    between = standing_of g.V.Volume.view c.loop-command.store;
    holds_between = g.W.Write.contents c.loop-command.writer;
    whole = c.loop-command.invariant.so_far;
    last = inl (refl, c.in-Err.ensures.bytes);
  },
)

pub returns-in-Ok-clause-runs : goal.returns-in-Ok-clause-runs
returns-in-Ok-clause-runs g c = RunsTo-whole _ _ _ _ _ _ _ _ _ _ c.loop-command.invariant.runs c.in_default.ensures.command.0 c.in-Ok.ensures.bytes

pub returns-clause-runs : goal.returns-clause-runs
returns-clause-runs g c = RunsTo-cut _ _ _ _ _ _ _ _ (Runs-whole _ _ _ _ _ _ _ _ _ c.loop-command.invariant.runs c.in-Err.ensures.bytes)
