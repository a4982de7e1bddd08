use Rattle.std.proofs.Common.{◌∷◌, [], map}
use Rattle.std.proofs.lemmas.List.{map-append}
use Rattle.fw_bytes.specs.Reading.{times}
use Rattle.fw_bytes.proofs.Loop.{goes_on, ends, is_done}
use Rattle.fw_segment.specs.Heads.{head_at}
use Rattle.fw_segment.specs.HeadView.{head_view}
use Rattle.fw_segment.proofs.heads.heads_after.Goals as goal

pub returns-in-Err : goal.returns-in-Err
returns-in-Err c = ends (head_at c.args.form) c.in-Err.e (map head_view c.loop.heads.items) c.args.count c.loop.counter c.loop.rest.now (times (head_at c.args.form) c.args.count c.args.bytes.now) c.loop-test.true c.in-Err.ensures c.loop.invariant

pub loop-preserved : goal.loop-preserved
loop-preserved c =
    rw (c.in_ok-push-in-Ok.ensures.items, map-append head_view c.loop.heads.items (c.in-Ok.head ∷ [])) (goes_on (head_at c.args.form) (map head_view c.loop.heads.items) c.args.count c.loop.counter c.loop.rest.now (head_view c.in-Ok.head) c.in-Ok.after.now (times (head_at c.args.form) c.args.count c.args.bytes.now) c.loop-test.true c.in-Ok.ensures c.loop.invariant)

pub returns : goal.returns
returns c = is_done (head_at c.args.form) (map head_view c.loop.heads.items) c.args.count c.loop.counter c.loop.rest.now (times (head_at c.args.form) c.args.count c.args.bytes.now) c.loop-test.false c.loop.invariant
