use Rattle.std.proofs.Common.{rules, ◌≡◌, ◌++◌}
use Rattle.fw_calendar.specs.Times.{tail_of}
use Rattle.fw_calendar.proofs.TimeFacts.{hour_of_second, no_hour}
use Rattle.fw_calendar.proofs.times.read_time.Goals as goal

pub returns-in-Some-clause-value : goal.returns-in-Some-clause-value
returns-in-Some-clause-value c =
    let whole : c.as_str.result.now ≡ c.args.text.now ++ tail_of c.args.text.now = search rules in
    hour_of_second c.args.text.now c.in-Some.second c.whole_hour.result (rw whole at c.in-Some.ensures.value) c.whole_hour.ensures.value

pub returns-clause-value : goal.returns-clause-value
returns-clause-value c =
    let whole : c.as_str.result.now ≡ c.args.text.now ++ tail_of c.args.text.now = search rules in
    no_hour c.args.text.now (rw whole at c.in-None.ensures.value)
