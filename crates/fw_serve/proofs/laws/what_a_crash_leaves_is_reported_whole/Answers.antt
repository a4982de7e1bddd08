use Rattle.fw_serve.proofs.LeftFacts.{left_between, left_first, left_group, left_opens, left_run, left_script, left_within, left_after, flies_one}
use Rattle.fw_serve.proofs.laws.what_a_crash_leaves_is_reported_whole.Goals as goal

pub returns-clause-between : goal.returns-clause-between
returns-clause-between c = left_between

pub returns-clause-within : goal.returns-clause-within
returns-clause-within c = left_within

pub returns-clause-opens : goal.returns-clause-opens
returns-clause-opens c = left_opens

pub returns-clause-run : goal.returns-clause-run
returns-clause-run c = left_run

pub returns-clause-first : goal.returns-clause-first
returns-clause-first c = left_first

pub returns-clause-group : goal.returns-clause-group
returns-clause-group c = left_group

pub returns-clause-script : goal.returns-clause-script
returns-clause-script c = left_script

pub returns-clause-after_script : goal.returns-clause-after_script
returns-clause-after_script c = left_after

pub returns-clause-one : goal.returns-clause-one
returns-clause-one c = flies_one
