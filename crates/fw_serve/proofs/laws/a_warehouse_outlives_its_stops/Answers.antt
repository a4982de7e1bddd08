use Rattle.fw_serve.proofs.ScriptSessionFacts.{after_stopped, script_stopped}
use Rattle.fw_serve.proofs.SessionFacts.{adds_up_through, kept_group, kept_single, kept_through}
use Rattle.fw_serve.proofs.laws.a_warehouse_outlives_its_stops.Goals as goal

pub returns-clause-single : goal.returns-clause-single
returns-clause-single c = kept_single

pub returns-clause-group : goal.returns-clause-group
returns-clause-group c = kept_group

pub returns-clause-script : goal.returns-clause-script
returns-clause-script c = script_stopped

pub returns-clause-after_script : goal.returns-clause-after_script
returns-clause-after_script c = after_stopped

pub returns-clause-kept : goal.returns-clause-kept
returns-clause-kept c = kept_through

pub returns-clause-whole : goal.returns-clause-whole
returns-clause-whole c = adds_up_through
