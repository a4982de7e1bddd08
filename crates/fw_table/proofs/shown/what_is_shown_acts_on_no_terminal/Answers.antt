use Rattle.fw_table.proofs.ShownFacts.{shown_acts_nowhere, quiet_as_it_is}
use Rattle.fw_table.proofs.shown.what_is_shown_acts_on_no_terminal.Goals as goal

pub returns-clause-safe : goal.returns-clause-safe
returns-clause-safe c = λ text utf8. shown_acts_nowhere text

pub returns-clause-same : goal.returns-clause-same
returns-clause-same c = quiet_as_it_is
