use Rattle.fw_coverage.proofs.CoverageFacts.{capacity_adds_up, costs_of_hours, costs_of_term, one_coverage, paid_between}
use Rattle.fw_coverage.proofs.laws.coverage_adds_up.Goals as goal

pub returns : goal.returns
returns c = record { capacity = capacity_adds_up; hours = costs_of_hours; term = costs_of_term; paid = paid_between; one = one_coverage }
