use Rattle.std.proofs.Common.{◌∙◌, ap, is_some}
use Rattle.fw_owner.specs.Owned.{found, or_none}
use Rattle.fw_owner.proofs.OwnedFacts.{report_is}
use Rattle.fw_owner.proofs.laws.an_owner_sees_what_the_report_says.Goals as goal

pub returns : goal.returns
returns c = record {
  costs = λ history key group from to step owned report is on.
      is.whole.costs_are ∙ ap or_none (is.whole.are_found.costs_are ∙ ap (found group) (report_is history key group from to step owned report is on));
  there = λ history key group from to step owned report is on.
      is.whole.there ∙ ap is_some (is.whole.are_found.costs_are ∙ ap (found group) (report_is history key group from to step owned report is on));
}
