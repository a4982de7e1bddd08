-- A warehouse under another policy.
use Rattle.std.specs.Prelude.{◌≡◌, ◌∷◌, []}
use Rattle.fw_entry.specs.Entry.{EntryValue}
use Rattle.fw_entry.specs.Entry.CommandValue.{set_policy}
use Rattle.fw_snapshot.specs.History.{History}
use Rattle.fw_snapshot.specs.Judging.{judged}
use Rattle.fw_snapshot.specs.Verdicts.{with_more}
use Rattle.fw_snapshot.specs.declared.verdict.Verdict.TheVariants as verdict
use Rattle.fw_terms.specs.Policy.{PolicyValue}

-- the warehouse with one entry more, which is accepted and sets the policy
pub record IsUnder (h : History) (policy : PolicyValue) (under : History) : Type 0 where
  pub entry : EntryValue
  pub sets : entry.command ≡ set_policy policy
  pub accepted : judged h.entries entry ≡ verdict.Accept
  pub history : under ≡ with_more h (entry ∷ [])
