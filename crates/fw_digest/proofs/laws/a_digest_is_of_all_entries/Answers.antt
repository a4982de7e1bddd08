use Rattle.std.proofs.Common.{refl}
use Rattle.fw_entry_bytes.specs.declared.form.Form.TheVariants as form
use Rattle.fw_digest.proofs.DigestFacts.{digest_same, digest_other, message_one, digest_equal}
use Rattle.fw_digest.proofs.laws.a_digest_is_of_all_entries.Goals as goal

pub returns-clause-same : goal.returns-clause-same
returns-clause-same c = digest_same

pub returns-clause-other : goal.returns-clause-other
returns-clause-other c = digest_other

pub returns-clause-message : goal.returns-clause-message
returns-clause-message c =
    message_one (λ rest e keeps. c.entries_have_one_spelling.ensures.again form.Two rest e keeps refl)

pub returns-clause-equal : goal.returns-clause-equal
returns-clause-equal c =
    digest_equal (λ rest e keeps. c.entries_have_one_spelling.ensures.again form.Two rest e keeps refl)
