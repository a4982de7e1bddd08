use Rattle.std.proofs.Common.{◌≡◌, true, rules}
use Rattle.fw_entry.specs.Entry.{is_origin}
use Rattle.fw_entry.proofs.OriginFacts.{IsUtf8-origin}
use Rattle.fw_entry.proofs.entry.checked.Goals as goal

pub returns-in-Err-clause-fault : goal.returns-in-Err-clause-fault
returns-in-Err-clause-fault c =
    let named : is_origin c.args.origin.now ≡ true = search rules in
    absurd (c.in-Err.ensures.cases.0 (IsUtf8-origin c.args.origin.now named))
