use Rattle.std.proofs.Common.{◌∙◌, ap, sym, if◌then◌else◌}
use Rattle.std.specs.Option.{option_copied, option_to_list}
use Rattle.std.specs.Str.{bytes_eq}
use Rattle.fw_snapshot.specs.Uses.{commitments_with}
use Rattle.fw_snapshot.proofs.EntryFacts.{commitments_with_option, commitments_with_no_option, counts_same, counts_kept}
use Rattle.fw_snapshot.proofs.parts.registered_after.Goals as goal

pub returns-in-Some : goal.returns-in-Some
returns-in-Some c =
    counts_same c.args.registered.now c.counted.result
    (λ id. if bytes_eq id c.id.result.now then 1 else 0)
    (λ id. commitments_with id (option_to_list (option_copied c.args.more)))
    (λ id. ap (λ text. if bytes_eq id text then 1 else 0) c.id.ensures.value ∙ sym (commitments_with_option id c.args.more c.in-Some.more c.in-Some.is))
    c.counted.ensures

pub returns-in-None : goal.returns-in-None
returns-in-None c =
    counts_kept c.args.registered.now c.copy.result
    (λ id. commitments_with id (option_to_list (option_copied c.args.more)))
    (λ id. commitments_with_no_option id c.args.more c.in-None.is)
    c.copy.ensures
