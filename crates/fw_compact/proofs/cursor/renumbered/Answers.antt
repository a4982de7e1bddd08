use Rattle.std.proofs.Common.{◌≡◌, ◌<◌, ◌^◌, ◌∙◌, string_bytes, sym, arith}
use Rattle.fw_entry.specs.View.{command_view}
use Rattle.fw_compact.proofs.EntryLimits.{is_entry, same_length}
use Rattle.fw_compact.proofs.cursor.renumbered.Goals as goal

pub of_measured-requires-clause-kept : goal.of_measured-requires-clause-kept
of_measured-requires-clause-kept c =
    let old = c.args.entry.now in
    let origin : string_bytes c.in_ok-origin.origin ≡ old.origin = c.in_ok-origin.ensures.ok ∙ c.origin.ensures.name in
    let command : command_view c.in_ok-command.command ≡ old.command = c.in_ok-command.ensures ∙ c.command.ensures.command in
    let fits : c.args.number < 2 ^ 64 = omega arith in
    rw (origin, command) (is_entry c.args.number old c.command.ensures.valid c.requires fits)

pub of_measured-requires-clause-length : goal.of_measured-requires-clause-length
of_measured-requires-clause-length c =
    let old = c.args.entry.now in
    let origin : string_bytes c.in_ok-origin.origin ≡ old.origin = c.in_ok-origin.ensures.ok ∙ c.origin.ensures.name in
    let command : command_view c.in_ok-command.command ≡ old.command = c.in_ok-command.ensures ∙ c.command.ensures.command in
    rw (origin, command) (c.encoded_len.ensures ∙ sym (same_length c.args.number old))
