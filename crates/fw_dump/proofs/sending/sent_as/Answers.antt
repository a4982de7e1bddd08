use Rattle.std.proofs.Common.{Ok}
use Rattle.fw_entry.specs.View.{command_view}
use Rattle.fw_serve.specs.Contents.{ContentReads}
use Rattle.fw_dump.proofs.Sent.{sends_parts}
use Rattle.fw_dump.proofs.sending.sent_as.Goals as goal

pub returns-in-Ok : goal.returns-in-Ok
returns-in-Ok c =
    let command = command_view c.in-Some-2.command in
    let reads : ContentReads c.args.kind c.args.currency c.args.content.now (Ok command) = rw c.in-Some-2.is at c.in_ok-command.ensures.reads in
    sends_parts c.args.currency c.args.kind c.args.origin.now c.args.sequence.now c.args.content.now c.in-Some.number command c.in-Ok.read c.seq-seq.ensures.valid c.in-Ok.ensures.entry
    c.in-Some.ensures reads
