use Rattle.std.proofs.Common.{arith}
use Rattle.std.specs.Prelude.{string_bytes}
use Rattle.fw_entry.specs.View.{command_view}
use Rattle.fw_entry_bytes.proofs.EntrySteps.{size_is, no_longer, entry_refused, entry_taken, entry_kept, entry_fails}
use Rattle.fw_entry_bytes.proofs.reading.entry_of.Goals as goal

pub overflow_sub-len : goal.overflow_sub-len
overflow_sub-len c =
    let f = c.in-Ok.fields in
    no_longer c.args.form c.args.bytes.now ((string_bytes f.origin, (f.seq, command_view f.command)), c.in-Ok.rest.now) (λ i. omega (arith, c.type_inv.bytes i)) c.in-Ok.ensures

pub returns-then-len-gt-MOST_BYTES : goal.returns-then-len-gt-MOST_BYTES
returns-then-len-gt-MOST_BYTES c =
    let f = c.in-Ok.fields in
    entry_refused c.args.form c.args.bytes.now ((string_bytes f.origin, (f.seq, command_view f.command)), c.in-Ok.rest.now) (λ i. omega (arith, c.type_inv.bytes i)) c.in-Ok.ensures (omega arith)

pub of_measured-requires-clause-kept : goal.of_measured-requires-clause-kept
of_measured-requires-clause-kept c =
    let f = c.in-Ok.fields in
    entry_kept c.args.form c.args.bytes.now ((string_bytes f.origin, (f.seq, command_view f.command)), c.in-Ok.rest.now) (λ i. omega (arith, c.type_inv.bytes i)) c.in-Ok.ensures (omega arith)

pub returns-else-len-gt-MOST_BYTES : goal.returns-else-len-gt-MOST_BYTES
returns-else-len-gt-MOST_BYTES c =
    let f = c.in-Ok.fields in
    rw c.of_measured.ensures (entry_taken c.args.form c.args.bytes.now ((string_bytes f.origin, (f.seq, command_view f.command)), c.in-Ok.rest.now) (λ i. omega (arith, c.type_inv.bytes i)) c.in-Ok.ensures (omega arith))

pub returns-in-Err : goal.returns-in-Err
returns-in-Err c = entry_fails c.args.form c.args.bytes.now c.in-Err.e c.in-Err.ensures

pub of_measured-requires-clause-length : goal.of_measured-requires-clause-length
of_measured-requires-clause-length c =
    let f = c.in-Ok.fields in
    omega (arith, size_is c.args.form c.args.bytes.now ((string_bytes f.origin, (f.seq, command_view f.command)), c.in-Ok.rest.now) (λ i. omega (arith, c.type_inv.bytes i)) c.in-Ok.ensures)
