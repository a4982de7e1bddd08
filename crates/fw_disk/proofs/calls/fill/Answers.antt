use Rattle.std.proofs.Common.{◌∷◌, ℕ, List, length, map, reverse, subst, sym}
use Rattle.fw_disk.specs.Memory.{Span, pending, span, range, Filled}
use Rattle.fw_disk.proofs.Ranges.{AllWithin, all_within, filled_one, filled_more}
use Rattle.fw_disk.proofs.calls.fill.Goals as goal

pub loop-write-init : goal.loop-write-init
loop-write-init c = record { within = all_within (length c.args.file.now.items) (pending c.args.side (reverse c.args.calls.now)) c.requires.fit; more = λ new filled. filled }

pub loop-write-preserved : goal.loop-write-preserved
loop-write-preserved c =
    let file = c.loop-write.file.items in
    let filled_file = c.wipe.new.file.items in
    let write = c.in-Some.write.now in
    let later = pending c.args.side (reverse c.in-Some.before.now) in
    let found = c.in-Some.ensures.found in
    let within : AllWithin (length file) (span write ∷ later) = subst (λ (ws : List Span). AllWithin (length file) ws) found c.loop-write.invariant.within in
    let one = filled_one c.args.byte write.at write.len file filled_file within.0 c.wipe.ensures.wiped in
    record {
      within = subst (λ (n : ℕ). AllWithin n later) (sym one.len) within.1;
      more = λ new filled. c.loop-write.invariant.more new (subst (λ (ws : List Span). Filled c.args.byte (map range ws) file new) (sym found) (filled_more c.args.byte (range (span write)) (map range later) file filled_file new one filled));
    }
