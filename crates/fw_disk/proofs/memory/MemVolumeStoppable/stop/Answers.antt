use Rattle.std.proofs.Common.{List, reverse, subst, arith}
use Rattle.fw_disk.specs.declared.volume.Side.TheVariants.{Left, Right}
use Rattle.fw_disk.specs.declared.calls.Call.{Call}
use Rattle.fw_disk.specs.Memory.{pending, file_state, LeftBy}
use Rattle.fw_disk.proofs.Outcomes.{both_outcomes}
use Rattle.fw_disk.proofs.Stops.{left_image, left_length}
use Rattle.fw_disk.proofs.memory.MemVolumeStoppable.stop.Goals as goal

pub returns-clause-image : goal.returns-clause-image
returns-clause-image c =
    let m = c.args.self in
    let calls = reverse m.calls.items in
    let left = c.leave.new.file.items in
    let right = c.leave-2.new.file.items in
    let at_left : LeftBy m.choice (file_state m.left.items (pending Left calls)) left = subst (λ (l : List Call). LeftBy m.choice (file_state m.left.items (pending Left (reverse l))) left) c.deref.ensures.value c.leave.ensures.left in
    let at_right : LeftBy m.choice (file_state m.right.items (pending Right calls)) right = subst (λ (l : List Call). LeftBy m.choice (file_state m.right.items (pending Right (reverse l))) right) c.deref-2.ensures.value c.leave-2.ensures.left in
    (left_image m.choice m.left.items left (pending Left calls) m.left_undoes at_left, left_image m.choice m.right.items right (pending Right calls) m.right_undoes at_right)

pub invariant_of-result-clause-left_fits : goal.invariant_of-result-clause-left_fits
invariant_of-result-clause-left_fits c =
    let m = c.args.self in
    let calls = reverse m.calls.items in
    let left = c.leave.new.file.items in
    let at_left : LeftBy m.choice (file_state m.left.items (pending Left calls)) left = subst (λ (l : List Call). LeftBy m.choice (file_state m.left.items (pending Left (reverse l))) left) c.deref.ensures.value c.leave.ensures.left in
    omega (arith, m.left_fits, left_length m.choice m.left.items left (pending Left calls) m.left_undoes at_left)

pub invariant_of-result-clause-right_fits : goal.invariant_of-result-clause-right_fits
invariant_of-result-clause-right_fits c =
    let m = c.args.self in
    let calls = reverse m.calls.items in
    let right = c.leave-2.new.file.items in
    let at_right : LeftBy m.choice (file_state m.right.items (pending Right calls)) right = subst (λ (l : List Call). LeftBy m.choice (file_state m.right.items (pending Right (reverse l))) right) c.deref-2.ensures.value c.leave-2.ensures.left in
    omega (arith, m.right_fits, left_length m.choice m.right.items right (pending Right calls) m.right_undoes at_right)

pub returns-clause-images : goal.returns-clause-images
returns-clause-images c image =
    let m = c.args.self in
    both_outcomes m.left.items m.right.items (reverse m.calls.items) m.left_undoes m.right_undoes image
