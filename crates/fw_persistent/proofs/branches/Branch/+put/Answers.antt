use Rattle.std.proofs.Common.{arith, length, ◌≡◌, string_bytes, IfOk, Less, Equal, Greater, ap, subst, ◌∙◌}
use Rattle.std.specs.Ordering.{nat_cmp}
use Rattle.std.specs.Cmp.Lexicographic.{slice_cmp}
use Rattle.fw_persistent.specs.Branches.{entry_pair, branch_values, node_values}
use Rattle.fw_persistent.specs.Values.{IsRising, with_value}
use Rattle.fw_persistent.proofs.Middle.{rising_before, rising_after, sides_fewer, with_before, with_middle, with_after}
use Rattle.fw_persistent.proofs.branches.Branch.+put.Goals as goal

pub put-requires : goal.put-requires
put-requires g t c =
    let node = c.in-Fork.node.value in
    let is : branch_values c.args.self.now ≡ node_values node = ap branch_values c.in-Fork.is in
    let fewer = sides_fewer (branch_values node.before) (entry_pair node.entry) (branch_values node.after) in
    let rising = rising_before (branch_values node.before) (entry_pair node.entry) (branch_values node.after) (subst IsRising is c.requires.rising) in
    rw c.deref-in-Less.ensures (λ κs h. (omega (arith, fewer.0, ap length is, c.decreases), (h, rising)))

pub put-requires-in-Greater : goal.put-requires-in-Greater
put-requires-in-Greater g t c =
    let node = c.in-Fork.node.value in
    let is : branch_values c.args.self.now ≡ node_values node = ap branch_values c.in-Fork.is in
    let fewer = sides_fewer (branch_values node.before) (entry_pair node.entry) (branch_values node.after) in
    let rising = rising_after (branch_values node.before) (entry_pair node.entry) (branch_values node.after) (subst IsRising is c.requires.rising) in
    rw c.deref-in-Greater.ensures (λ κs h. (omega (arith, fewer.1, ap length is, c.decreases), (h, rising)))

pub returns-in_ok-copy-in-Less-2 : goal.returns-in_ok-copy-in-Less-2
returns-in_ok-copy-in-Less-2 g t c =
    let node = c.in-Fork.node.value in
    let text = string_bytes c.args.text.now.value in
    let is : branch_values c.args.self.now ≡ node_values node = ap branch_values c.in-Fork.is in
    let order : slice_cmp nat_cmp text (string_bytes node.entry.text.value) ≡ Less = cc (c.in-Less.ensures, c.as_str.ensures.value, c.as_str-2.ensures.value, c.deref-3.ensures, c.deref-2.ensures, c.deref.ensures) in
    let made = ap (with_value text c.args.value) is ∙ with_before (branch_values node.before) (entry_pair node.entry) (branch_values node.after) text c.args.value order in
    subst (λ values. IfOk c.balanced.result (λ branch. branch_values branch ≡ values)) (cc (made, c.in_ok-before-in-Less.ensures, c.in_ok-copy-in-Less.ensures, c.in_ok-copy-in-Less-2.ensures, c.deref-in-Less.ensures, c.deref-in-Less-2.ensures, c.deref-in-Less-3.ensures)) c.balanced.ensures

pub returns-in_ok-copy-in-Equal-2 : goal.returns-in_ok-copy-in-Equal-2
returns-in_ok-copy-in-Equal-2 g t c =
    let node = c.in-Fork.node.value in
    let text = string_bytes c.args.text.now.value in
    let is : branch_values c.args.self.now ≡ node_values node = ap branch_values c.in-Fork.is in
    let order : slice_cmp nat_cmp text (string_bytes node.entry.text.value) ≡ Equal = cc (c.in-Equal.ensures, c.as_str.ensures.value, c.as_str-2.ensures.value, c.deref-3.ensures, c.deref-2.ensures, c.deref.ensures) in
    let made = ap (with_value text c.args.value) is ∙ with_middle (branch_values node.before) (entry_pair node.entry) (branch_values node.after) text c.args.value (subst IsRising is c.requires.rising) order in
    subst (λ values. IfOk c.joined-in-Equal.result (λ branch. branch_values branch ≡ values)) (cc (made, c.in_ok-entry-in-Equal.ensures, c.in_ok-copy-in-Equal.ensures, c.in_ok-copy-in-Equal-2.ensures, c.deref-in-Equal.ensures, c.deref-in-Equal-2.ensures, c.deref-in-Equal-3.ensures)) c.joined-in-Equal.ensures

pub returns-in_ok-copy-in-Greater-2 : goal.returns-in_ok-copy-in-Greater-2
returns-in_ok-copy-in-Greater-2 g t c =
    let node = c.in-Fork.node.value in
    let text = string_bytes c.args.text.now.value in
    let is : branch_values c.args.self.now ≡ node_values node = ap branch_values c.in-Fork.is in
    let order : slice_cmp nat_cmp text (string_bytes node.entry.text.value) ≡ Greater = cc (c.in-Greater.ensures, c.as_str.ensures.value, c.as_str-2.ensures.value, c.deref-3.ensures, c.deref-2.ensures, c.deref.ensures) in
    let made = ap (with_value text c.args.value) is ∙ with_after (branch_values node.before) (entry_pair node.entry) (branch_values node.after) text c.args.value (subst IsRising is c.requires.rising) order in
    subst (λ values. IfOk c.balanced-in-Greater.result (λ branch. branch_values branch ≡ values)) (cc (made, c.in_ok-after-in-Greater.ensures, c.in_ok-copy-in-Greater.ensures, c.in_ok-copy-in-Greater-2.ensures, c.deref-in-Greater.ensures, c.deref-in-Greater-2.ensures, c.deref-in-Greater-3.ensures)) c.balanced-in-Greater.ensures
