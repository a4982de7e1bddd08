use Rattle.std.proofs.Common.{arith, length, ◌≡◌, string_bytes, Less, Equal, Greater, sym, ap, subst, ◌∙◌}
use Rattle.std.specs.Ordering.{nat_cmp}
use Rattle.std.specs.Cmp.Lexicographic.{slice_cmp}
use Rattle.fw_persistent.specs.Branches.{entry_pair, branch_values, node_values}
use Rattle.fw_persistent.specs.Values.{IsRising, value_at}
use Rattle.fw_persistent.proofs.Middle.{rising_before, rising_after, sides_fewer, found_before, found_middle, found_after, same_text}
use Rattle.fw_persistent.proofs.branches.Branch.+entry.Goals as goal

pub entry-requires : goal.entry-requires
entry-requires g t c =
    let node = c.in-Fork.node.value in
    let is : branch_values c.args.self.now ≡ node_values node = ap branch_values c.in-Fork.is in
    let fewer = sides_fewer (branch_values node.before) (entry_pair node.entry) (branch_values node.after) in
    let rising = rising_before (branch_values node.before) (entry_pair node.entry) (branch_values node.after) (subst IsRising is c.requires.1.1.1) in
    rw c.deref-in-Less.ensures (λ κs h. (omega (arith, fewer.0, ap length is, c.requires.1.0), (h, rising)))

pub entry-requires-in-Greater : goal.entry-requires-in-Greater
entry-requires-in-Greater g t c =
    let node = c.in-Fork.node.value in
    let is : branch_values c.args.self.now ≡ node_values node = ap branch_values c.in-Fork.is in
    let fewer = sides_fewer (branch_values node.before) (entry_pair node.entry) (branch_values node.after) in
    let rising = rising_after (branch_values node.before) (entry_pair node.entry) (branch_values node.after) (subst IsRising is c.requires.1.1.1) in
    rw c.deref-in-Greater.ensures (λ κs h. (omega (arith, fewer.1, ap length is, c.requires.1.0), (h, rising)))

pub returns-in-Less : goal.returns-in-Less
returns-in-Less g t c =
    let node = c.in-Fork.node.value in
    let text = c.args.text.now in
    let is : branch_values c.args.self.now ≡ node_values node = ap branch_values c.in-Fork.is in
    let less : slice_cmp nat_cmp text (string_bytes node.entry.text.value) ≡ Less = cc (c.in-Less.ensures, c.as_str.ensures.value, c.deref-2.ensures, c.deref.ensures) in
    let found = ap (value_at text) is ∙ found_before (branch_values node.before) (entry_pair node.entry) (branch_values node.after) text (subst IsRising is c.requires.1.1.1) less in
    rw found (rw c.deref-in-Less.ensures at c.entry.ensures)

pub returns-in-Equal : goal.returns-in-Equal
returns-in-Equal g t c =
    let node = c.in-Fork.node.value in
    let text = c.args.text.now in
    let is : branch_values c.args.self.now ≡ node_values node = ap branch_values c.in-Fork.is in
    let equal : slice_cmp nat_cmp text (string_bytes node.entry.text.value) ≡ Equal = cc (c.in-Equal.ensures, c.as_str.ensures.value, c.deref-2.ensures, c.deref.ensures) in
    let found = ap (value_at text) is ∙ found_middle (branch_values node.before) (entry_pair node.entry) (branch_values node.after) text (subst IsRising is c.requires.1.1.1) equal in
    rw c.deref-in-Equal.ensures (sym (same_text text (string_bytes node.entry.text.value) equal), found)

pub returns-in-Greater : goal.returns-in-Greater
returns-in-Greater g t c =
    let node = c.in-Fork.node.value in
    let text = c.args.text.now in
    let is : branch_values c.args.self.now ≡ node_values node = ap branch_values c.in-Fork.is in
    let greater : slice_cmp nat_cmp text (string_bytes node.entry.text.value) ≡ Greater = cc (c.in-Greater.ensures, c.as_str.ensures.value, c.deref-2.ensures, c.deref.ensures) in
    let found = ap (value_at text) is ∙ found_after (branch_values node.before) (entry_pair node.entry) (branch_values node.after) text (subst IsRising is c.requires.1.1.1) greater in
    rw found (rw c.deref-in-Greater.ensures at c.entry-in-Greater.ensures)
