use Rattle.std.proofs.Common.{◌≡◌, map, drop}
use Rattle.fw_import.specs.Sending.{with_posts}
use Rattle.fw_import.proofs.sent.push_posts.Given as goal

-- the posts among the heads that are left, behind those so far, are all of them
abbrev pub invariant-loop-head : goal.invariant-loop-head
invariant-loop-head l =
    with_posts l.state.entries l.origin (map (λ h. h.now) (drop l.head-index l.heads)) l.posts.items
    ≡ with_posts l.state.entries l.origin (map (λ h. h.now) l.heads) l.fn.posts.items
