use Rattle.std.proofs.Common.{◌≡◌, length, take}
use Rattle.fw_snapshot.specs.History.{rows_posted}
use Rattle.fw_replace.specs.Posts.{posts_from}
use Rattle.fw_replace.proofs.posts.posts_of.Given as goal

-- the posts among the entries so far, and how many rows these posted
abbrev pub invariant-loop-place : goal.invariant-loop-place
invariant-loop-place l = record {
  posts : l.posts.items ≡ posts_from l.state.entries l.origin 0 (take l.place l.state.entries);
  start : l.start ≡ length (rows_posted (take l.place l.state.entries));
}
