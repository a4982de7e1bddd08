use Rattle.std.proofs.Common.{◌≡◌, length, map, take, vec_len}
use Rattle.fw_select.specs.Keys.{value}
use Rattle.fw_select.specs.Table.{texts_of}
use Rattle.fw_select.proofs.selector.Selector.put_group.Given as goal

-- the values of the keys so far stand in their places
abbrev pub invariant-loop-place : goal.invariant-loop-place
invariant-loop-place l = record {
  put : take l.place (texts_of l.group) ≡ map (λ k. value k l.line) (take l.place l.self.keys.now);
  long : vec_len l.group ≡ length l.self.keys.now;
}
