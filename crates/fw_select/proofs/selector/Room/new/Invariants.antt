use Rattle.std.proofs.Common.{◌≡◌, vec_len}
use Rattle.fw_select.proofs.selector.Room.new.Given as goal

-- so many texts so far
abbrev pub invariant-loop-key : goal.invariant-loop-key
invariant-loop-key l = vec_len l.group ≡ l._key
