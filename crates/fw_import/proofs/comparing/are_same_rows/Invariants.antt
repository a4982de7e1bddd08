use Rattle.std.proofs.Common.{◌≡◌, take}
use Rattle.fw_import.proofs.comparing.are_same_rows.Given as goal

-- the rows so far are the same
abbrev pub invariant-loop-place : goal.invariant-loop-place
invariant-loop-place l = take l.place l.one ≡ take l.place l.other
