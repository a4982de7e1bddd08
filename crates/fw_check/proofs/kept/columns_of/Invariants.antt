use Rattle.std.proofs.Common.{◌≡◌, map, take}
use Rattle.fw_check.specs.Kept.{kept_value, nothing_kept}
use Rattle.fw_check.proofs.kept.columns_of.Given as goal

-- a column for each one so far
abbrev pub invariant-loop-keep : goal.invariant-loop-keep
invariant-loop-keep l = map kept_value l.columns.items ≡ map nothing_kept (take l.keep-index l.keeps)
