-- What is summed of commitments, and what comes of it.
use Rattle.std.specs.Prelude.{ℤ, ◌+ℤ◌, ◌-ℤ◌}
use Rattle.fw_figures.specs.declared.figures.Amount.{Amount}
use Rattle.fw_figures.specs.declared.figures.Amount.TheVariants as amount
use Rattle.fw_figures.specs.declared.figures.Figures.{Figures}

-- with an amount more
abbrev pub with_amount : Figures → Amount → ℤ → Figures
with_amount f amount.Used x = record f { used = f.used +ℤ x }
with_amount f amount.Unused x = record f { unused = f.unused +ℤ x }
with_amount f amount.Paid x = record f { paid = f.paid +ℤ x }
with_amount f amount.Covered x = record f { covered = f.covered +ℤ x }
with_amount f amount.Eligible x = record f { eligible = f.eligible +ℤ x }
with_amount f amount.Usable x = record f { usable = f.usable +ℤ x }
with_amount f amount.Unpriced x = record f { unpriced = f.unpriced +ℤ x }

-- what the hours carry of the purchases: of what was used and of what was left unused
abbrev pub amortised : Figures → ℤ
amortised f = f.used +ℤ f.unused

-- what could have been covered and wasn't
abbrev pub uncovered : Figures → ℤ
uncovered f = f.eligible -ℤ f.covered

-- what was covered would have cost more by this than it did
abbrev pub savings : Figures → ℤ
savings f = f.covered -ℤ amortised f
