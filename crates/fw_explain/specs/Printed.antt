-- How a fault is printed: its code, a blank and its name.
use Rattle.std.specs.Prelude.{◌==◌, ℕ, List}
use Rattle.std.specs.List.{before_first}

-- the code of a fault as it is printed: what stands before the first blank, or all where there is none
abbrev pub code_in : List ℕ → List ℕ
code_in fault = before_first (λ b. b == 32) fault
