-- Where a reader stands in a text that is rewritten.
use Rattle.std.specs.Prelude.{ℕ, List, ◌++◌, ◌-◌, take, drop}
use Rattle.fw_scan.specs.Places.{state_of}
use Rattle.fw_dialect.specs.Texts.{rewritten_from}
use Rattle.fw_dialect.specs.declared.rewriting.Reading.{Reading}
use Rattle.fw_dialect.specs.declared.role.Role.{Role}

-- what is rewritten already, and then what is left to rewrite
abbrev pub left_at : List Role → List ℕ → ℕ → Reading → List ℕ → List ℕ
left_at roles all at r out =
    out ++ rewritten_from roles (state_of r.place) r.column (take (at - r.start) (drop r.start all)) r.text.items (drop at all)
