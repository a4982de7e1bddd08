-- The segments of the rows that count.
use Rattle.std.specs.Prelude.{List, ◌++◌}
use Rattle.fw_charge.specs.Charge.{Charge}
use Rattle.fw_posted.specs.declared.counting.CountingSegments.TheInside.{Inside}

abbrev pub counting_value : Inside → List (List Charge)
counting_value c = c.all ++ c.some.items
