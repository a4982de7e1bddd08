-- Which hours a question covers.
use Rattle.std.specs.Prelude.{◌≡◌, ◌≤◌, ◌+◌, Option, None, Some}
use Rattle.std.specs.Option.{unwrap_or}
use Rattle.fw_calendar.specs.Periods.{AreLast}
use Rattle.fw_calendar.specs.declared.steps.Period.{Period}
use Rattle.fw_charge.specs.Charge.{last_hour}
use Rattle.fw_views.specs.declared.asked_hours.AskedHours.{AskedHours}
use Rattle.fw_views.specs.declared.asked_hours.AskedHours.TheVariants.{Given, Open, Last}
use Rattle.fw_views.specs.declared.row_span.RowHours.{RowHours}

-- the hours that are covered where rows start in these: a range that is open at an end ends with the rows there
abbrev pub AreAsked : AskedHours → Option RowHours → Option Period → Type 0
AreAsked (Given period) rows asked = asked ≡ Some period
AreAsked (Open from to) None asked = asked ≡ None
AreAsked (Open from to) (Some rows) asked =
    asked ≡ Some (record { from = unwrap_or from rows.first; to = unwrap_or to (rows.last + 1) })
AreAsked (Last count step) None asked = asked ≡ None
AreAsked (Last count step) (Some rows) asked = 1 ≤ count → rows.last ≤ last_hour
    → (period : Period) × (asked ≡ Some period) × AreLast step count rows.last period
