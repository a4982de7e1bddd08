-- What the reader of rows by column holds, as plain values.
use Rattle.std.specs.Prelude.{map, string_bytes}
use Rattle.fw_column_bytes.specs.Reading.{Front, Amounts, Periods, Discounts, Quantities, Texts, Body, Parts}
use Rattle.fw_column_bytes.specs.declared.reading.FrontRead.{FrontRead}
use Rattle.fw_column_bytes.specs.declared.reading.AmountsRead.{AmountsRead}
use Rattle.fw_column_bytes.specs.declared.reading.PeriodsRead.{PeriodsRead}
use Rattle.fw_column_bytes.specs.declared.reading.DiscountsRead.{DiscountsRead}
use Rattle.fw_column_bytes.specs.declared.reading.QuantitiesRead.{QuantitiesRead}
use Rattle.fw_column_bytes.specs.declared.reading.TextsRead.{TextsRead}
use Rattle.fw_column_bytes.specs.declared.reading.BodyRead.{BodyRead}
use Rattle.fw_column_bytes.specs.declared.reading.PartsRead.{PartsRead}
use Rattle.fw_column_bytes.specs.Spelling.{layout}

abbrev pub front_view : FrontRead → Front
front_view f = (layout, (f.count, map string_bytes f.names.items))

abbrev pub amounts_view : AmountsRead → Amounts
amounts_view a = (a.billed.items, (a.effective.items, (a.categories.items, a.classes.items)))

abbrev pub periods_view : PeriodsRead → Periods
periods_view p = (p.starts.items, p.ends.items)

abbrev pub discounts_view : DiscountsRead → Discounts
discounts_view d = (d.ids.items, (d.kinds.items, d.statuses.items))

abbrev pub quantities_view : QuantitiesRead → Quantities
quantities_view q = (q.are_there.items, q.counts.items)

abbrev pub texts_view : TextsRead → Texts
texts_view t = (t.units.items, (t.skus.items, t.sub_accounts.items))

abbrev pub body_view : BodyRead → Body
body_view b = (amounts_view b.amounts, (periods_view b.periods, (discounts_view b.discounts, (quantities_view b.quantities, (texts_view b.texts, b.tags)))))

abbrev pub parts_view : PartsRead → Parts
parts_view p = (front_view p.front, body_view p.body)
