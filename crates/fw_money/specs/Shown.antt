-- The parts of a number text that a struct of the reader holds.
use Rattle.fw_money.specs.Number.{Parts}
use Rattle.fw_money.specs.declared.parts.NumberParts.{NumberParts}

-- the bytes of each part
abbrev pub parts_shown : NumberParts → Parts
parts_shown p = record {
  sign = p.sign.now;
  whole = p.whole.now;
  point = p.point.now;
  fraction = p.fraction.now;
  mark = p.mark.now;
  exponent_sign = p.exponent_sign.now;
  exponent = p.exponent.now;
}
