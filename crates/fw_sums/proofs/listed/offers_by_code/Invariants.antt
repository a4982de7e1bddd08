use Rattle.std.proofs.Common.{◌≡◌, length}
use Rattle.fw_row_table.specs.Texts.{names_of}
use Rattle.fw_sums.specs.Listed.{AreOffersByCode}
use Rattle.fw_sums.proofs.listed.offers_by_code.Given as goal

-- the codes so far are looked up, each where it is in use
abbrev pub invariant-loop-code : goal.invariant-loop-code
invariant-loop-code l = record {
  each : AreOffersByCode l.roster (names_of l.segment) l.by_code.items;
  many : length l.by_code.items ≡ l.code;
}
