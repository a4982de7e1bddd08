use Rattle.std.proofs.Common.{◌≡◌, ◌<◌, take}
use Rattle.fw_cover.specs.Offers.{text_number}
use Rattle.fw_cover.proofs.offers.text_number.Given as goal

abbrev pub invariant-loop-byte : goal.invariant-loop-byte
invariant-loop-byte l = record { so_far : l.number ≡ text_number (take l.byte-index l.byte-items); small : l.number < 4294967296 }
