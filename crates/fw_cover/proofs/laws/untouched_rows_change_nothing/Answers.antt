use Rattle.fw_cover.proofs.Untouched.{has_no_pair, left_whole, cover_past, left_past, unused_past}
use Rattle.fw_cover.proofs.laws.untouched_rows_change_nothing.Goals as goal

pub returns : goal.returns
returns c = record { pairs = has_no_pair; whole = left_whole; takes = cover_past; left = left_past; unused = unused_past }
