use Rattle.fw_column_bytes.proofs.ColumnsAgain.{columns_again}
use Rattle.fw_column_bytes.proofs.ColumnsTaken.{columns_taken_so}
use Rattle.fw_definitions.proofs.laws.columns_read_as_they_are_spelled.Goals as goal

pub returns-clause-read : goal.returns-clause-read
returns-clause-read c bytes rows rest are read = let taken = columns_taken_so bytes (rows, rest) are read in (taken.0.parts, taken.1)

pub returns-clause-spelled : goal.returns-clause-spelled
returns-clause-spelled c = columns_again
