use Rattle.std.proofs.Common.{◌≡◌, [], length}
use Rattle.csv.specs.Machine.{next_record}
use Rattle.csv.specs.Reading.{default_config}
use Rattle.csv.specs.Records.{fields_of, partial_of}
use Rattle.fw_rows.specs.At.{next_of}
use Rattle.fw_rows.specs.Short.{state_of}
use Rattle.fw_rows.proofs.short.ShortTextRecords.advance.Given as goal

-- the bytes that were taken have begun the record that is the next one
abbrev pub invariant-bytes : goal.invariant-bytes
invariant-bytes l =
    record {
      next :
          next_of (state_of l.fn.self.place) l.fn.self.rest.now
          ≡ next_record default_config (state_of l.self.place) (fields_of l.fields)
          l.self.field.items l.self.rest.now;
      partial : partial_of l.fields ≡ [];
    }

abbrev pub decreases-bytes : goal.decreases-bytes
decreases-bytes l = length l.self.rest.now
