-- Reading all of the bytes.
use Rattle.std.specs.Prelude.{ℕ, List, length, Result, Ok, Err, ◌==◌, if◌then◌else◌}
use Rattle.fw_bytes.specs.Reading.{Reading, ◌>>=◌}

-- what stands in the bytes, where nothing follows it; the first byte after it is a fault
unfoldable pub whole : {A : Type 0} → Reading A → List ℕ → Result A ℕ
whole read bytes = do
  x ← read bytes
  if length x.1 == 0 then Ok x.0 else Err (length x.1)
