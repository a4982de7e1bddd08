-- What stands in the file of a side.
--
-- | at     | bytes | what                                                                      |
-- |--------|-------|---------------------------------------------------------------------------|
-- | 0      | 1     | the gate of the side: 1 where it is open                                   |
-- | 1      | 8     | the magic word, which says the form of all that follows                    |
-- | 9      | 8     | the generation, from 1 on, the lowest byte first                           |
-- | 17     | 8     | n, the length of the body, the lowest byte first                           |
-- | 25     | n     | the body: the state that the side was made with                            |
-- | 25 + n |       | the log of the groups that were committed since, from its first gate on    |
use Rattle.std.specs.Prelude.{◌≡◌, ℕ, ◌+◌, ◌<◌, ◌≤◌, List, [], ◌∷◌, ◌++◌, length, take, drop, get_or}
use Rattle.std.specs.Int.{from_le_bytes}
use Rattle.std.specs.Int.Width.{w64}
use Rattle.fw_bytes.specs.Spelling.{number64}
use Rattle.fw_entry_bytes.specs.declared.form.Form.{Form}
use Rattle.fw_entry_bytes.specs.declared.form.Form.TheVariants.{One, Two}

-- the magic word of a form: FWHOUSE1 or FWHOUSE2
abbrev pub magic : Form → List ℕ
magic One = 70 ∷ 87 ∷ 72 ∷ 79 ∷ 85 ∷ 83 ∷ 69 ∷ 49 ∷ []
magic Two = 70 ∷ 87 ∷ 72 ∷ 79 ∷ 85 ∷ 83 ∷ 69 ∷ 50 ∷ []

-- a side from its second byte on, up to its log
unfoldable pub made_of : Form → ℕ → List ℕ → List ℕ
made_of form generation body = magic form ++ (number64 generation ++ (number64 (length body) ++ body))

-- the fields of a header, as they are read
unfoldable pub generation_of : List ℕ → ℕ
generation_of file = from_le_bytes w64 (take 8 (drop 9 file))

unfoldable pub body_len_of : List ℕ → ℕ
body_len_of file = from_le_bytes w64 (take 8 (drop 17 file))

abbrev pub body_of : List ℕ → List ℕ
body_of file = take (body_len_of file) (drop 25 file)

-- where the log begins
abbrev pub log_start_of : List ℕ → ℕ
log_start_of file = 25 + body_len_of file

abbrev pub HasMagic : Form → List ℕ → Type 0
HasMagic form file = take 8 (drop 1 file) ≡ magic form

-- an open side counts: it has a header and one byte more, and its gate is open
pub record IsOpen (file : List ℕ) : Type 0 where
  pub long : 26 ≤ length file
  pub gate : get_or file 0 0 ≡ 1

-- what each open side has, whether it is the newer one or the older: a magic word, a generation, and the first gate of its log
-- within its end
pub record IsSound (file : List ℕ) : Type 0 where
  pub form : Form
  pub magic_is : HasMagic form file
  pub generation : 0 < generation_of file
  pub gate_within : log_start_of file < length file
