-- What the header of a side says.
use Rattle.std.specs.Prelude.{◌≡◌, ℕ, List, ◌∷◌, ◌++◌, length, take, Option, Some, None}
use Rattle.fw_bytes.specs.Spelling.{number64}
use Rattle.fw_entry_bytes.specs.declared.form.Form.{Form}
use Rattle.fw_recover.specs.declared.header.Header.{Header}
use Rattle.fw_recover.specs.Sides.{magic, generation_of, body_len_of, HasMagic, IsOpen, IsSound}

-- a side that is open and sound, of this form and with these fields, which are spelled in its first bytes
pub record HasHeader (form : Form) (generation body_len : ℕ) (file : List ℕ) : Type 0 where
  pub is_open : IsOpen file
  pub sound : IsSound file
  pub magic_is : HasMagic form file
  pub generation_is : generation_of file ≡ generation
  pub body_len_is : body_len_of file ≡ body_len
  pub spelled : take 25 file ≡ 1 ∷ (magic form ++ (number64 generation ++ number64 body_len))

-- the header of a side, and none where it isn't open
abbrev pub IsHeader : Option Header → List ℕ → Type 0
IsHeader None file = IsOpen file → ⊥
IsHeader (Some header) file = HasHeader header.form header.generation header.body_len file

-- a file of so many bytes, of which these are the first 25
pub record BeginsWith (front : List ℕ) (len : ℕ) (file : List ℕ) : Type 0 where
  pub size : length file ≡ len
  pub is : front ≡ take 25 file
