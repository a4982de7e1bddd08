-- The words of a line, which single spaces part.
use Rattle.std.specs.Prelude.{◌≡◌, ◌^◌, ◌≤◌, ◌<◌, ℕ, List, length}
use Rattle.std.specs.Str.Parse.{AllDigits, digits_value}

abbrev pub space : ℕ
space = 32

-- the most lines that one command may take from those that follow it
abbrev pub most_lines : ℕ
most_lines = 1000000

-- the word is this number: one decimal digit or more and nothing else, where zeros may stand first
pub record IsDecimal (word : List ℕ) (number : ℕ) : Type 0 where
  pub some_digit : 0 < length word
  pub digits : AllDigits 10 word
  pub value : digits_value 10 word ≡ number

-- the word is a number of lines, at most a million
pub record IsLineCount (word : List ℕ) (count : ℕ) : Type 0 where
  pub decimal : IsDecimal word count
  pub within : count ≤ most_lines

-- the word is a sequence number: a whole number from 1 to 2 ^ 64 - 1
pub record IsSequence (word : List ℕ) (number : ℕ) : Type 0 where
  pub decimal : IsDecimal word number
  pub positive : 1 ≤ number
  pub within : number < 2 ^ 64
