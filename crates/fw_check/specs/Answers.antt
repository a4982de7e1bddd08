-- What is said of a text that was checked.
use Rattle.std.specs.Prelude.{◌≡◌, ◌==◌, ℕ, List, [], ◌∷◌, ◌++◌, length, codes, if◌then◌else◌}
use Rattle.std.specs.Fmt.{decimal}
use Rattle.fw_money.specs.Writing.{text_of}
use Rattle.fw_check.specs.declared.checker.Checker.{Checker}
use Rattle.fw_check.specs.declared.statistics.Statistics.{Statistics}

abbrev pub line_end : List ℕ
line_end = 10 ∷ []

-- what a word ends with where it stands behind a count
unfoldable pub plural : ℕ → List ℕ
plural count = if count == 1 then [] else codes "s"

-- a count and what is counted, as `5 records`
abbrev pub counted_text : ℕ → List ℕ → List ℕ
counted_text count word = decimal count ++ (codes " " ++ (word ++ plural count))

-- `; 2 repeated headers skipped`; nothing where there is none
unfoldable pub repeated_text : ℕ → List ℕ
repeated_text count = if count == 0 then [] else codes "; " ++ (counted_text count (codes "repeated header") ++ codes " skipped")

-- `FILE: 5 records, 3 of them with faults; 5 faults`, and what was skipped
abbrev pub summary_text : List ℕ → Checker → List ℕ
summary_text name c =
    name ++ (codes ": " ++ (counted_text c.records (codes "record") ++ (codes ", " ++ (decimal c.bad_records ++ (codes " of them with faults; "
    ++ (counted_text c.faults (codes "fault") ++ (repeated_text c.repeated ++ line_end)))))))

-- how many rows there are, in how many hours, and their costs
abbrev pub sums_text : Statistics → List ℕ
sums_text s =
    (line_end ++ codes "rows ") ++ (decimal s.rows ++ ((line_end ++ codes "hours ") ++ (decimal (length s.hours.entries)
    ++ ((line_end ++ codes "billed ") ++ (text_of s.billed ++ ((line_end ++ codes "effective ") ++ (text_of s.effective ++ line_end)))))))

-- The answer for people: the summary, the findings, the sums, the counts, and the rows that stand twice. Where there is no finding, nothing stands for
-- them, and so it is with these rows
pub record IsAnswer (name : List ℕ) (c : Checker) (text : List ℕ) : Type 0 where
  pub findings : List ℕ
  pub counts : List ℕ
  pub repeats : List ℕ
  pub text_is : text ≡ summary_text name c ++ (findings ++ (sums_text c.statistics ++ (counts ++ repeats)))
  pub none : c.findings.items ≡ [] → findings ≡ []
  pub none_twice : c.repeats.count ≡ 0 → repeats ≡ []

-- a key of a JSON object
abbrev pub key : List ℕ → List ℕ
key name = 34 ∷ (name ++ (34 ∷ 58 ∷ []))

-- a further key
abbrev pub member : List ℕ → List ℕ
member name = 44 ∷ key name

-- how many times the header stood again; nothing where it didn't
unfoldable pub json_repeated : ℕ → List ℕ
json_repeated count = if count == 0 then [] else member (codes "repeatedHeaders") ++ decimal count

-- the name of the file, as a JSON string, and the counts
abbrev pub json_head : List ℕ → Checker → List ℕ
json_head file c =
    (123 ∷ key (codes "file")) ++ (file ++ (member (codes "records") ++ (decimal c.records ++ (member (codes "badRecords") ++ (decimal c.bad_records
    ++ (member (codes "faults") ++ (decimal c.faults ++ (json_repeated c.repeated ++ (member (codes "findings") ++ 91 ∷ [])))))))))

-- The answer as JSON: the name of the file and the counts, the findings, and the statistics. Where there is no finding, nothing stands between the brackets
pub record IsJsonAnswer (c : Checker) (text : List ℕ) : Type 0 where
  pub file : List ℕ
  pub findings : List ℕ
  pub statistics : List ℕ
  pub text_is : text ≡ json_head file c ++ (findings ++ (codes "]," ++ (statistics ++ (codes "}" ++ line_end))))
  pub none : c.findings.items ≡ [] → findings ≡ []
