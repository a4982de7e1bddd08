-- Lemmas on the text of lines, hour by hour.
use Rattle.std.proofs.Common.{◌≡◌, ◌∙◌, ℕ, ◌+◌, ◌-◌, Some, false, List, [], ◌∷◌, ◌++◌, length, map, subst, sym, ap, refl, arith, append-nil, append_assoc, Vec}
use Rattle.std.specs.declared.alloc.Global.{Global}
use Rattle.std.specs.List.{concat, range_with_len}
use Rattle.std.specs.Io.KnownBytes.{Keeps}
use Rattle.csv.specs.Writing.{text_written}
use Rattle.std.proofs.lemmas.Grind.{flat_map-append}
use Rattle.std.proofs.lemmas.List.{map-append}
use Rattle.std.proofs.lemmas.List.Folds.{concat-append}
use Rattle.csv.specs.declared.writer.Writer.{Writer}
use Rattle.fw_charge.specs.Charge.{Charge}
use Rattle.fw_amortise.specs.Lines.{AreHourLines, given_lines, rest_lines, rows_in}
use Rattle.fw_terms.specs.Commitment.{CommitmentValue}
use Rattle.fw_amortise.specs.LineValue.{LineValue}
use Rattle.fw_sums.specs.Hours.{is_touched}
use Rattle.fw_query.specs.Listing.{IsListing, WritesHour, WritesHours, records}
use Rattle.fw_sums.specs.RangeLines.{joined}
use Rattle.fw_query.specs.Texts.{line_fields, line_header, lines_text, record_line}
use Rattle.fw_query.specs.Writers.{HasWritten}
use Rattle.fw_sums.proofs.RangeFacts.{hourly-more, hourly_zip}
use Rattle.fw_query.proofs.WriterFacts.{given_back}
use Rattle.fw_sums.proofs.UntouchedFacts.{are_plain, plain_lines}

-- no rows bring no lines where no commitment has one
no_plain : (hour : ℕ) → plain_lines [] hour ≡ []
unfolding given_lines rest_lines
no_plain hour = refl

-- an hour without rows in which no commitment has a line has none
pub no_lines : (writer : Writer (Vec ℕ Global)) (text : List ℕ) (cs : List CommitmentValue) (rows : List Charge) (hour : ℕ) → rows ≡ [] → is_touched cs hour ≡ false
    → HasWritten writer text → WritesHour writer text cs rows hour
no_lines writer text cs rows hour none untouched has =
    let plain : plain_lines rows hour ≡ [] = ap (λ r. plain_lines r hour) none ∙ no_plain hour in
    record { lines = []; are_lines = subst (AreHourLines cs rows hour) plain (are_plain cs rows hour untouched); wrote = subst (HasWritten writer) (sym (append-nil text)) has }

-- the records of lines after those of others
pub records-append : (xs ys : List LineValue) → records (xs ++ ys) ≡ records xs ++ records ys
records-append xs ys =
    ap (λ l. concat (map record_line l)) (map-append line_fields xs ys)
    ∙ ap concat (map-append record_line (map line_fields xs) (map line_fields ys))
    ∙ concat-append (map record_line (map line_fields xs)) (map record_line (map line_fields ys))

-- one more hour is written
pub WritesHours-more : (old new : Writer (Vec ℕ Global)) (text : List ℕ) (cs : List CommitmentValue) (by_hour : List (List Charge)) (rows : List Charge) (from hour : ℕ)
    → (before : WritesHours old text cs by_hour from) → hour ≡ from + length by_hour
    → WritesHour new (text ++ records (joined before.hourly)) cs rows hour → WritesHours new text cs (by_hour ++ rows ∷ []) from
WritesHours-more old new text cs by_hour rows from hour before at more =
    let all : joined (before.hourly ++ more.lines ∷ []) ≡ joined before.hourly ++ more.lines =
    flat_map-append (λ lines. lines) before.hourly (more.lines ∷ []) ∙ ap (λ l. joined before.hourly ++ l) (append-nil more.lines) in
    let written : (text ++ records (joined before.hourly)) ++ records more.lines ≡ text ++ records (joined (before.hourly ++ more.lines ∷ [])) =
    append_assoc text (records (joined before.hourly)) (records more.lines)
    ∙ ap (λ l. text ++ l) (sym (records-append (joined before.hourly) more.lines) ∙ ap records (sym all)) in
    record {
      hourly = before.hourly ++ more.lines ∷ [];
      are_hourly = hourly-more cs from by_hour before.hourly rows more.lines before.are_hourly (rw at at more.are_lines);
      wrote = rw (← written) more.wrote;
    }

-- the text that the writer gives back
pub listing_of : (writer : Writer (Vec ℕ Global)) (v : Vec ℕ Global) (cs : List CommitmentValue) (rows : List Charge) (by_hour : List (List Charge)) (from hours : ℕ)
    → WritesHours writer (record_line line_header) cs by_hour from → by_hour ≡ map (λ h. rows_in h rows) (range_with_len from hours)
    → Keeps (text_written (λ (w : Vec ℕ Global). Some w.items) writer) (Some v.items) → IsListing cs rows from hours v.items
unfolding lines_text
listing_of writer v cs rows by_hour from hours done each keeps =
    let back : hours ≡ (from + hours) - from = omega arith in
    record {
      lines = joined done.hourly;
      are_lines = record { hourly = done.hourly; are_hourly = rw (← back) (hourly_zip cs rows hours from done.hourly (rw each at done.are_hourly)); lines_are = refl };
      text_is = given_back writer v _ done.wrote keeps;
    }
