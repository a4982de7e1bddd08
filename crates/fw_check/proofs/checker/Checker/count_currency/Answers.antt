use Rattle.std.proofs.Common.{◌≡◌, ◌∙◌, ◌<◌, ap, sym, subst, arith, ℕ, List}
use Rattle.std.proofs.lemmas.List.Elements.{All-weaker}
use Rattle.std.proofs.lemmas.Str.{IsUtf8-from_ascii}
use Rattle.std.proofs.lemmas.Str.Ascii.{IsAscii-from_all}
use Rattle.std.specs.Char.{IsAsciiUppercase}
use Rattle.std.specs.Str.{IsUtf8, bytes_eq}
use Rattle.fw_charge.specs.Currencies.{IsCode}
use Rattle.fw_check.specs.Checks.{CheckValue, checked}
use Rattle.fw_check.specs.Counts.{counted, text_counts}
use Rattle.fw_check.proofs.checker.Checker.count_currency.Goals as goal

upper_is_ascii : (b : ℕ) → IsAsciiUppercase b → b < 128
upper_is_ascii b h = omega arith

-- three capital letters of ASCII are UTF-8
code_is_utf8 : (code : List ℕ) → IsCode code → IsUtf8 code
code_is_utf8 code valid = IsUtf8-from_ascii code (IsAscii-from_all code (All-weaker IsAsciiUppercase (λ b. b < 128) upper_is_ascii code valid.1))

pub returns-in_default : goal.returns-in_default
returns-in_default c = absurd (c.in_default.ensures.cases.0 (subst IsUtf8 (sym c.code.ensures.letters) (code_is_utf8 c.args.self.now.currency c.code.ensures.valid)))

pub returns-clause-counts : goal.returns-clause-counts
returns-clause-counts c =
    let old : CheckValue = checked c.args.self.now in
    let entries = c.args.self.now.statistics.currencies.entries in
    let text : c.in-Ok.text.now ≡ c.args.self.now.currency = c.in-Ok.ensures.cases.0 ∙ c.code.ensures.letters in
    let counts : text_counts c.count_text.new.counts.entries ≡ counted bytes_eq c.args.self.now.currency c.args.count (text_counts entries) =
    c.in_ok-count_text.ensures ∙ ap (λ t. counted bytes_eq t c.args.count (text_counts entries)) text in
    λ j. record {
      currency = old.currency;
      line_end = old.line_end;
      records = old.records;
      lines = old.lines;
      bad_records = old.bad_records;
      faults = old.faults;
      findings = old.findings;
      seen = record {
        rows = old.seen.rows;
        billed = old.seen.billed;
        effective = old.seen.effective;
        categories = old.seen.categories;
        hours = old.seen.hours;
        currencies = counts j;
        tags = old.seen.tags;
        kept_columns = old.seen.kept_columns;
      };
    }
