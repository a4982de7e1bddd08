-- What is read of each field is spelled so, and what is spelled so is read.
use Rattle.std.proofs.Common.{◌≡◌, ℕ, zero, suc, ◌^◌, List, [], ◌∷◌, Option, Some, None, Ok, ◌≤◌, arith, refl, option_map}
use Rattle.std.specs.Int.{w32, w64}
use Rattle.std.proofs.lemmas.Bool.{le-ltb}
use Rattle.fw_bytes.specs.Spelling.{number64, text, Always}
use Rattle.fw_bytes.specs.Reading.{number_at, times, list_at, code_at}
use Rattle.fw_bytes.proofs.Laws.{IsBytes, IsFormat, checked_format, seen_format, both_format, list_format, number_format, wide64, signed_format, text_format, code_format}
use Rattle.fw_charge.specs.Tags.{TagText, most_tags}
use Rattle.fw_charge.specs.Codes.{kind_code, kind_of, status_code, status_of}
use Rattle.fw_charge.proofs.CodeFacts.{kind_back, kind_there, status_back, status_there}
use Rattle.fw_charge.specs.Spelling.{nanos, tag, tags, is_nanos, FitsNanos, is_second, FitsSecond, is_short, FitsShortText, is_tag_text, FitsTagText, FitsTag, FitsTags}
use Rattle.fw_fields.specs.Reading.{null_or, nanos_at, second_at, short_text_at, tag_text_at, tag_from, tag_at, tags_at}

pub nanos_format : IsFormat nanos_at nanos FitsNanos
unfolding nanos_at
nanos_format = checked_format is_nanos signed_format

pub second_format : IsFormat second_at number64 FitsSecond
unfolding second_at
second_format = checked_format is_second (number_format w64 (2 ^ 64) wide64)

pub short_text_format : IsFormat short_text_at text FitsShortText
unfolding short_text_at
short_text_format = checked_format is_short text_format

pub tag_text_format : IsFormat tag_text_at text FitsTagText
unfolding tag_text_at
tag_text_format = checked_format is_tag_text text_format

abbrev tag_to : TagText → List ℕ × List ℕ
tag_to t = (t.key, t.value)

pub tag_format : IsFormat tag_at tag FitsTag
unfolding tag_at
tag_format = seen_format tag_from tag_to (λ x h. refl) (λ t h. refl) (both_format tag_text_format tag_text_format)

pub tags_format : IsFormat tags_at tags FitsTags
unfolding tags_at
tags_format = list_format 0 most_tags tag_format

-- tags that were read one after the other are within their limits
pub tags_kept : (bytes rest : List ℕ) (count : ℕ) (x : List TagText × List ℕ) → IsBytes bytes → number_at w32 bytes ≡ Ok (count, rest) → count ≤ most_tags → times tag_at count rest ≡ Ok x → FitsTags x.0
unfolding tags_at list_at
tags_kept bytes rest count x is e le read =
    let whole : tags_at bytes ≡ Ok x = rw (e, le-ltb count 0 (omega arith), le-ltb most_tags count le) read in
    (tags_format.takes bytes x is whole).1

-- ---- codes that may be null

null_from : {A : Type 0} (o : Option A) (code : Option A → ℕ) (b : ℕ) (x : Option A) → ((y : A) → o ≡ Some y → code (Some y) ≡ b) → option_map (λ y. Some y) o ≡ Some x → code x ≡ b
null_from None code b x back e = absurd cc
null_from (Some y) code b x back e = let same = back y refl in cc

-- what a code stands for has that code, null too
pub null_back : {A : Type 0} (meaning : ℕ → Option A) (code : Option A → ℕ) → code None ≡ 0 → ((b : ℕ) (y : A) → meaning b ≡ Some y → code (Some y) ≡ b)
    → (b : ℕ) (x : Option A) → null_or meaning b ≡ Some x → code x ≡ b
null_back meaning code null back zero x e = cc
null_back meaning code null back (suc b) x e = null_from (meaning (suc b)) code (suc b) x (back (suc b)) e

null_some : {A : Type 0} (meaning : ℕ → Option A) (b : ℕ) (y : A) → meaning zero ≡ None → meaning b ≡ Some y → null_or meaning b ≡ Some (Some y)
null_some meaning zero y nothing is = absurd cc
null_some meaning (suc b) y nothing is = rw is refl

pub null_there : {A : Type 0} (meaning : ℕ → Option A) (code : Option A → ℕ) → code None ≡ 0 → meaning zero ≡ None → ((y : A) → meaning (code (Some y)) ≡ Some y)
    → (x : Option A) → null_or meaning (code x) ≡ Some x
null_there meaning code null nothing there None = rw null refl
null_there meaning code null nothing there (Some y) = null_some meaning (code (Some y)) y nothing (there y)

pub kind_format : IsFormat (code_at (null_or kind_of)) (λ x. kind_code x ∷ []) Always
unfolding kind_code
kind_format = code_format (null_or kind_of) kind_code (null_back kind_of kind_code refl kind_back) (null_there kind_of kind_code refl refl kind_there)

pub status_format : IsFormat (code_at (null_or status_of)) (λ x. status_code x ∷ []) Always
unfolding status_code
status_format = code_format (null_or status_of) status_code (null_back status_of status_code refl status_back) (null_there status_of status_code refl refl status_there)
