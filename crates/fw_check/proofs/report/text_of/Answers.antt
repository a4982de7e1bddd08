use Rattle.std.proofs.Common.{◌≡◌, ◌∙◌, ◌++◌, ℕ, List, string_bytes}
use Rattle.fw_check.specs.Answers.{summary_text, sums_text}
use Rattle.fw_check.proofs.AnswerFacts.{regroup_5}
use Rattle.fw_check.proofs.report.text_of.Goals as goal

pub returns : goal.returns
returns c =
    let a : List ℕ = summary_text c.args.name.now c.args.checker.now in
    let b : List ℕ = string_bytes c.in_ok-findings.findings in
    let s : List ℕ = sums_text c.args.checker.now.statistics in
    let d : List ℕ = string_bytes c.in_ok-counts.counts in
    let sums : c.as_str-2.result.now ≡ s = c.as_str-2.ensures.value ∙ c.in_ok-sums.ensures in
    let first : string_bytes c.push_str.new.self ≡ a ++ b = c.in_ok-push_str.ensures.bytes ∙ λ j. c.in_ok-text.ensures j ++ c.as_str.ensures.value j in
    let second : string_bytes c.push_str-2.new.self ≡ (a ++ b) ++ s = c.in_ok-push_str-2.ensures.bytes ∙ λ j. first j ++ sums j in
    let third : string_bytes c.push_str-3.new.self ≡ ((a ++ b) ++ s) ++ d = c.in_ok-push_str-3.ensures.bytes ∙ λ j. second j ++ c.as_str-3.ensures.value j in
    let r : List ℕ = string_bytes c.in_ok-repeats.repeats in
    let fourth : string_bytes c.push_str-4.new.self ≡ (((a ++ b) ++ s) ++ d) ++ r = c.in_ok-push_str-4.ensures.bytes ∙ λ j. third j ++ c.as_str-4.ensures.value j in
    record { findings = b; counts = d; repeats = r; text_is = fourth ∙ regroup_5 a b s d r; none = λ e. c.in_ok-findings.ensures (c.as_slice.ensures.value ∙ e); none_twice = c.in_ok-repeats.ensures }
