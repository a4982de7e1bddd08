use Rattle.std.proofs.Common.{◌≡◌, ◌∙◌, ◌++◌, ℕ, List, ap, string_bytes}
use Rattle.std.specs.Prelude.{codes}
use Rattle.fw_check.specs.Answers.{json_head, line_end}
use Rattle.fw_check.proofs.AnswerFacts.{regroup_5}
use Rattle.fw_check.proofs.report.as_json.Goals as goal

pub returns : goal.returns
returns c =
    let file : List ℕ = c.as_str.result.now in
    let a : List ℕ = json_head file c.args.checker.now in
    let b : List ℕ = string_bytes c.in_ok-findings.findings in
    let close : List ℕ = codes "]," in
    let d : List ℕ = c.as_str-3.result.now in
    let end : List ℕ = codes "}" ++ line_end in
    let first : string_bytes c.push_str.new.self ≡ a ++ b = c.in_ok-push_str.ensures.bytes ∙ λ j. c.in_ok-text.ensures j ++ c.as_str-2.ensures.value j in
    let second : string_bytes c.push_str-2.new.self ≡ (a ++ b) ++ close = c.in_ok-push_str-2.ensures.bytes ∙ ap (λ (t : List ℕ). t ++ close) first in
    let third : string_bytes c.push_str-3.new.self ≡ ((a ++ b) ++ close) ++ d = c.in_ok-push_str-3.ensures.bytes ∙ ap (λ (t : List ℕ). t ++ d) second in
    let fourth : string_bytes c.push_str-4.new.self ≡ (((a ++ b) ++ close) ++ d) ++ end = c.in_ok-push_str-4.ensures.bytes ∙ ap (λ (t : List ℕ). t ++ end) third in
    record { file = file; findings = b; statistics = d; text_is = fourth ∙ regroup_5 a b close d end; none = λ e. c.in_ok-findings.ensures (c.as_slice.ensures.value ∙ e) }
