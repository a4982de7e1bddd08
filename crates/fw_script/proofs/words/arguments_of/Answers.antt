use Rattle.std.proofs.Common.{[], ◌∷◌, None, Some}
use Rattle.std.proofs.lemmas.Slice.Eq.{strip_prefix_is}
use Rattle.std.proofs.lemmas.Bool.Decides.{Decides-eqb}
use Rattle.fw_script.specs.Words.{space}
use Rattle.fw_script.proofs.WordsLaws.{prefix_twice}
use Rattle.fw_script.proofs.words.arguments_of.Goals as goal

pub returns-in_err-strip_prefix : goal.returns-in_err-strip_prefix
returns-in_err-strip_prefix c =
    rw c.from_residual.ensures (λ rest. strip_prefix_is Decides-eqb c.args.line.now c.args.word.now None c.in_err-strip_prefix.ensures.cases (space ∷ rest))

pub returns : goal.returns
returns c =
    let first = c.in_ok-strip_prefix.field-0 in
    let after = strip_prefix_is Decides-eqb c.args.line.now c.args.word.now (Some first) c.in_ok-strip_prefix.ensures.cases in
    let second = rw c.as_slice.ensures at c.strip_prefix-2.ensures.cases in
    prefix_twice c.args.line.now c.args.word.now first.now space c.strip_prefix-2.result after (strip_prefix_is Decides-eqb first.now (space ∷ []) c.strip_prefix-2.result second)
