use Rattle.std.proofs.Common.{◌≡◌, ◌++◌, ℕ, List, IsUtf8, encode_utf8_all, string_bytes, sym, ap, ◌∙◌, subst, append_assoc, append-nil}
use Rattle.std.specs.Str.Iter.{chars_rest}
use Rattle.std.proofs.lemmas.Str.{IsUtf8-past_char}
use Rattle.fw_table.specs.Shown.{shown, shown_text}
use Rattle.fw_table.proofs.ShownFacts.{shown_empty, shown_step}
use Rattle.fw_table.proofs.shown.shown_text.Goals as goal

pub loop-letter-init : goal.loop-letter-init
loop-letter-init c =
    let rest_is : chars_rest c.into_iter-letter-iterator.result ≡ c.args.text.now = ap chars_rest c.into_iter-letter-iterator.ensures.into_iter_gives ∙ c.chars-letter-items.ensures.rest in (
      subst (λ (bs : List ℕ). IsUtf8 bs) (sym rest_is) c.utf8.text,
      ap (λ (bs : List ℕ). bs ++ shown_text (chars_rest c.into_iter-letter-iterator.result)) c.in_ok-shown.ensures.bytes ∙ ap (λ (bs : List ℕ). shown_text bs) rest_is,
    )

pub loop-letter-preserved : goal.loop-letter-preserved
loop-letter-preserved c =
    let held = c.loop-letter.invariant in
    let parts = c.in-Some.ensures.steps.0 in
    let before = string_bytes c.loop-letter.shown in
    let after = shown_text (chars_rest c.next.new.self) in
    let step = shown_step _ _ c.in-Some.letter held.0 parts in (
      IsUtf8-past_char _ _ c.in-Some.letter held.0 parts,
      ap (λ (bs : List ℕ). bs ++ after) c.in_ok-push_shown.ensures ∙ append_assoc before (encode_utf8_all (shown c.in-Some.letter)) after ∙ ap (λ (bs : List ℕ). before ++ bs) (sym step) ∙ held.1,
    )

pub returns : goal.returns
returns c =
    sym (append-nil _) ∙ ap (λ (bs : List ℕ). string_bytes c.loop-letter.shown ++ bs) (sym (shown_empty _ c.in-None.ensures.steps.0.0)) ∙ c.loop-letter.invariant.1
