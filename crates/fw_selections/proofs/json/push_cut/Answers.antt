use Rattle.std.proofs.Common.{◌∙◌, ◌++◌, ◌∷◌, [], ap, map, refl}
use Rattle.std.specs.Prelude.{codes, string_bytes}
use Rattle.serde_json.specs.Data.{string}
use Rattle.serde_json.specs.Written.{compact_text}
use Rattle.fw_selections.specs.JsonMembers.{listed}
use Rattle.fw_selections.specs.JsonText.{array_of, step_word}
use Rattle.fw_selections.proofs.JsonWritten.{cut_written}
use Rattle.fw_selections.proofs.json.push_cut.Goals as goal

pub returns : goal.returns
returns c =
    let step = c.args.step in
    let old = string_bytes c.args.text.now in
    let word = c.word_of.result.now in
    let parts = c.in_ok-push_parts.ensures in
    record {
      members = (codes "by", string (step_word step)) ∷ ((codes "periods", array_of parts.objects) ∷ []);
      are_periods = (parts.objects, parts.each, refl);
      wrote = c.in_ok-push_str-4.ensures.bytes
          ∙ ap (λ t. t ++ 93 ∷ []) (parts.wrote
          ∙ ap (λ t. t ++ listed (map compact_text parts.objects)) (c.in_ok-push_str-3.ensures.bytes
          ∙ ap (λ t. t ++ codes "\",\"periods\":[") (c.in_ok-push_str-2.ensures.bytes ∙ ap (λ t. t ++ word) c.in_ok-push_str.ensures.bytes)))
          ∙ cut_written old word step parts.objects c.word_of.ensures;
    }
