-- The texts of fields that are in their ranges are UTF-8.
use Rattle.std.proofs.Common.{ℕ, List, Option, Some, None}
use Rattle.std.specs.List.{All}
use Rattle.std.specs.Option.{IfSome}
use Rattle.std.specs.Str.{IsUtf8}
use Rattle.std.proofs.lemmas.List.Elements.{All-weaker}
use Rattle.fw_bytes.specs.Spelling.{FitsOptional}
use Rattle.fw_charge.specs.Tags.{TagText, most_tags}
use Rattle.fw_charge.specs.Spelling.{FitsShortText, FitsTag, FitsTags}
use Rattle.fw_terms.specs.Spelling.{IsTagUtf8}
use Rattle.fw_terms.proofs.Ranges.{count_from_list, text_utf8}

pub account_utf8 : (o : Option (List ℕ)) → FitsOptional FitsShortText o → IfSome o IsUtf8
account_utf8 None h = tt
account_utf8 (Some x) h = text_utf8 x h.0

tag_utf8 : (t : TagText) → FitsTag t → IsTagUtf8 t
tag_utf8 t h = record { key = text_utf8 t.key h.0.0; value = text_utf8 t.value h.1.0 }

pub tags_utf8 : (ts : List TagText) → FitsTags ts → All IsTagUtf8 ts
tags_utf8 ts h = All-weaker FitsTag IsTagUtf8 tag_utf8 ts (count_from_list 0 most_tags FitsTag ts h).each
