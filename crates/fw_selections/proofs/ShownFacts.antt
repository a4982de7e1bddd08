-- Lemmas on the rows that are shown.
use Rattle.std.proofs.Common.{◌≡◌, ◌∙◌, ℕ, List, String, Global, ap, map, string_bytes, sym}
use Rattle.std.specs.Cmp.Derive.Mapped.{pointwise-map}
use Rattle.std.specs.Cmp.Lexicographic.{pointwise}
use Rattle.std.specs.Str.{bytes_eq}
use Rattle.std.specs.String.{string_eq}
use Rattle.fw_select.specs.Groups.{is_same}

-- groups of the same texts are one
pub same_texts : (xs ys : List (String Global)) (g h : List (List ℕ)) → map string_bytes xs ≡ g → map string_bytes ys ≡ h → pointwise string_eq xs ys ≡ is_same g h
same_texts xs ys g h p q = sym (pointwise-map string_bytes bytes_eq xs ys) ∙ ap (λ a. is_same a (map string_bytes ys)) p ∙ ap (is_same g) q
