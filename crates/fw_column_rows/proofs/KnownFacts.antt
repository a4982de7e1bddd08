-- Facts on the tags that are known of texts.
use Rattle.std.proofs.Common.{◌≡◌, ◌≢◌, ℕ, zero, suc, ◌<◌, ◌++◌, Bool, true, false, List, [], ◌∷◌, length, get_or, set, Option, Some, None, Ok, refl, sym, subst, ◌∙◌, arith, length-append, ⊎_elim, Bor}
use Rattle.std.specs.Prelude.{IfSome}
use Rattle.std.specs.Option.{option_copied}
use Rattle.std.specs.List.{list_any}
use Rattle.std.specs.Str.{bytes_eq}
use Rattle.std.proofs.lemmas.Bool.{cases_eq}
use Rattle.std.proofs.lemmas.Option.{none-some}
use Rattle.std.proofs.lemmas.List.{get_or_append_left, get_or-set_same, get_or-set_other}
use Rattle.fw_charge.specs.Tags.{TagText}
use Rattle.fw_row_table.specs.Names.{Text, with_text}
use Rattle.fw_rows.specs.Parts.{TagsAnswer}
use Rattle.fw_column_rows.specs.Known.{AreStated}

abbrev Known : Type 0
Known = List (Option (List TagText))

pub nothing_known : AreStated [] []
nothing_known = record { each = λ code tags is. absurd (none-some tags is) }

-- what is known of texts stays while more texts come
pub more_texts : (texts : List Text) (t : Text) (known : Known) → AreStated texts known → AreStated (with_text texts t) known
unfolding with_text
more_texts texts t known are = by (list_any (bytes_eq t) texts) refl
  where
    by : (b : Bool) → list_any (bytes_eq t) texts ≡ b → AreStated (with_text texts t) known
    by true e = rw e are
    by false e = rw e (record {
      each = λ code tags is.
          let was = are.each code tags is in
          (omega (arith, was.0, length-append texts (t ∷ [])), rw (get_or_append_left texts (t ∷ []) [] code was.0) was.1);
    })

none_more : (known : Known) (code : ℕ) → get_or (known ++ None ∷ []) code None ≡ get_or known code None
none_more [] zero = refl
none_more [] (suc code) = refl
none_more (x ∷ xs) zero = refl
none_more (x ∷ xs) (suc code) = none_more xs code

-- a text of which nothing is known
pub one_unknown : (texts : List Text) (known : Known) → AreStated texts known → AreStated texts (known ++ None ∷ [])
one_unknown texts known are = record { each = λ code tags is. are.each code tags (sym (none_more known code) ∙ is) }

-- tags that are noted
pub one_noted : (texts : List Text) (known : Known) (code : ℕ) (tags : List TagText) → AreStated texts known → code < length texts → code < length known
    → TagsAnswer (get_or texts code []) (Ok tags) → AreStated texts (set known code (Some tags))
one_noted texts known code tags are within there stated = record {
  each = λ k found is. ⊎_elim
      (λ (same : k ≡ code).
      let here : get_or (set known code (Some tags)) k None ≡ Some tags = rw same (get_or-set_same known code (Some tags) None there) in
      let both : Some tags ≡ Some found = sym here ∙ is in
      let one : tags ≡ found = cc in
      (omega (arith, same, within), rw same (subst (λ ts. TagsAnswer (get_or texts code []) (Ok ts)) one stated)))
      (λ (other : k ≢ code). are.each k found (sym (get_or-set_other known code k (Some tags) None other) ∙ is))
      (cases_eq k code);
}

-- tags that are found are stated
pub found_stated : (texts : List Text) (known : Known) (code : ℕ) (found : Option (List TagText)) (tags : Option (Bor (List TagText))) → AreStated texts known → get_or known code None ≡ found
    → option_copied tags ≡ found → IfSome tags (λ ts. TagsAnswer (get_or texts code []) (Ok ts.now))
found_stated texts known code found None are at is = tt
found_stated texts known code found (Some ts) are at is = (are.each code ts.now (at ∙ sym is)).1
