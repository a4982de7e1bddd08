-- The tags that were read of the first members of an object.
use Rattle.std.proofs.Common.{◌≡◌, List, [], ◌∷◌, ◌++◌, Option, Some, None, option_map, String, Global, string_bytes, map, ℕ, refl, sym, subst, ap, ◌∙◌, append_assoc}
use Rattle.std.proofs.lemmas.List.{append-nil, map-append}
use Rattle.std.specs.Cmp.Lexicographic.{slice_cmp}
use Rattle.std.specs.List.{AllByRecursion}
use Rattle.std.specs.List.Sorted.{IsStrictlySortedBy}
use Rattle.std.specs.Map.{keys_of}
use Rattle.std.specs.Ordering.{nat_cmp}
use Rattle.std.specs.String.{string_cmp}
use Rattle.std.specs.declared.cmp.Ordering.TheVariants.{Less}
use Rattle.serde_json.proofs.Views.{Entry}
use Rattle.serde_json.specs.View.{members_view, view}
use Rattle.fw_charge.specs.Tags.{TagText}
use Rattle.fw_tags.specs.Reading.{tag_text, tags_of}

abbrev pub names_of : List Entry → List (List ℕ)
names_of es = map (λ e. string_bytes e.0) es

-- the tags are those of the members before rest
pub record ReadTo (all rest : List Entry) (tags : List TagText) : Type 0 where
  pub value : tags_of (members_view all) ≡ option_map (λ more. tags ++ more) (tags_of (members_view rest))
  pub keys : names_of all ≡ map (λ t. t.key) tags ++ names_of rest

same : (o : Option (List TagText)) → o ≡ option_map (λ more. more) o
same None = refl
same (Some tags) = refl

pub read_none : (es : List Entry) → ReadTo es es []
read_none es = record { value = same (tags_of (members_view es)); keys = refl }

joined : (tags : List TagText) (t : TagText) (o : Option (List TagText)) → option_map (λ more. tags ++ more) (option_map (λ more. t ∷ more) o) ≡ option_map (λ more. (tags ++ t ∷ []) ++ more) o
joined tags t None = refl
joined tags t (Some more) = ap Some (sym (append_assoc tags (t ∷ []) more))

pub read_more : (all rest : List Entry) (tags : List TagText) (e : Entry) (v : List ℕ) → ReadTo all (e ∷ rest) tags → tag_text (view e.1) ≡ Some v
    → ReadTo all rest (tags ++ record { key = string_bytes e.0; value = v } ∷ [])
read_more all rest tags e v r is =
    let t : TagText = record { key = string_bytes e.0; value = v } in
    record {
      value = rw is at r.value ∙ joined tags t (tags_of (members_view rest));
      keys = r.keys ∙ sym (rw (map-append (λ (x : TagText). x.key) tags (t ∷ [])) (append_assoc (map (λ (x : TagText). x.key) tags) (string_bytes e.0 ∷ []) (names_of rest)));
    }

pub read_refused : (all rest : List Entry) (tags : List TagText) (e : Entry) → ReadTo all (e ∷ rest) tags → tag_text (view e.1) ≡ None → tags_of (members_view all) ≡ None
read_refused all rest tags e r is = rw is at r.value

pub read_whole : (all : List Entry) (tags : List TagText) → ReadTo all [] tags → Some tags ≡ tags_of (members_view all)
read_whole all tags r = sym (r.value ∙ ap Some (append-nil tags))

below_names : (k : String Global) (es : List Entry) → AllByRecursion (λ y. string_cmp k y ≡ Less) (keys_of es) → AllByRecursion (λ y. slice_cmp nat_cmp (string_bytes k) y ≡ Less) (names_of es)
below_names k [] h = h
below_names k (e ∷ es) h = (h.0, below_names k es h.1)

names_rise : (es : List Entry) → IsStrictlySortedBy string_cmp (keys_of es) → IsStrictlySortedBy (slice_cmp nat_cmp) (names_of es)
unfolding IsStrictlySortedBy
names_rise [] h = h
names_rise (e ∷ es) h = (below_names e.0 es h.0, names_rise es h.1)

-- the keys of the tags are in the order of the members
pub read_rises : (all : List Entry) (tags : List TagText) → ReadTo all [] tags → IsStrictlySortedBy string_cmp (keys_of all) → IsStrictlySortedBy (slice_cmp nat_cmp) (map (λ t. t.key) tags)
read_rises all tags r h =
    let is : names_of all ≡ map (λ t. t.key) tags = r.keys ∙ append-nil (map (λ (t : TagText). t.key) tags) in
    subst (λ keys. IsStrictlySortedBy (slice_cmp nat_cmp) keys) is (names_rise all h)
