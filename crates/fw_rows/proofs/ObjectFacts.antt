-- Each list of tags whose keys rise is stated by a text: the object of JSON with these members.
use Rattle.std.proofs.Common.{◌≡◌, ◌≤◌, ℕ, List, [], ◌∷◌, ◌++◌, map, Option, Some, Ordering, Less, Equal, Greater, option_and_then, refl, sym, ap, subst, ◌∙◌, arith, append-nil}
use Rattle.std.proofs.lemmas.Cmp.{nat_list_cmp_total}
use Rattle.std.proofs.lemmas.List.{append_assoc}
use Rattle.std.specs.Cmp.Lexicographic.{slice_cmp}
use Rattle.std.specs.List.{AllByRecursion}
use Rattle.std.specs.List.Sorted.{IsStrictlySortedBy}
use Rattle.std.specs.Ordering.{nat_cmp, match_ordering, ordering_reverse}
use Rattle.json.specs.Json as tree
use Rattle.json.specs.Lex.{tokens}
use Rattle.json.specs.Print.{print}
use Rattle.json.specs.Tree.{json_tokens, depth, members_depth, MembersHaveNumbers}
use Rattle.json.proofs.Printed.Tokens.{tokens-print}
use Rattle.json.proofs.Printed.Trees.{ArePrintable-json_tokens, value-json_tokens}
use Rattle.serde_json.specs.Data as json
use Rattle.serde_json.specs.Data.{put}
use Rattle.serde_json.specs.Find.{as_object}
use Rattle.serde_json.specs.Read.{max_depth, of_json, of_members, read}
use Rattle.serde_json.proofs.OnLiterals.{serde_json_on_literals}
use Rattle.fw_charge.specs.Tags.{TagText}
use Rattle.fw_tags.specs.Reading.{tags_in, tags_of}
use Rattle.fw_rows.specs.Keeping.{KeysRise}
use Rattle.fw_rows.specs.Kept.{with_tag, with_tags}
use Rattle.fw_rows.specs.Rules.{tags_stated}

-- tags as the members of an object, once it is read
abbrev members_of_tags : List TagText → json.Members
members_of_tags [] = json.no_members
members_of_tags (tag ∷ tags) = json.member tag.key (json.string tag.value) (members_of_tags tags)

-- and as it is spelled
abbrev members_spelled : List TagText → tree.Members
members_spelled [] = tree.no_members
members_spelled (tag ∷ tags) = tree.member tag.key (tree.string tag.value) (members_spelled tags)

members-match : (o : Ordering) (a b c : List TagText) → members_of_tags (match_ordering o a b c) ≡ match_ordering o (members_of_tags a) (members_of_tags b) (members_of_tags c)
members-match Less a b c = refl
members-match Equal a b c = refl
members-match Greater a b c = refl

-- a tag that is put among the members is one tag more
pub put-member : (tag : TagText) (tags : List TagText) → put tag.key (json.string tag.value) (members_of_tags tags) ≡ members_of_tags (with_tag tag tags)
put-member tag [] = refl
put-member tag (t ∷ tags) = sym (members-match (slice_cmp nat_cmp tag.key t.key) _ _ _ ∙ rw (sym (put-member tag tags)) refl)

-- the members state the tags
pub tags-members : (tags : List TagText) → tags_of (members_of_tags tags) ≡ Some tags
tags-members [] = refl
tags-members (t ∷ tags) = rw (tags-members tags) refl

flat : (tags : List TagText) → members_depth (members_spelled tags) ≡ 0
flat [] = refl
flat (t ∷ tags) = rw (flat tags) refl

no_numbers : (tags : List TagText) → MembersHaveNumbers (members_spelled tags)
no_numbers [] = tt
no_numbers (t ∷ tags) = (tt, no_numbers tags)

below : (first : TagText) (done : List TagText) (tag : TagText) (more : List TagText) → AllByRecursion (λ y. slice_cmp nat_cmp first.key y ≡ Less) (map (λ t. t.key) (done ++ tag ∷ more)) → slice_cmp nat_cmp first.key tag.key ≡ Less
below first [] tag more h = h.0
below first (x ∷ done) tag more h = below first done tag more h.1

-- a tag whose key is above the others goes last
goes-last : (done : List TagText) (tag : TagText) (more : List TagText) → IsStrictlySortedBy (slice_cmp nat_cmp) (map (λ t. t.key) (done ++ tag ∷ more)) → with_tag tag done ≡ done ++ tag ∷ []
unfolding IsStrictlySortedBy
goes-last [] tag more h = refl
goes-last (first ∷ done) tag more h =
    let above : slice_cmp nat_cmp tag.key first.key ≡ Greater =
    nat_list_cmp_total.antisymm tag.key first.key ∙ ap ordering_reverse (below first done tag more h.0) in
    rw above (ap (λ rest. first ∷ rest) (goes-last done tag more h.1))

-- tags that rise are what they are put together to
puts-on : (done tags : List TagText) → IsStrictlySortedBy (slice_cmp nat_cmp) (map (λ t. t.key) (done ++ tags)) → with_tags tags done ≡ done ++ tags
puts-on done [] h = sym (append-nil done)
puts-on done (t ∷ tags) h =
    let whole : (done ++ t ∷ []) ++ tags ≡ done ++ t ∷ tags = append_assoc done (t ∷ []) tags in
    ap (with_tags tags) (goes-last done t tags h)
    ∙ (puts-on (done ++ t ∷ []) tags (subst (λ ts. IsStrictlySortedBy (slice_cmp nat_cmp) (map (λ t. t.key) ts)) (sym whole) h) ∙ whole)

puts-whole : (tags : List TagText) → IsStrictlySortedBy (slice_cmp nat_cmp) (map (λ t. t.key) tags) → with_tags tags [] ≡ tags
puts-whole tags h = puts-on [] tags h

-- a text that reads as an object of tags states them
states : (o : Option json.Data) (tags : List TagText) → o ≡ Some (json.object (members_of_tags tags)) → option_and_then tags_of (option_and_then as_object o) ≡ Some tags
states o tags is = rw is (tags-members tags)

nothing_read : (d : json.Data) → ¬ (read [] ≡ Some d)
unfolding serde_json_on_literals
nothing_read d is = cc

object-states : (text : List ℕ) (tags : List TagText) → read text ≡ Some (json.object (members_of_tags tags)) → tags_stated text ≡ Some tags
unfolding tags_stated tags_in
object-states [] tags is = absurd (nothing_read (json.object (members_of_tags tags)) is)
object-states (b ∷ text) tags is = states (read (b ∷ text)) tags is

-- the members are read one after another
read_members : (tags done : List TagText) → of_members (members_spelled tags) (members_of_tags done) ≡ Some (members_of_tags (with_tags tags done))
read_members [] done = refl
read_members (t ∷ tags) done = ap (of_members (members_spelled tags)) (put-member t done) ∙ read_members tags (with_tag t done)

-- a text that states tags
pub stated_by : (tags : List TagText) → KeysRise tags → (text : List ℕ) × (tags_stated text ≡ Some tags)
stated_by tags rising =
    let object : tree.Json = tree.object (members_spelled tags) in
    let text = print (json_tokens object) in
    let shallow : depth object ≤ max_depth = omega (arith, flat tags) in
    let again : tokens text ≡ json_tokens object ++ [] = tokens-print (json_tokens object) (ArePrintable-json_tokens object (no_numbers tags)) ∙ sym (append-nil (json_tokens object)) in
    let found : read text ≡ of_json object =
    ap (λ ts. option_and_then of_json (option_and_then (λ p. tree.if_last p.0 p.1) (tree.value max_depth ts))) again
    ∙ ap (λ o. option_and_then of_json (option_and_then (λ p. tree.if_last p.0 p.1) o)) (value-json_tokens object max_depth [] shallow) in
    let members : of_members (members_spelled tags) json.no_members ≡ Some (members_of_tags tags) = read_members tags [] ∙ ap (λ ts. Some (members_of_tags ts)) (puts-whole tags rising) in
    (text, object-states text tags (found ∙ rw members refl))
