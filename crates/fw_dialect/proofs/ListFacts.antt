-- The items of a list of tags, and the members of an object.
use Rattle.std.proofs.Common.{◌≡◌, ◌<◌, ◌≤◌, ◌+◌, ◌||◌, ◌∷◌, [], ◌++◌, ℕ, List, Bool, true, false, drop, length, get_or, Option, Some, None, option_map, option_and_then, is_some, if◌then◌else◌, String, Global, string_bytes, string_cmp, BTreeMap, Ordering, Less, Equal, Greater, rules, refl, sym, ap, ◌∙◌, append_assoc, append-nil, inl, inr, IsUtf8}
use Rattle.std.proofs.lemmas.Bool.{cases_Bool}
use Rattle.std.proofs.lemmas.List.{at_drop_more, drop_all}
use Rattle.std.proofs.lemmas.Str.{IsUtf8-from_is_utf8, is_utf8-from_IsUtf8}
use Rattle.std.specs.BTreeMap.{insert_entry, is_at}
use Rattle.std.specs.Cmp.Lexicographic.{slice_cmp}
use Rattle.std.specs.Map.{lookup}
use Rattle.std.specs.Ordering.{match_ordering, nat_cmp}
use Rattle.std.specs.Str.{is_utf8}
use Rattle.serde_json.proofs.Views.{Entry, members_view-insert_entry, view-Object, view-lookup}
use Rattle.serde_json.specs.Data as json
use Rattle.serde_json.specs.Data.{put}
use Rattle.serde_json.specs.Find.{as_array, get_member}
use Rattle.serde_json.specs.Read.{read}
use Rattle.serde_json.specs.View.{view, items_view, members_view}
use Rattle.serde_json.specs.Written.{compact_text, has_float, members_have_float}
use Rattle.serde_json.specs.declared.value.Value.{Value, Object, String as StringValue, the_lemmas}
use Rattle.fw_charge.specs.Tags.{TagText}
use Rattle.fw_dialect.specs.Tags.{line_ends, members_of, pair_in, pairs_in, tags_in, with_members}

all-of : (o : Option (List TagText)) → o ≡ option_map (λ more. more) o
all-of None = refl
all-of (Some tags) = refl

pub pairs-start : (items : List Value) → pairs_in (items_view items) ≡ option_map (λ more. [] ++ more) (pairs_in (items_view items))
pairs-start items = all-of (pairs_in (items_view items))

joined : (tags : List TagText) (t : TagText) (o : Option (List TagText)) → option_map (λ more. tags ++ more) (option_map (λ more. t ∷ more) o) ≡ option_map (λ more. (tags ++ t ∷ []) ++ more) o
joined tags t None = refl
joined tags t (Some more) = ap Some (sym (append_assoc tags (t ∷ []) more))

-- one item more, which is a tag
pub pairs-more : (items : List Value) (i : ℕ) (d : Value) (tags : List TagText) (tag : TagText) → i < length items
    → pairs_in (items_view items) ≡ option_map (λ more. tags ++ more) (pairs_in (items_view (drop i items))) → Some tag ≡ pair_in (view (get_or items i d))
    → pairs_in (items_view items) ≡ option_map (λ more. (tags ++ tag ∷ []) ++ more) (pairs_in (items_view (drop (i + 1) items)))
pairs-more items i d tags tag lt so is =
    so ∙ ap (option_map (λ more. tags ++ more)) (at_drop_more (λ vs. pairs_in (items_view vs)) items i d lt)
    ∙ rw (sym is) (joined tags tag (pairs_in (items_view (drop (i + 1) items))))

-- an item that is none
pub pairs-none : (items : List Value) (i : ℕ) (d : Value) (tags : List TagText) → i < length items
    → pairs_in (items_view items) ≡ option_map (λ more. tags ++ more) (pairs_in (items_view (drop i items))) → None ≡ pair_in (view (get_or items i d))
    → None ≡ pairs_in (items_view items)
pairs-none items i d tags lt so is =
    sym (so ∙ ap (option_map (λ more. tags ++ more)) (at_drop_more (λ vs. pairs_in (items_view vs)) items i d lt) ∙ rw (sym is) refl)

pub pairs-all : (items : List Value) (i : ℕ) (tags : List TagText) → length items ≤ i
    → pairs_in (items_view items) ≡ option_map (λ more. tags ++ more) (pairs_in (items_view (drop i items))) → Some tags ≡ pairs_in (items_view items)
pairs-all items i tags few so = sym (so ∙ rw (drop_all i items few) (ap Some (append-nil tags)))

-- ---- members

is_some-map : {X Y : Type 0} (f : X → Y) (o : Option X) → is_some (option_map f o) ≡ is_some o
is_some-map f None = refl
is_some-map f (Some x) = refl

view-text : (text : String Global) → view (StringValue text) ≡ json.string (string_bytes text)
view-text text = search (rules, the_lemmas)

-- whether members have a name
pub has-name : (key : String Global) (es : List Entry) (old : Option Value) (b : Bool) → old ≡ lookup (is_at (string_cmp key)) es → is_some old ≡ b
    → is_some (get_member (string_bytes key) (members_view es)) ≡ b
has-name key es old b is e =
    ap is_some (sym (view-lookup (string_bytes key) es)) ∙ is_some-map view (lookup (is_at (string_cmp key)) es) ∙ ap is_some (sym is) ∙ e

-- a name that the members don't have
pub members-more : (tags : List TagText) (i : ℕ) (d : TagText) (es new : List Entry) (key value : String Global) (old : Option Value) (whole : Option json.Members) → i < length tags
    → string_bytes key ≡ (get_or tags i d).key → string_bytes value ≡ (get_or tags i d).value → old ≡ lookup (is_at (string_cmp key)) es → is_some old ≡ false
    → new ≡ insert_entry string_cmp es key (StringValue value) → with_members (drop i tags) (members_view es) ≡ whole → with_members (drop (i + 1) tags) (members_view new) ≡ whole
members-more tags i d es new key value old whole lt same_key same_value is_old none is so =
    let free : is_some (get_member (get_or tags i d).key (members_view es)) ≡ false = rw (sym same_key) (has-name key es old false is_old none) in
    let unfolded = sym (at_drop_more (λ ts. with_members ts (members_view es)) tags i d lt) ∙ so in
    let put_in = rw free at unfolded in
    rw (is, members_view-insert_entry es key (StringValue value), view-text value, same_key, same_value) put_in

-- a name that they have
pub members-none : (tags : List TagText) (i : ℕ) (d : TagText) (es : List Entry) (key : String Global) (old : Option Value) (whole : Option json.Members) → i < length tags
    → string_bytes key ≡ (get_or tags i d).key → old ≡ lookup (is_at (string_cmp key)) es → is_some old ≡ true
    → with_members (drop i tags) (members_view es) ≡ whole → None ≡ whole
members-none tags i d es key old whole lt same_key is_old there so =
    let taken : is_some (get_member (get_or tags i d).key (members_view es)) ≡ true = rw (sym same_key) (has-name key es old true is_old there) in
    let unfolded = sym (at_drop_more (λ ts. with_members ts (members_view es)) tags i d lt) ∙ so in
    rw taken at unfolded

pub members-all : (tags : List TagText) (i : ℕ) (ms : json.Members) (whole : Option json.Members) → length tags ≤ i → with_members (drop i tags) ms ≡ whole → Some ms ≡ whole
members-all tags i ms whole few so = rw (drop_all i tags few) at so

-- ---- the object has no float

match-flat : (o : Ordering) (a b c : json.Members) → members_have_float a ≡ false → members_have_float b ≡ false → members_have_float c ≡ false → members_have_float (match_ordering o a b c) ≡ false
match-flat Less a b c x y z = x
match-flat Equal a b c x y z = y
match-flat Greater a b c x y z = z

or-left : (a b : Bool) → (a || b) ≡ false → a ≡ false
or-left true b h = h
or-left false b h = refl

or-right : (a b : Bool) → (a || b) ≡ false → b ≡ false
or-right true b h = absurd (cc h)
or-right false b h = h

or-none : (a b : Bool) → a ≡ false → b ≡ false → (a || b) ≡ false
or-none a b x y = rw (x, y) refl

put-flat : (k v : List ℕ) (ms : json.Members) → members_have_float ms ≡ false → members_have_float (put k (json.string v) ms) ≡ false
put-flat k v json.no_members flat = refl
put-flat k v (json.member l e ms) flat =
    match-flat (slice_cmp nat_cmp k l) (json.member k (json.string v) (json.member l e ms)) (json.member l (json.string v) ms) (json.member l e (put k (json.string v) ms))
    flat (or-right (has_float e) (members_have_float ms) flat)
    (or-none (has_float e) (members_have_float (put k (json.string v) ms)) (or-left (has_float e) (members_have_float ms) flat) (put-flat k v ms (or-right (has_float e) (members_have_float ms) flat)))

with-flat-if : (taken : Bool) (some : Option json.Members) (ms : json.Members) → ((if taken then None else some) ≡ Some ms) → some ≡ Some ms
with-flat-if true some ms h = absurd (cc h)
with-flat-if false some ms h = h

with-flat : (tags : List TagText) (ms out : json.Members) → members_have_float ms ≡ false → with_members tags ms ≡ Some out → members_have_float out ≡ false
with-flat [] ms out flat is = let same : ms ≡ out = cc is in rw (sym same) flat
with-flat (tag ∷ tags) ms out flat is =
    with-flat tags (put tag.key (json.string tag.value) ms) out (put-flat tag.key tag.value ms flat)
    (with-flat-if (is_some (get_member tag.key ms)) (with_members tags (put tag.key (json.string tag.value) ms)) out is)

flat-of : (o : Option (List TagText)) (out : json.Members) → option_and_then (λ tags. with_members tags json.no_members) o ≡ Some out → members_have_float out ≡ false
flat-of None out is = absurd (cc is)
flat-of (Some tags) out is = with-flat tags json.no_members out refl is

-- the text of an object with the members of a list of tags
pub object-flat : (m : BTreeMap (String Global) Value) (d : json.Data) → Some (members_view m.entries) ≡ members_of d → has_float (view (Object m)) ≡ false
object-flat m d is = rw (view-Object m) (flat-of (option_and_then pairs_in (as_array d)) (members_view m.entries) (sym is))

-- ---- a text of a list

-- a text that isn't UTF-8 is none
pub not-utf8 : (text : List ℕ) → ¬ IsUtf8 text → None ≡ tags_in text
unfolding tags_in
not-utf8 text bad = elim (cases_Bool (is_utf8 text)) [
  | inl e ↦ absurd (bad (IsUtf8-from_is_utf8 text e))
  | inr e ↦ rw e refl
]

pub list-text : (text written : List ℕ) (d : json.Data) (m : BTreeMap (String Global) Value) (object out : List ℕ) → IsUtf8 text → written ≡ text → read written ≡ Some d
    → Some (members_view m.entries) ≡ members_of d → (has_float (view (Object m)) ≡ false → object ≡ compact_text (view (Object m))) → out ≡ object ++ line_ends text → Some out ≡ tags_in text
unfolding tags_in
list-text text written d m object out valid same reads has is now =
    let as_text : object ≡ compact_text (json.object (members_view m.entries)) = is (object-flat m d has) ∙ ap compact_text (view-Object m) in
    let list : read text ≡ Some d = ap read (sym same) ∙ reads in
    rw (is_utf8-from_IsUtf8 text valid, list, sym has) (ap Some (now ∙ ap (λ t. t ++ line_ends text) as_text))
