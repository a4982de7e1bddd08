-- Members and items, one after the other, are the text of their object or array.
use Rattle.std.proofs.Common.{◌≡◌, ◌∙◌, ◌+◌, ◌<◌, ℕ, zero, suc, Bool, true, List, [], ◌∷◌, ◌++◌, None, Option, Some, add-one, append-nil, append_assoc, arith, get_or, length, map, refl, sym, take, ap}
use Rattle.std.specs.List.{range_with_len, zip}
use Rattle.std.proofs.lemmas.Grind.{flat_map-append}
use Rattle.std.proofs.lemmas.List.{get_or-map, length-append, length-map, length-take, map-append, take-map}
use Rattle.serde_json.specs.Data as json
use Rattle.serde_json.specs.Written.{compact_text, items_text, members_text}
use Rattle.serde_json.proofs.OnLiterals.{serde_json_on_literals}
use Rattle.fw_calendar.specs.declared.steps.Step.{Step}
use Rattle.fw_calendar.specs.declared.steps.Step.TheVariants.{Hour, Day, Month}
use Rattle.fw_select.specs.Groups.{GroupCost}
use Rattle.fw_selections.specs.JsonMembers.{comma_at, later, later_members, listed, member_text, members_line, quoted}
use Rattle.fw_selections.specs.JsonText.{Member, array_of, items_of, key_members, keyed_rows, members_of, object_of, step_word}
use Rattle.fw_selections.specs.Written.{kind_word, shown_rows, text_at, texts_under}
use Rattle.fw_selections.specs.declared.sheet.KeyName.{KeyName}

-- ---- objects and arrays

later_is : (ms : List Member) → members_text true (members_of ms) ≡ later_members ms ++ 125 ∷ []
later_is [] = refl
later_is (m ∷ ms) =
    let value = compact_text m.1 in
    ap (λ t. 44 ∷ (quoted m.0 ++ 58 ∷ (value ++ t))) (later_is ms)
    ∙ ap (λ t. 44 ∷ t) (sym (append_assoc (quoted m.0) (58 ∷ value) (later_members ms ++ 125 ∷ [])))
    ∙ ap (λ t. 44 ∷ t) (sym (append_assoc (member_text m) (later_members ms) (125 ∷ [])))

pub object_text : (ms : List Member) → compact_text (object_of ms) ≡ 123 ∷ (members_line ms ++ 125 ∷ [])
object_text [] = refl
object_text (m ∷ ms) =
    let value = compact_text m.1 in
    ap (λ t. 123 ∷ (quoted m.0 ++ 58 ∷ (value ++ t))) (later_is ms)
    ∙ ap (λ t. 123 ∷ t) (sym (append_assoc (quoted m.0) (58 ∷ value) (later_members ms ++ 125 ∷ [])))
    ∙ ap (λ t. 123 ∷ t) (sym (append_assoc (member_text m) (later_members ms) (125 ∷ [])))

later_items : (ds : List json.Data) → items_text true (items_of ds) ≡ later (map compact_text ds) ++ 93 ∷ []
later_items [] = refl
later_items (d ∷ ds) =
    ap (λ t. 44 ∷ (compact_text d ++ t)) (later_items ds)
    ∙ ap (λ t. 44 ∷ t) (sym (append_assoc (compact_text d) (later (map compact_text ds)) (93 ∷ [])))

pub array_text : (ds : List json.Data) → compact_text (array_of ds) ≡ 91 ∷ (listed (map compact_text ds) ++ 93 ∷ [])
array_text [] = refl
array_text (d ∷ ds) =
    ap (λ t. 91 ∷ (compact_text d ++ t)) (later_items ds)
    ∙ ap (λ t. 91 ∷ t) (sym (append_assoc (compact_text d) (later (map compact_text ds)) (93 ∷ [])))

-- ---- lists of texts

-- members, and others after them
pub lines_later : (m : Member) (ms ns : List Member) → members_line (m ∷ (ms ++ ns)) ≡ members_line (m ∷ ms) ++ later_members ns
lines_later m ms ns =
    ap (λ ts. member_text m ++ later ts) (map-append member_text ms ns)
    ∙ ap (λ t. member_text m ++ t) (flat_map-append (λ (t : List ℕ). 44 ∷ t) (map member_text ms) (map member_text ns))
    ∙ sym (append_assoc (member_text m) (later_members ms) (later_members ns))

listed_push : (texts : List (List ℕ)) (text : List ℕ) → listed (texts ++ text ∷ []) ≡ (listed texts ++ comma_at (length texts)) ++ text
listed_push [] text = append-nil text
listed_push (t ∷ texts) text =
    ap (λ l. t ++ l) (flat_map-append (λ (x : List ℕ). 44 ∷ x) texts (text ∷ []) ∙ ap (λ l. later texts ++ 44 ∷ l) (append-nil text))
    ∙ sym (append_assoc t (later texts) (44 ∷ text))
    ∙ sym (append_assoc (t ++ later texts) (44 ∷ []) text)

-- one text more, behind the comma of its place
pub listed_step : (texts : List (List ℕ)) (i : ℕ) (text start old comma new : List ℕ) → length texts ≡ i → old ≡ start ++ listed texts → comma ≡ old ++ comma_at i → new ≡ comma ++ text
    → new ≡ start ++ listed (texts ++ text ∷ [])
listed_step texts i text start old comma new long was then wrote =
    wrote
    ∙ ap (λ t. t ++ text) (then ∙ ap (λ t. t ++ comma_at i) was)
    ∙ ap (λ t. t ++ text) (append_assoc start (listed texts) (comma_at i))
    ∙ append_assoc start (listed texts ++ comma_at i) text
    ∙ ap (λ n. start ++ ((listed texts ++ comma_at n) ++ text)) (sym long)
    ∙ ap (λ t. start ++ t) (sym (listed_push texts text))

pub long_take : {X : Type 0} (items : List X) (i : ℕ) (item : X) → take (i + 1) items ≡ take i items ++ item ∷ [] → length (take i items) ≡ i
long_take items i item one =
    omega (arith, length-take (i + 1) items, length-take i items, length-append (take i items) (item ∷ []), ap length one)

-- the text of one item more
pub listed_more : {X : Type 0} (text : X → List ℕ) (items : List X) (i : ℕ) (item : X) (start old comma new : List ℕ) → take (i + 1) items ≡ take i items ++ item ∷ []
    → old ≡ start ++ listed (map text (take i items)) → comma ≡ old ++ comma_at i → new ≡ comma ++ text item
    → new ≡ start ++ listed (map text (take (i + 1) items))
listed_more text items i item start old comma new one was then wrote =
    listed_step (map text (take i items)) i (text item) start old comma new (length-map (take i items) text ∙ long_take items i item one) was then wrote
    ∙ ap (λ ts. start ++ listed ts) (sym (ap (map text) one ∙ map-append text (take i items) (item ∷ [])))

-- ---- the texts under the keys

zip_more : (f : ℕ → List ℕ) (names : List (List ℕ)) (a i : ℕ) (name : List ℕ) → i < length names
    → take (suc i) (zip names (map f (range_with_len a (length names)))) ≡ take i (zip names (map f (range_with_len a (length names)))) ++ (get_or names i name, f (a + i)) ∷ []
zip_more f [] a i name below = absurd (omega arith)
zip_more f (n ∷ names) a zero name below = let same : a ≡ a + 0 = omega arith in ap (λ k. (n, f k) ∷ []) same
zip_more f (n ∷ names) a (suc i) name below =
    let same : (a + 1) + i ≡ a + suc i = omega arith in
    ap (λ l. (n, f a) ∷ l) (zip_more f names (a + 1) i name (omega arith) ∙ ap (λ k. take i (zip names (map f (range_with_len (a + 1) (length names)))) ++ (get_or names i name, f k) ∷ []) same)

abbrev pub names_of : List KeyName → List (List ℕ)
names_of keys = map (λ key. key.name.now) keys

-- the member of one key more
keys_more : (keys : List KeyName) (texts : Option (List (List ℕ))) (i : ℕ) (key : KeyName) → i < length keys
    → take (i + 1) (key_members (names_of keys) texts) ≡ take i (key_members (names_of keys) texts) ++ ((get_or keys i key).name.now, json.string (text_at texts i)) ∷ []
keys_more keys texts i key below =
    let f : List ℕ × List ℕ → Member = λ m. (m.0, json.string m.1) in
    let names = names_of keys in
    let pairs = zip names (texts_under (length names) texts) in
    let inside : i < length names = omega (arith, length-map keys (λ (k : KeyName). k.name.now)) in
    let own : get_or names i key.name.now ≡ (get_or keys i key).name.now = get_or-map (λ (k : KeyName). k.name.now) keys i key key.name.now below in
    let none : 0 + i ≡ i = omega arith in
    let one : take (i + 1) pairs ≡ take i pairs ++ ((get_or keys i key).name.now, text_at texts i) ∷ [] =
    ap (λ n. take n pairs) (add-one i) ∙ zip_more (text_at texts) names 0 i key.name.now inside
    ∙ ap (λ n. take i pairs ++ (n, text_at texts (0 + i)) ∷ []) own
    ∙ ap (λ k. take i pairs ++ ((get_or keys i key).name.now, text_at texts k) ∷ []) none in
    take-map f (i + 1) pairs ∙ ap (map f) one ∙ map-append f (take i pairs) (((get_or keys i key).name.now, text_at texts i) ∷ [])
    ∙ ap (λ l. l ++ ((get_or keys i key).name.now, json.string (text_at texts i)) ∷ []) (sym (take-map f i pairs))

pub key_written : (keys : List KeyName) (texts : Option (List (List ℕ))) (i : ℕ) (key : KeyName) (start old comma new value : List ℕ) → i < length keys
    → old ≡ start ++ members_line (take i (key_members (names_of keys) texts)) → comma ≡ old ++ comma_at i → new ≡ comma ++ member_text ((get_or keys i key).name.now, json.string value) → value ≡ text_at texts i
    → new ≡ start ++ members_line (take (i + 1) (key_members (names_of keys) texts))
key_written keys texts i key start old comma new value below was then wrote is =
    listed_more member_text (key_members (names_of keys) texts) i ((get_or keys i key).name.now, json.string (text_at texts i)) start old comma new (keys_more keys texts i key below) was then
    (wrote ∙ ap (λ t. comma ++ member_text ((get_or keys i key).name.now, json.string t)) is)

zip_long : (f : ℕ → List ℕ) (names : List (List ℕ)) (a : ℕ) → length (zip names (map f (range_with_len a (length names)))) ≡ length names
zip_long f [] a = refl
zip_long f (n ∷ names) a = ap suc (zip_long f names (a + 1))

-- there is a member for each key
pub keys_long : (keys : List KeyName) (texts : Option (List (List ℕ))) → length (key_members (names_of keys) texts) ≡ length keys
keys_long keys texts =
    let f : List ℕ × List ℕ → Member = λ m. (m.0, json.string m.1) in
    let names = names_of keys in
    length-map (zip names (texts_under (length names) texts)) f ∙ zip_long (text_at texts) names 0 ∙ length-map keys (λ (k : KeyName). k.name.now)

-- ---- names as items

pub names_text : (keys : List KeyName) → map compact_text (map json.string (names_of keys)) ≡ map (λ key. compact_text (json.string key.name.now)) keys
names_text [] = refl
names_text (key ∷ keys) = ap (λ ts. compact_text (json.string key.name.now) ∷ ts) (names_text keys)

pub maps_are : {X Y Z : Type 0} (f : Y → Z) (g : X → Y) (xs : List X) → map f (map g xs) ≡ map (λ x. f (g x)) xs
maps_are f g [] = refl
maps_are f g (x ∷ xs) = ap (λ l. f (g x) ∷ l) (maps_are f g xs)

-- ---- cases

pub no_rows : (keys : List KeyName) (chosen : GroupCost → Bool) (groups : List GroupCost) → length keys ≡ 0 → keyed_rows (names_of keys) chosen groups ≡ []
no_rows [] chosen groups none = refl
no_rows (key ∷ keys) chosen groups none = absurd (omega arith)

pub some_rows : (keys : List KeyName) (chosen : GroupCost → Bool) (groups : List GroupCost) → 0 < length keys → keyed_rows (names_of keys) chosen groups ≡ shown_rows chosen groups
some_rows [] chosen groups some = absurd (omega arith)
some_rows (key ∷ keys) chosen groups some = refl

-- ---- quotes

pub kind_quoted : (texts : Option (List (List ℕ))) → quoted (kind_word texts) ≡ 34 ∷ (kind_word texts ++ 34 ∷ [])
unfolding serde_json_on_literals
kind_quoted None = refl
kind_quoted (Some texts) = refl

pub word_quoted : (step : Step) → quoted (step_word step) ≡ 34 ∷ (step_word step ++ 34 ∷ [])
unfolding serde_json_on_literals
word_quoted Hour = refl
word_quoted Day = refl
word_quoted Month = refl
