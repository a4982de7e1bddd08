-- The codes of groups.
use Rattle.std.proofs.Common.{◌≡◌, ℕ, ◌+◌, ◌<◌, ◌≤◌, ◌^◌, ◌*◌, Bool, true, false, List, [], ◌∷◌, length, get_or, map, drop, refl, sym, ap, ◌∙◌, subst, arith, true≢false, if◌then◌else◌, ◌⊎◌, inl, inr}
use Rattle.std.specs.Prelude.{◌==◌, All}
use Rattle.std.proofs.lemmas.Bool.{eq-eqb, ne_eqb}
use Rattle.std.proofs.lemmas.Option.{slice_get_within, get_or_from_slice_get}
use Rattle.std.proofs.lemmas.List.{get_or-map}
use Rattle.std.proofs.lemmas.List.Elements.{All-head, All-tail, All-map, All-weaker}
use Rattle.std.specs.Str.{bytes_eq}
use Rattle.std.specs.Cmp.Lexicographic.{bytes_decides}
use Rattle.fw_charge.specs.Tags.{TagText, tag_under, value_under, group_of}
use Rattle.fw_charge.specs.Charge.{Charge}
use Rattle.fw_row_table.specs.declared.table.Table.{Table}
use Rattle.fw_row_table.specs.Names.{Text, place_of}
use Rattle.fw_row_table.specs.Texts.{texts_of_tags, most_texts}
use Rattle.fw_row_table.specs.Lists.{tag_places, lists_of}
use Rattle.fw_columns.specs.Codes.{group_code, tag_code, AgreeWithGroups}
use Rattle.fw_row_table.specs.Table.{most_column_rows, AreColumns, text_at, text_of}
use Rattle.fw_columns.specs.Joining.{replaced}
use Rattle.fw_columns.specs.Grouping.{found_code, group_at}
use Rattle.fw_row_table.proofs.NameFacts.{text_at_place}
use Rattle.fw_row_table.proofs.TextFacts.{IsKnown, AreKnown, IsRowKnown}
use Rattle.fw_row_table.proofs.TableFacts.{texts_known, lists_known, rows_known, one_more}
use Rattle.fw_columns.proofs.JoinFacts.{lists_within, values_there}

-- a known text is the only one at its place
known_place : (names : List Text) (t u : Text) → IsKnown names t → place_of names t ≡ place_of names u → t ≡ u
known_place names t u h e =
    let below : place_of names u < length names = let b : place_of names t < length names = h.below in omega (arith, e) in
    sym (text_at_place names t [] h.below) ∙ (ap (λ p. get_or names p []) e ∙ text_at_place names u [] below)

same_place : (names : List Text) (t u : Text) → IsKnown names t → (place_of names t == place_of names u) ≡ bytes_eq t u
same_place names t u h = by (bytes_eq t u) refl
  where
    by : (b : Bool) → bytes_eq t u ≡ b → (place_of names t == place_of names u) ≡ bytes_eq t u
    by true e = eq-eqb _ _ (ap (place_of names) ((bytes_decides t u).0 e)) ∙ sym e
    by false e = ne_eqb _ _ (λ q. true≢false (sym ((bytes_decides t u).1 (known_place names t u h q)) ∙ e)) ∙ sym e

-- the code of a value that is known
value_group : (names : List Text) (v : Text) → IsKnown names v → (if place_of names v == place_of names [] then 0 else 1 + place_of names v) ≡ group_code names v
unfolding group_code
value_group names [] h = rw (eq-eqb (place_of names []) (place_of names []) refl) refl
value_group names (byte ∷ rest) h = rw (same_place names (byte ∷ rest) [] h) refl

-- the code that is found among the places of tags is that of their group
found : (names : List Text) (key : Text) (tags : List TagText) → AreKnown names (texts_of_tags tags)
    → found_code (place_of names key) (place_of names []) (tag_places names tags) ≡ group_code names (group_of key tags)
unfolding found_code tag_places texts_of_tags group_of value_under tag_under group_code
found names key [] h = refl
found names key (t ∷ ts) h = by (bytes_eq t.key key) refl (found names key ts h.1.1)
  where
    by : (b : Bool) → bytes_eq t.key key ≡ b → found_code (place_of names key) (place_of names []) (tag_places names ts) ≡ group_code names (group_of key ts)
        → found_code (place_of names key) (place_of names []) (tag_places names (t ∷ ts)) ≡ group_code names (group_of key (t ∷ ts))
    by true e rest = rw (same_place names t.key key h.0, e) (value_group names t.value h.1.0)
    by false e rest = rw (same_place names t.key key h.0, e) rest

-- the codes of the lists, at the lists of the rows, are the codes of the rows' groups
each_found : (names : List Text) (key : Text) (rows : List Charge) → All (IsRowKnown names) rows → map (found_code (place_of names key) (place_of names [])) (lists_of names rows) ≡ map (tag_code key names) rows
unfolding lists_of tag_code
each_found names key [] all = refl
each_found names key (r ∷ rs) all = rw (found names key r.tags (All-head (IsRowKnown names) r rs all).tags, each_found names key rs (All-tail (IsRowKnown names) r rs all)) refl

pub groups_shown : (t : Table) (rows : List Charge) → AreColumns t rows → (key : Text)
    → replaced (map (found_code (place_of t.names key) (place_of t.names [])) t.lists) t.tags.items ≡ map (tag_code key t.names) rows
groups_shown t rows columns key =
    let code = found_code (place_of t.names key) (place_of t.names []) in
    ap (replaced (map code t.lists)) columns.tags ∙ (values_there t.lists (lists_of t.names rows) code (lists_known t rows columns) ∙ each_found t.names key rows (rows_known t rows columns))

-- places are few
pub lists_few : (t : Table) (rows : List Charge) → AreColumns t rows → All (λ list. All (λ place. place < 2 ^ 30) list) t.lists
lists_few t rows columns =
    let few : length t.names ≤ 2 ^ 30 = (let a : length t.names ≤ most_texts * length rows = columns.names_few in let b : length rows ≤ most_column_rows = columns.few in omega (arith, a, b)) in
    let weaker = λ (list : List ℕ) (within : All (λ place. place < length t.names) list). All-weaker (λ place. place < length t.names) (λ place. place < 2 ^ 30) (λ place h. omega (arith, h, few)) list within in
    All-weaker (λ list. All (λ place. place < length t.names) list) (λ list. All (λ place. place < 2 ^ 30) list) weaker t.lists (lists_within t rows columns)

-- a group is the empty text or known
group_known : (names : List Text) (key : Text) (tags : List TagText) → AreKnown names (texts_of_tags tags) → (group_of key tags ≡ []) ⊎ IsKnown names (group_of key tags)
unfolding group_of value_under tag_under texts_of_tags
group_known names key [] h = inl refl
group_known names key (t ∷ ts) h = by (bytes_eq t.key key) refl (group_known names key ts h.1.1)
  where
    by : (b : Bool) → bytes_eq t.key key ≡ b → (group_of key ts ≡ []) ⊎ IsKnown names (group_of key ts) → (group_of key (t ∷ ts) ≡ []) ⊎ IsKnown names (group_of key (t ∷ ts))
    by true e rest = rw e (inr h.1.0)
    by false e rest = rw e rest

same_code : (names : List Text) (g k : Text) → (g ≡ []) ⊎ IsKnown names g → group_code names g ≡ group_code names k → g ≡ k
unfolding group_code
same_code names [] [] known e = refl
same_code names [] (b ∷ bs) known e = absurd (omega (arith, e))
same_code names (a ∷ as') [] known e = absurd (omega (arith, e))
same_code names (a ∷ as') (b ∷ bs) (inl empty) e = cc
same_code names (a ∷ as') (b ∷ bs) (inr h) e = known_place names (a ∷ as') (b ∷ bs) h (omega (arith, e))

pub groups_agree : (t : Table) (rows : List Charge) → AreColumns t rows → (key : Text) → AgreeWithGroups key rows (map (tag_code key t.names) rows)
unfolding AgreeWithGroups tag_code
groups_agree t rows columns key i j c d ci dj =
    let hi : i < length rows = slice_get_within rows i c ci in
    let hj : j < length rows = slice_get_within rows j d dj in
    let f = λ (x : Charge). group_code t.names (group_of key x.tags) in
    let ei : get_or (map f rows) i 0 ≡ f c = get_or-map f rows i c 0 hi ∙ ap f (get_or_from_slice_get rows i c c ci) in
    let ej : get_or (map f rows) j 0 ≡ f d = get_or-map f rows j d 0 hj ∙ ap f (get_or_from_slice_get rows j d d dj) in
    let known : IsRowKnown t.names c = subst (IsRowKnown t.names) (get_or_from_slice_get rows i c c ci) (texts_known t rows columns i c hi) in (
      λ e. same_code t.names (group_of key c.tags) (group_of key d.tags) (group_known t.names key c.tags known.tags) (sym ei ∙ (e ∙ ej)),
      λ e. ei ∙ (ap (group_code t.names) e ∙ sym ej),
    )

-- where the search through the places of tags stands
found_step : (key empty : ℕ) (places : List ℕ) → 2 ≤ length places
    → found_code key empty places ≡ (if get_or places 0 0 == key then (if get_or places 1 0 == empty then 0 else 1 + get_or places 1 0) else found_code key empty (drop 2 places))
unfolding found_code
found_step key empty [] h = absurd (omega arith)
found_step key empty (k ∷ []) h = absurd (omega arith)
found_step key empty (k ∷ value ∷ places) h = refl

module _ (key empty : ℕ) (places : List ℕ) (h : 2 ≤ length places) where
  found_here : get_or places 0 0 ≡ key → found_code key empty places ≡ (if get_or places 1 0 == empty then 0 else 1 + get_or places 1 0)
  found_here e = rw (found_step key empty places h, eq-eqb (get_or places 0 0) key e) refl

  pub found_later : (get_or places 0 0 ≡ key → ⊥) → found_code key empty (drop 2 places) ≡ found_code key empty places
  found_later e = rw (found_step key empty places h, ne_eqb (get_or places 0 0) key e) refl

  pub found_empty : get_or places 0 0 ≡ key → get_or places 1 0 ≡ empty → 0 ≡ found_code key empty places
  found_empty e v = sym (found_here e ∙ rw (eq-eqb (get_or places 1 0) empty v) refl)

  pub found_value : get_or places 0 0 ≡ key → (get_or places 1 0 ≡ empty → ⊥) → 1 + get_or places 1 0 ≡ found_code key empty places
  found_value e v = sym (found_here e ∙ rw (ne_eqb (get_or places 1 0) empty v) refl)

pub found_nowhere : (key empty : ℕ) (places : List ℕ) → length places < 2 → found_code key empty places ≡ 0
unfolding found_code
found_nowhere key empty [] h = refl
found_nowhere key empty (k ∷ []) h = refl
found_nowhere key empty (k ∷ value ∷ places) h = absurd (omega arith)

-- ---- the text of a group

-- the text of the code of a group is the group
group_back : (names : List Text) (group : Text) → (group ≡ []) ⊎ IsKnown names group → (group_at names (group_code names group) ≡ group) × (group_code names group ≤ length names)
unfolding group_at group_code text_of text_at
group_back names [] known = (refl, omega arith)
group_back names (byte ∷ rest) (inl empty) = absurd (cc)
group_back names (byte ∷ rest) (inr h) =
    let below : place_of names (byte ∷ rest) < length names = h.below in
    (rw (one_more (place_of names (byte ∷ rest))) (text_at_place names (byte ∷ rest) [] below), omega (arith, below))

each_back : (names : List Text) (key : Text) (rows : List Charge) → All (IsRowKnown names) rows → map (group_at names) (map (tag_code key names) rows) ≡ map (λ c. group_of key c.tags) rows
unfolding tag_code
each_back names key [] all = refl
each_back names key (r ∷ rs) all =
    rw ((group_back names (group_of key r.tags) (group_known names key r.tags (All-head (IsRowKnown names) r rs all).tags)).0, each_back names key rs (All-tail (IsRowKnown names) r rs all)) refl

pub groups_back : (t : Table) (rows : List Charge) → AreColumns t rows → (key : Text) → map (group_at t.names) (map (tag_code key t.names) rows) ≡ map (λ c. group_of key c.tags) rows
groups_back t rows columns key = each_back t.names key rows (rows_known t rows columns)

pub codes_within : (t : Table) (rows : List Charge) → AreColumns t rows → (key : Text) → All (λ code. code ≤ length t.names) (map (tag_code key t.names) rows)
unfolding tag_code
codes_within t rows columns key =
    All-map (λ code. code ≤ length t.names) (λ (c : Charge). group_code t.names (group_of key c.tags)) rows
    (All-weaker (IsRowKnown t.names) (λ (c : Charge). group_code t.names (group_of key c.tags) ≤ length t.names)
    (λ c known. (group_back t.names (group_of key c.tags) (group_known t.names key c.tags known.tags)).1) rows (rows_known t rows columns))
