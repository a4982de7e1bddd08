-- Groups under other groups. The laws speak of it.
use Rattle.std.specs.Prelude.{◌≡◌, ◌++◌, ◌∷◌, not, ℕ, pos, zero, suc, List, [], map, None}
use Rattle.std.specs.Borrow.{Bor}
use Rattle.fw_sums.specs.Costs.{Cost}
use Rattle.fw_select.specs.Groups.{GroupCost}
use Rattle.fw_select.specs.Keys.{mapped}
use Rattle.fw_select.specs.declared.key.Key.{Key}
use Rattle.fw_select.specs.declared.key.Source.TheVariants as source
use Rattle.fw_select.specs.declared.selector.Filter.{Filter}
use Rattle.fw_select.specs.declared.selector.Selector.{Selector}

-- the same costs, each in the group that is made of its own
abbrev pub regrouped : (List (List ℕ) → List (List ℕ)) → List GroupCost → List GroupCost
regrouped f costs = map (λ c. record { group = f c.group; billed = c.billed; effective = c.effective; amount = c.amount }) costs

-- a list without what is at a place
abbrev pub without : {X : Type 0} → ℕ → List X → List X
without place [] = []
without zero (x ∷ xs) = xs
without (suc place) (x ∷ xs) = x ∷ without place xs

-- a key without its map
abbrev pub plain : Key → Key
plain key = record { source = key.source; map = None }

-- what the maps of keys make of a group
abbrev pub mapped_group : List Key → List (List ℕ) → List (List ℕ)
mapped_group [] group = []
mapped_group (key ∷ keys) [] = []
mapped_group (key ∷ keys) (text ∷ texts) = mapped key.map text ∷ mapped_group keys texts

-- the first selector takes the same lines, and has all keys of the other but the one at a place
pub record IsWithout (place : ℕ) (fewer s : Selector) : Type 0 where
  pub filters : fewer.filters.now ≡ s.filters.now
  pub keys : fewer.keys.now ≡ without place s.keys.now

-- the first selector takes the same lines, and has the keys of the other without their maps
pub record IsPlain (unmapped s : Selector) : Type 0 where
  pub filters : unmapped.filters.now ≡ s.filters.now
  pub keys : unmapped.keys.now ≡ map plain s.keys.now

-- two filters are opposite: of the same values of the same key one has to be there, or none
pub record AreOpposite (f g : Filter) : Type 0 where
  pub key : g.key ≡ f.key
  pub values : g.values.now ≡ f.values.now
  pub other : g.is_one ≡ not f.is_one

-- the first two selectors have the keys and the filters of the third, and each one filter more; these are opposite
pub record AreSplit (yes no s : Selector) : Type 0 where
  pub one : Filter
  pub other : Filter
  pub opposite : AreOpposite one other
  pub yes_keys : yes.keys.now ≡ s.keys.now
  pub no_keys : no.keys.now ≡ s.keys.now
  pub yes_filters : yes.filters.now ≡ s.filters.now ++ one ∷ []
  pub no_filters : no.filters.now ≡ s.filters.now ++ other ∷ []

-- what a report by one tag counts of lines, as groups of one text
abbrev pub of_one_text : List Cost → List GroupCost
of_one_text costs = map (λ c. record { group = c.group ∷ []; billed = c.billed; effective = c.effective; amount = pos 0 }) costs

-- a selector whose one key is a tag without a map, and which has no filter
pub record IsOneTag (name : List ℕ) (s : Selector) : Type 0 where
  pub key : Key
  pub keys : s.keys.now ≡ key ∷ []
  pub tag : Bor (List ℕ)
  pub source : key.source ≡ source.Tag tag
  pub name_is : tag.now ≡ name
  pub plain : key.map ≡ None
  pub filters : s.filters.now ≡ []
