-- Lemmas on what lines carry of a commitment.
use Rattle.std.proofs.Common.{◌≡◌, ◌∙◌, Bool, true, false, ℕ, ℤ, pos, ◌+ℤ◌, ◌||◌, List, [], ◌∷◌, ◌++◌, filter, take, get_or, length, ◌<◌, ◌+◌, refl, ap, arith}
use Rattle.std.specs.Prelude.{if◌then◌else◌}
use Rattle.std.specs.List.{list_any}
use Rattle.std.specs.Str.{bytes_eq}
use Rattle.std.proofs.lemmas.Int.{ints}
use Rattle.std.proofs.lemmas.List.{take_more}
use Rattle.std.proofs.lemmas.List.Elements.{filter-append}
use Rattle.std.proofs.lemmas.List.Folds.{list_any-append}
use Rattle.std.proofs.lemmas.Slice.Eq.{bytes_eq-Decides}
use Rattle.fw_charge.specs.Codes.{category_word, status_word}
use Rattle.fw_charge.specs.declared.category.Category.TheVariants as category
use Rattle.fw_charge.specs.declared.discount.DiscountStatus.TheVariants as status
use Rattle.fw_amortise.specs.Carrying.{cost_of_all}
use Rattle.fw_amortise.specs.LineValue.{LineValue}
use Rattle.fw_query.specs.Carried.{billed_by_all, shows_purchase_of}
use Rattle.fw_coverage.specs.Coverage.{paid_cost, shows_id, shows_status, unused_cost, used_cost}
use Rattle.fw_coverage.specs.Tallies.{line_sums, no_sums, with_sums}
use Rattle.fw_coverage.specs.declared.line_sums.LineSums.{LineSums}
use Rattle.fw_query.specs.Texts.{id_text, status_text}
use Rattle.fw_query.proofs.BoughtFacts.{billed_append}
use Rattle.fw_query.proofs.CarriedFacts.{cost_append}

-- no lines carry nothing
pub no_lines_carry : (id : List ℕ) → line_sums id [] ≡ no_sums
unfolding line_sums no_sums used_cost unused_cost paid_cost cost_of_all billed_by_all
no_lines_carry id = refl

-- lines after lines
pub line_sums-append : (id : List ℕ) (xs ys : List LineValue) → line_sums id (xs ++ ys) ≡ with_sums (line_sums id xs) (line_sums id ys)
unfolding line_sums with_sums used_cost unused_cost paid_cost
line_sums-append id xs ys = λ j. record {
  shown = list_any-append (shows_id id) xs ys j;
  used = (ap cost_of_all (filter-append (shows_status status.Used id) xs ys) ∙ cost_append (filter (shows_status status.Used id) xs) (filter (shows_status status.Used id) ys)) j;
  unused = (ap cost_of_all (filter-append (shows_status status.Unused id) xs ys) ∙ cost_append (filter (shows_status status.Unused id) xs) (filter (shows_status status.Unused id) ys)) j;
  paid = (ap billed_by_all (filter-append (shows_purchase_of id) xs ys) ∙ billed_append (filter (shows_purchase_of id) xs) (filter (shows_purchase_of id) ys)) j;
}

-- one more line
pub line_sums-more : (id : List ℕ) (xs : List LineValue) (i : ℕ) (d : LineValue) → i < length xs → line_sums id (take (i + 1) xs) ≡ with_sums (line_sums id (take i xs)) (line_sums id (get_or xs i d ∷ []))
line_sums-more id xs i d below = ap (line_sums id) (take_more xs i d below) ∙ line_sums-append id (take i xs) (get_or xs i d ∷ [])

or_false : (b : Bool) → (b || false) ≡ b
or_false true = refl
or_false false = refl

-- nothing more
pub with_none : (a : LineSums) → with_sums a no_sums ≡ a
unfolding with_sums no_sums
with_none a = λ j. record {
  shown = or_false a.shown j;
  used = plus_none a.used j;
  unused = plus_none a.unused j;
  paid = plus_none a.paid j;
}
  where
    plus_none : (x : ℤ) → x +ℤ pos 0 ≡ x
    plus_none x = omega (arith, ints)

-- ---- a line
pub cost_alone : (line : LineValue) (b : Bool) (p : LineValue → Bool) → p line ≡ b → cost_of_all (filter p (line ∷ [])) ≡ (if b then line.effective else pos 0)
unfolding cost_of_all
cost_alone line true p h = rw h (omega (arith, ints))
cost_alone line false p h = rw h refl

billed_alone : (line : LineValue) (b : Bool) (p : LineValue → Bool) → p line ≡ b → billed_by_all (filter p (line ∷ [])) ≡ (if b then line.billed else pos 0)
unfolding billed_by_all
billed_alone line true p h = rw h (omega (arith, ints))
billed_alone line false p h = rw h refl

pub same_text : (id : List ℕ) → bytes_eq id id ≡ true
same_text id = (bytes_eq-Decides id id).1 refl

-- one that has the id
pub own_line : (id : List ℕ) (line : LineValue) → bytes_eq (id_text line.commitment) id ≡ true
    → line_sums id (line ∷ []) ≡ record {
      shown = true;
      used = if bytes_eq (status_text line.commitment) (status_word status.Used) then line.effective else pos 0;
      unused = if bytes_eq (status_text line.commitment) (status_word status.Unused) then line.effective else pos 0;
      paid = if bytes_eq (category_word line.category) (category_word category.Purchase) then line.billed else pos 0;
    }
unfolding line_sums used_cost unused_cost paid_cost shows_id shows_status shows_purchase_of category_word
own_line id line own = λ j. record {
  shown = shown j;
  used = cost_alone line (bytes_eq (status_text line.commitment) (status_word status.Used)) (shows_status status.Used id) (rw own refl) j;
  unused = cost_alone line (bytes_eq (status_text line.commitment) (status_word status.Unused)) (shows_status status.Unused id) (rw own refl) j;
  paid = billed_alone line (bytes_eq (category_word line.category) (category_word category.Purchase)) (shows_purchase_of id) (rw own refl) j;
}
  where
    shown : list_any (shows_id id) (line ∷ []) ≡ true
    shown = rw own refl

-- one that has another one
pub other_line : (id : List ℕ) (line : LineValue) → bytes_eq (id_text line.commitment) id ≡ false → line_sums id (line ∷ []) ≡ no_sums
unfolding line_sums no_sums used_cost unused_cost paid_cost shows_id shows_status shows_purchase_of
other_line id line other = λ j. record {
  shown = shown j;
  used = cost_alone line false (shows_status status.Used id) (rw other refl) j;
  unused = cost_alone line false (shows_status status.Unused id) (rw other refl) j;
  paid = billed_alone line false (shows_purchase_of id) (rw other refl) j;
}
  where
    shown : list_any (shows_id id) (line ∷ []) ≡ false
    shown = rw other refl
