-- Lines in another order have the same sums.
use Rattle.std.proofs.Common.{◌≡◌, ◌∙◌, ℕ, suc, ◌+◌, ℤ, pos, negsuc, ◌+ℤ◌, Bool, true, false, cond, List, [], ◌∷◌, ◌++◌, map, fold, sum_by, sym, ap, refl, arith, zero-add}
use Rattle.std.proofs.lemmas.Int.{ints}
use Rattle.std.proofs.lemmas.List.Sorted.{IsPermutation-append_right, IsPermutation-map, list_any-IsPermutation, sum_by-IsPermutation}
use Rattle.std.proofs.lemmas.List.Sums.{sum_by-cons}
use Rattle.std.specs.List.Sorted.{IsPermutation}
use Rattle.std.specs.Prelude.{◌-ℤ◌}
use Rattle.fw_select.specs.Groups.{GroupCost, costs_in, groups_of, is_same, sum_in}
use Rattle.fw_select.specs.Table.{AreSums, sums_of}
use Rattle.fw_select.specs.declared.table.Table.{Table}
use Rattle.fw_select.proofs.TableFacts.{sums_when}

-- an amount above 0 and one below 0, as numbers
above : ℤ → ℕ
above (pos n) = n
above (negsuc n) = 0

under : ℤ → ℕ
under (pos n) = 0
under (negsuc n) = suc n

-- what a line adds to either in a group
abbrev gain : (GroupCost → ℤ) → List (List ℕ) → GroupCost → ℕ
gain amount g c = cond (is_same g c.group) (above (amount c)) 0

abbrev loss : (GroupCost → ℤ) → List (List ℕ) → GroupCost → ℕ
loss amount g c = cond (is_same g c.group) (under (amount c)) 0

parts : (z : ℤ) → z ≡ pos (above z) -ℤ pos (under z)
unfolding above under
parts (pos n) = omega (arith, ints)
parts (negsuc n) = omega (arith, ints)

join : (s a : ℤ) (u d gains losses : ℕ) → a ≡ pos u -ℤ pos d → (s +ℤ a) +ℤ (pos gains -ℤ pos losses) ≡ s +ℤ (pos (u + gains) -ℤ pos (d + losses))
join s a u d gains losses is = omega (arith, ints)

sum_from : (amount : GroupCost → ℤ) (g : List (List ℕ)) (start : ℤ) (costs : List GroupCost) → fold ◌+ℤ◌ start (map amount (costs_in g costs)) ≡ start +ℤ (pos (sum_by (gain amount g) costs) -ℤ pos (sum_by (loss amount g) costs))
sum_from amount g start [] = omega (arith, ints)
sum_from amount g start (c ∷ costs) = by (is_same g c.group) refl (λ from. sum_from amount g from costs)
  where
    by : (b : Bool) → is_same g c.group ≡ b → ((from : ℤ) → fold ◌+ℤ◌ from (map amount (costs_in g costs)) ≡ from +ℤ (pos (sum_by (gain amount g) costs) -ℤ pos (sum_by (loss amount g) costs)))
        → fold ◌+ℤ◌ start (map amount (costs_in g (c ∷ costs))) ≡ start +ℤ (pos (sum_by (gain amount g) (c ∷ costs)) -ℤ pos (sum_by (loss amount g) (c ∷ costs)))
    by true e rest =
        let first : fold ◌+ℤ◌ start (map amount (costs_in g (c ∷ costs))) ≡ fold ◌+ℤ◌ (start +ℤ amount c) (map amount (costs_in g costs)) =
        ap (λ b. fold ◌+ℤ◌ start (map amount (cond b (c ∷ costs_in g costs) (costs_in g costs)))) e in
        let gains : sum_by (gain amount g) (c ∷ costs) ≡ above (amount c) + sum_by (gain amount g) costs =
        sum_by-cons (gain amount g) c costs ∙ ap (λ b. cond b (above (amount c)) 0 + sum_by (gain amount g) costs) e in
        let losses : sum_by (loss amount g) (c ∷ costs) ≡ under (amount c) + sum_by (loss amount g) costs =
        sum_by-cons (loss amount g) c costs ∙ ap (λ b. cond b (under (amount c)) 0 + sum_by (loss amount g) costs) e in
        first ∙ rest (start +ℤ amount c)
        ∙ join start (amount c) (above (amount c)) (under (amount c)) (sum_by (gain amount g) costs) (sum_by (loss amount g) costs) (parts (amount c))
        ∙ (λ j. start +ℤ (pos (sym gains j) -ℤ pos (sym losses j)))
    by false e rest =
        let first : fold ◌+ℤ◌ start (map amount (costs_in g (c ∷ costs))) ≡ fold ◌+ℤ◌ start (map amount (costs_in g costs)) =
        ap (λ b. fold ◌+ℤ◌ start (map amount (cond b (c ∷ costs_in g costs) (costs_in g costs)))) e in
        let gains : sum_by (gain amount g) (c ∷ costs) ≡ sum_by (gain amount g) costs =
        sum_by-cons (gain amount g) c costs ∙ ap (λ b. cond b (above (amount c)) 0 + sum_by (gain amount g) costs) e ∙ zero-add (sum_by (gain amount g) costs) in
        let losses : sum_by (loss amount g) (c ∷ costs) ≡ sum_by (loss amount g) costs =
        sum_by-cons (loss amount g) c costs ∙ ap (λ b. cond b (under (amount c)) 0 + sum_by (loss amount g) costs) e ∙ zero-add (sum_by (loss amount g) costs) in
        first ∙ rest start ∙ (λ j. start +ℤ (pos (sym gains j) -ℤ pos (sym losses j)))

sum_in-IsPermutation : (amount : GroupCost → ℤ) (xs ys : List GroupCost) (g : List (List ℕ)) → IsPermutation xs ys → sum_in amount ys g ≡ sum_in amount xs g
unfolding sum_in
sum_in-IsPermutation amount xs ys g moved =
    sum_from amount g (pos 0) ys
    ∙ (λ j. pos 0 +ℤ (pos (sum_by-IsPermutation (gain amount g) xs ys moved j) -ℤ pos (sum_by-IsPermutation (loss amount g) xs ys moved j)))
    ∙ sym (sum_from amount g (pos 0) xs)

sums_of-IsPermutation : (xs ys : List GroupCost) (g : List (List ℕ)) → IsPermutation xs ys → sums_of ys g ≡ sums_of xs g
unfolding sums_of
sums_of-IsPermutation xs ys g moved = λ j. sums_when
    (sym (list_any-IsPermutation (is_same g) (groups_of xs) (groups_of ys) (IsPermutation-map (λ (c : GroupCost). c.group) xs ys moved)) j)
    (sum_in-IsPermutation (λ c. c.billed) xs ys g moved j) (sum_in-IsPermutation (λ c. c.effective) xs ys g moved j) (sum_in-IsPermutation (λ c. c.amount) xs ys g moved j)

-- what was counted in one order was counted in the other
pub AreSums-moved : (table : Table) (before xs ys : List GroupCost) → IsPermutation xs ys → AreSums table (before ++ xs) → AreSums table (before ++ ys)
AreSums-moved table before xs ys moved sums = record {
  sums = λ g. sums.sums g ∙ sym (sums_of-IsPermutation (before ++ xs) (before ++ ys) g (IsPermutation-append_right before xs ys moved));
}
