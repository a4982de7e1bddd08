-- The lines of a commitment's shares and purchases are known by what their text has, where no row carries its id.
use Rattle.std.proofs.Common.{◌≡◌, ◌∙◌, ℕ, Bool, true, false, ◌&&◌, pos, List, [], ◌∷◌, All, Option, Some, None, filter, refl, sym, ap}
use Rattle.std.specs.Prelude.{is_some}
use Rattle.std.specs.Option.{option_map_or}
use Rattle.std.specs.Str.{bytes_eq}
use Rattle.std.proofs.lemmas.List.Elements.{All-head, All-tail}
use Rattle.fw_charge.specs.Charge.{Charge, DiscountText}
use Rattle.fw_charge.specs.declared.category.Category.TheVariants as category
use Rattle.fw_terms.specs.Commitment.{CommitmentValue}
use Rattle.fw_amortise.specs.Carrying.{carried, cost_of_all, has_id, is_share_of, names_share_of}
use Rattle.fw_amortise.specs.LineValue.{LineValue}
use Rattle.fw_amortise.specs.Lines.{purchase_line, given_line, used_line, unused_line, rest_line, AreLines}
use Rattle.fw_amortise.proofs.EachLine.{HoldsOfEach, lines_each}

-- the row doesn't carry the id
abbrev pub IsFree : List ℕ → Charge → Type 0
IsFree id row = has_id id row.discount ≡ false

and_false : (b : Bool) → (b && false) ≡ false
and_false true = refl
and_false false = refl

and_true : (b : Bool) → (b && true) ≡ b
and_true true = refl
and_true false = refl

free_names_none : (id : List ℕ) (discount : Option DiscountText) → has_id id discount ≡ false → option_map_or (λ d. bytes_eq d.id id && is_some d.status) discount false ≡ false
free_names_none id None free = refl
free_names_none id (Some d) free = rw free refl

-- ---- shares
abbrev IsKnown : List ℕ → LineValue → Type 0
IsKnown id line = names_share_of id line ≡ is_share_of id line

each_known : (id : List ℕ) (hour : ℕ) → HoldsOfEach (IsKnown id) (IsFree id) hour
unfolding names_share_of is_share_of purchase_line given_line used_line unused_line rest_line
each_known id hour = record {
  purchase = λ c p. and_false (bytes_eq c.id id);
  given = λ row free. free_names_none id row.discount free;
  used = λ c rows t share. and_true (bytes_eq c.id id);
  unused = λ c share. and_true (bytes_eq c.id id);
  rest = λ row u free. free_names_none id row.discount free;
}

pub filter_same : {X : Type 0} (p q : X → Bool) (xs : List X) → All (λ x. p x ≡ q x) xs → filter p xs ≡ filter q xs
filter_same p q [] all = refl
filter_same {X} p q (x ∷ xs) all =
    let P : X → Type 0 = λ x. p x ≡ q x in
    let here : p x ≡ q x = All-head P x xs all in
    let rest : filter p xs ≡ filter q xs = filter_same p q xs (All-tail P x xs all) in
    rw (here, rest) refl

-- what the lines that name the commitment and a status cost is what its shares cost
pub named_carried : (id : List ℕ) (cs : List CommitmentValue) (rows : List Charge) (hour : ℕ) (lines : List LineValue) → All (IsFree id) rows → AreLines cs rows hour lines
    → cost_of_all (filter (names_share_of id) lines) ≡ carried id lines
unfolding carried
named_carried id cs rows hour lines free are =
    ap cost_of_all (filter_same (names_share_of id) (is_share_of id) lines (lines_each (IsKnown id) (IsFree id) cs rows hour lines (each_known id hour) free are))

-- ---- purchases
-- a line of a purchase of the commitment has no effective cost
abbrev pub CostsNothing : List ℕ → LineValue → Type 0
CostsNothing id line = line.category ≡ category.Purchase → has_id id line.commitment ≡ true → line.effective ≡ pos 0

each_costs_nothing : (id : List ℕ) (hour : ℕ) → HoldsOfEach (CostsNothing id) (IsFree id) hour
unfolding purchase_line given_line used_line unused_line rest_line
each_costs_nothing id hour = record {
  purchase = λ c p paid named. refl;
  given = λ row free paid named. let clash : true ≡ false = sym named ∙ free in absurd (cc);
  used = λ c rows t share paid named. absurd (cc);
  unused = λ c share paid named. absurd (cc);
  rest = λ row u free paid named. let clash : true ≡ false = sym named ∙ free in absurd (cc);
}

pub purchases_of_id : (id : List ℕ) (cs : List CommitmentValue) (rows : List Charge) (hour : ℕ) (lines : List LineValue) → All (IsFree id) rows → AreLines cs rows hour lines → All (CostsNothing id) lines
purchases_of_id id cs rows hour lines free are = lines_each (CostsNothing id) (IsFree id) cs rows hour lines (each_costs_nothing id hour) free are
