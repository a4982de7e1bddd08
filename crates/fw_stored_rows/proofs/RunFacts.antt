-- Lists of tags that are known to be equal while the rows of two columns are compared.
use Rattle.std.proofs.Common.{◌≡◌, ◌∙◌, ◌+◌, ◌==◌, ℕ, List, [], cond, sym, ap, subst, arith, inl, inr}
use Rattle.std.specs.Prelude.{Some, slice_index_or}
use Rattle.std.proofs.lemmas.Bool.{cases_Bool, eqb-true}
use Rattle.std.proofs.lemmas.Option.{same_Some}
use Rattle.fw_charge.specs.Charge.{Charge}
use Rattle.fw_columns.proofs.KeptFacts.{list_of_row}
use Rattle.fw_row_table.specs.Lists.{tag_places}
use Rattle.fw_row_table.specs.Table.{tags_of}
use Rattle.fw_row_table.specs.Texts.{names_of}
use Rattle.fw_stored_rows.specs.Runs.{AreKnown, AreSameLists, HasList, IsNoted}

-- rows whose tags are kept as one list have the same tags
same_list : (rows : List Charge) (code i j : ℕ) (x y : Charge) → HasList rows code i x → HasList rows code j y → x.tags ≡ y.tags
same_list rows code i j x y has also =
    let names = names_of rows in
    let kept = list_of_row rows i x has.there in
    let read = list_of_row rows j y also.there in
    let both : Some (tag_places names x.tags) ≡ Some (tag_places names y.tags) = sym kept.0 ∙ sym has.list ∙ also.list ∙ read.0 in
    let lists : tag_places names x.tags ≡ tag_places names y.tags = same_Some (tag_places names x.tags) (tag_places names y.tags) both in
    sym kept.1 ∙ ap (tags_of names) lists ∙ read.1

-- two rows with the same tags show it of their lists
pub same_lists : (one other : List Charge) (own code i j : ℕ) (x y : Charge) → HasList one own i x → HasList other code j y → x.tags ≡ y.tags → AreSameLists one other own code
same_lists one other own code i j x y has also same = λ p q v w mine theirs.
    same_list one own p i v x mine has ∙ same ∙ same_list other code j q y w also theirs

-- at first nothing is known
pub known_none : (one other : List Charge) → AreKnown [] one other
known_none one other = λ code own is. absurd (omega (arith, is))

-- two lists more are known to be equal
pub known_more : (old new : List ℕ) (one other : List Charge) (own code : ℕ) → AreKnown old one other → AreSameLists one other own code → IsNoted old new code (own + 1) → AreKnown new one other
known_more old new one other own code known same (inl is) = subst (λ l. AreKnown l one other) (sym is) known
known_more old new one other own code known same (inr noted) = λ c o is.
    elim (cases_Bool (c == code)) [
      | inl e ↦
          let at : slice_index_or new c 0 ≡ own + 1 = noted c ∙ ap (λ b. cond b (own + 1) (slice_index_or old c 0)) e in
          let list : own ≡ o = omega (arith, at, is) in
          subst (λ n. AreSameLists one other n c) list (subst (AreSameLists one other own) (sym (eqb-true c code e)) same)
      | inr e ↦
          let at : slice_index_or new c 0 ≡ slice_index_or old c 0 = noted c ∙ ap (λ b. cond b (own + 1) (slice_index_or old c 0)) e in
          known c o (sym at ∙ is)
    ]
