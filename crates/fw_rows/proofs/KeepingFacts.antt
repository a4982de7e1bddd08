-- What the texts of kept columns say of a record.
use Rattle.std.proofs.Common.{◌≡◌, ◌≢◌, ◌<◌, ℕ, List, [], ◌∷◌, ◌++◌, length, map, Option, Some, None, Result, Ok, Err, String, Global, string_bytes, refl, sym, ap, subst, ◌∙◌, inl, inr}
use Rattle.std.specs.Prelude.{All, Any, IsUtf8, MatchOption, OnOk, slice_index_or, unwrap_or}
use Rattle.fw_charge.specs.Charge.{Charge}
use Rattle.fw_charge.specs.Tags.{TagText}
use Rattle.fw_rules.specs.Table.{FirstBroken, NoneBroken}
use Rattle.fw_rows.specs.Columns.{Record, text_in}
use Rattle.fw_rows.specs.Judged.{JudgedWithin}
use Rattle.fw_rows.specs.Keeping.{AreFirsts, AreTheTags, HasKept, IsFound, Judged, KeptAs, Refuses, keep_places, texts_at}
use Rattle.fw_rows.specs.Keepers.{KeeperValue}
use Rattle.fw_rows.specs.Keeps.{KeepText}
use Rattle.fw_rows.specs.Kept.{AreKept, StatesKeyOf, StatesTags, StatesWith, kept_rules, kept_texts, tags_kept}
use Rattle.fw_rows.specs.Parts.{AreCells, texts_of}
use Rattle.fw_rows.specs.Rules.{Rule, Texts, form_rules, tags_stated, text_rules}
use Rattle.fw_rows.specs.Sinks.{AddsRow, with_text}
use Rattle.fw_rows.specs.declared.cells.Cells.{Cells}
use Rattle.fw_rows.specs.declared.column.Column.{Column}
use Rattle.fw_rows.specs.declared.column.Column.TheVariants as column
use Rattle.fw_rows.specs.declared.fault.RecordFault.{RecordFault}
use Rattle.fw_rows.specs.declared.fault.RecordFault.TheVariants as fault
use Rattle.fw_rows.specs.declared.fault.Refusal.{Refusal}
use Rattle.fw_rows.specs.declared.fault.Refusal.TheVariants as refusal
use Rattle.fw_rows.specs.declared.kept_tags.KeptTags.{KeptTags}
use Rattle.fw_rows.specs.declared.kept_tags.KeptTags.TheVariants as the_tags
use Rattle.fw_rows.specs.declared.kept_texts.Found.{Found}
use Rattle.fw_rows.specs.declared.kept_texts.Found.TheVariants as found
use Rattle.fw_rows.proofs.FirstFacts.{row_more}
use Rattle.fw_rows.proofs.JudgedFacts.{first-back, first-front, none-both}

-- the texts at the places of kept columns are the texts in these
pub texts_are : (keeps : List KeepText) (header fields : Record) → texts_at fields (keep_places keeps header) ≡ kept_texts keeps header fields
texts_are [] header fields = refl
texts_are (keep ∷ keeps) header fields = rw (texts_are keeps header fields) refl

none_bad : (texts : List (List ℕ)) → All IsUtf8 texts → ¬ Any (λ text. ¬ IsUtf8 text) texts
none_bad texts all any = any.4 (subst (λ t. IsUtf8 t) any.3 (all any.0 any.1 any.2))

-- the rules of a record's kept columns
abbrev kept_two : List KeepText → Record → Record → List (List ℕ) → List Rule
kept_two keeps header fields texts =
    (fault.NotUtf8, Any (λ text. ¬ IsUtf8 text) texts) ∷ (fault.TagTwice, StatesKeyOf (tags_kept keeps texts) (text_in header fields column.Tags)) ∷ []

form_none : (header fields : Record) (cells : Cells) → length fields ≡ length header → AreCells header fields cells → NoneBroken (form_rules header fields)
unfolding NoneBroken form_rules
form_none header fields cells as_long are = (λ other. other as_long, (are.all_text, tt))

-- a record that has too many fields or too few, or a field that isn't UTF-8
pub form_judged : (currency : List ℕ) (keeps : List KeepText) (header fields : Record) (old new : List Charge) (f : RecordFault) → FirstBroken (form_rules header fields) f
    → Judged currency keeps header fields old new (Err (refusal.Broken f))
unfolding kept_rules
form_judged currency keeps header fields old new f first = inl (first-front (form_rules header fields) _ f first)

broken_two : (keeps : List KeepText) (header fields : Record) (texts : List (List ℕ)) (f : RecordFault) → Refuses keeps (text_in header fields column.Tags) texts (refusal.Broken f)
    → FirstBroken (kept_two keeps header fields texts) f
unfolding FirstBroken
broken_two keeps header fields texts f (inl bad) = inl (bad.1, bad.0)
broken_two keeps header fields texts f (inr twice) = inr (none_bad texts twice.1, inl (twice.2, twice.0))

-- a record whose kept columns are refused
pub refused_judged : (currency : List ℕ) (keeps : List KeepText) (header fields : Record) (cells : Cells) (kept : List (Option ℕ)) (old new : List Charge) (why : Refusal)
    → length fields ≡ length header → AreCells header fields cells → kept ≡ keep_places keeps header → Refuses keeps (texts_of cells column.Tags) (texts_at fields kept) why
    → Judged currency keeps header fields old new (Err why)
unfolding kept_rules
refused_judged currency keeps header fields cells kept old new (refusal.Broken f) as_long are keep refuses =
    let texts : texts_at fields kept ≡ kept_texts keeps header fields = ap (texts_at fields) keep ∙ texts_are keeps header fields in
    let here = subst (λ t. Refuses keeps t (texts_at fields kept) (refusal.Broken f)) (are.texts column.Tags) refuses in
    let there = subst (λ ts. Refuses keeps (text_in header fields column.Tags) ts (refusal.Broken f)) texts here in
    inl (first-back (form_rules header fields) (kept_two keeps header fields (kept_texts keeps header fields)) f (form_none header fields cells as_long are)
    (broken_two keeps header fields (kept_texts keeps header fields) f there))
refused_judged currency keeps header fields cells kept old new refusal.NoMemory as_long are keep refuses = tt

-- only the text of tags is another
pub others_stay : (at : Texts) (text : List ℕ) (c : Column) → c ≢ column.Tags → with_text at text c ≡ at c
others_stay at text column.BilledCost other = refl
others_stay at text column.EffectiveCost other = refl
others_stay at text column.BillingCurrency other = refl
others_stay at text column.ChargeCategory other = refl
others_stay at text column.ChargePeriodStart other = refl
others_stay at text column.ChargePeriodEnd other = refl
others_stay at text column.ChargeClass other = refl
others_stay at text column.CommitmentDiscountId other = refl
others_stay at text column.CommitmentDiscountCategory other = refl
others_stay at text column.CommitmentDiscountStatus other = refl
others_stay at text column.ConsumedQuantity other = refl
others_stay at text column.ConsumedUnit other = refl
others_stay at text column.SkuId other = refl
others_stay at text column.SubAccountId other = refl
others_stay at text column.Tags other = absurd (other refl)

-- ---- a record whose kept columns break no rule

module _ (currency : List ℕ) (keeps : List KeepText) (header fields : Record) (cells : Cells) (kept : List (Option ℕ)) (old new : List Charge) (r : Result (Unit {0}) Refusal)
    (as_long : length fields ≡ length header) (are : AreCells header fields cells) (keep : kept ≡ keep_places keeps header) where
  same_texts : texts_at fields kept ≡ kept_texts keeps header fields
  same_texts = ap (texts_at fields) keep ∙ texts_are keeps header fields

  kept_judged : All IsUtf8 (texts_at fields kept) → ¬ StatesKeyOf (tags_kept keeps (texts_at fields kept)) (texts_of cells column.Tags)
      → (at : Texts) → ((c : Column) → c ≢ column.Tags → at c ≡ texts_of cells c) → StatesWith (tags_kept keeps (texts_at fields kept)) (texts_of cells column.Tags) (at column.Tags)
      → JudgedWithin (text_rules currency at) (λ _. AddsRow at old new) r → Judged currency keeps header fields old new r
  unfolding kept_rules NoneBroken
  kept_judged utf8 free at others with judged = by r judged
    where
      here_free : ¬ StatesKeyOf (tags_kept keeps (kept_texts keeps header fields)) (text_in header fields column.Tags)
      here_free = subst (λ t. ¬ StatesKeyOf (tags_kept keeps (kept_texts keeps header fields)) t) (are.texts column.Tags) (subst (λ ts. ¬ StatesKeyOf (tags_kept keeps ts) (texts_of cells column.Tags)) same_texts free)

      none : NoneBroken (form_rules header fields ++ kept_two keeps header fields (kept_texts keeps header fields))
      none = none-both (form_rules header fields) (kept_two keeps header fields (kept_texts keeps header fields)) (form_none header fields cells as_long are)
          (none_bad (kept_texts keeps header fields) (subst (λ ts. All IsUtf8 ts) same_texts utf8), (here_free, tt))

      are_kept : AreKept keeps header fields at
      are_kept = record {
        others = λ c other. others c other ∙ are.texts c;
        tags = subst (λ t. StatesWith (tags_kept keeps (kept_texts keeps header fields)) t (at column.Tags)) (are.texts column.Tags)
            (subst (λ ts. StatesWith (tags_kept keeps ts) (texts_of cells column.Tags) (at column.Tags)) same_texts with);
      }

      by : (r : Result (Unit {0}) Refusal) → JudgedWithin (text_rules currency at) (λ _. AddsRow at old new) r → Judged currency keeps header fields old new r
      by (Ok u) j = (none, at, are_kept, j.0, j.1)
      by (Err (refusal.Broken f)) j = inr (none, at, are_kept, j)
      by (Err refusal.NoMemory) j = tt

  -- its text of tags states none
  pub unstated_judged : (tags : List ℕ) → tags ≡ texts_of cells column.Tags → AreTheTags keeps tags (texts_at fields kept) the_tags.Unstated
      → JudgedWithin (text_rules currency (texts_of cells)) (λ _. AddsRow (texts_of cells) old new) r → Judged currency keeps header fields old new r
  unstated_judged tags is unstated judged =
      let never = subst (λ t. (stated : List TagText) → ¬ StatesTags t stated) is unstated.1 in
      kept_judged unstated.0 (λ twice. never twice.0 twice.1) (texts_of cells) (λ c other. refl) (inr (never, refl)) judged

  -- it is given the tags of all, which a text states
  pub given_judged : (tags : List ℕ) (all : List TagText) → tags ≡ texts_of cells column.Tags → KeptAs keeps tags (texts_at fields kept) all → (text : List ℕ) → tags_stated text ≡ Some all
      → JudgedWithin (text_rules currency (with_text (texts_of cells) text)) (λ _. AddsRow (with_text (texts_of cells) text) old new) r → Judged currency keeps header fields old new r
  given_judged tags all is kept_as text states judged =
      let here = subst (λ t. KeptAs keeps t (texts_at fields kept) all) is kept_as in
      kept_judged here.utf8 here.free (with_text (texts_of cells) text) (others_stay (texts_of cells) text) (inl (here.stated, here.states, states ∙ ap (λ ts. Some ts) here.with)) judged

-- ---- what was found

-- the row that is named has the tags of the record
pub named_has : (keeper now : KeeperValue) (firsts lent : List (Option ℕ)) (rows : List Charge) (texts : List ℕ × List (List ℕ)) (f : Found) (row : ℕ) → now ≡ keeper → lent ≡ firsts → IsFound now.texts texts f
    → (place : ℕ) × (f ≡ found.At place) × (slice_index_or lent place None ≡ Some row) → AreFirsts keeper.keeps keeper.texts firsts rows → HasKept keeper.keeps texts row rows
named_has keeper now firsts lent rows texts f row same alike is named are =
    let at = named.0 in
    let there : (at < length now.texts) × (slice_index_or now.texts at ([], []) ≡ texts) = subst (λ f. IsFound now.texts texts f) named.1 is in
    let text : slice_index_or keeper.texts at ([], []) ≡ texts = ap (λ (k : KeeperValue). slice_index_or k.texts at ([], [])) (sym same) ∙ there.1 in
    subst (λ ts. HasKept keeper.keeps ts row rows) text (are at row (ap (λ ps. slice_index_or ps at None) (sym alike) ∙ named.2)).1

-- the tags of the record
pub tags_found : (keeper now : KeeperValue) (tags : List ℕ) (lent values : List (String Global)) (texts : List (List ℕ)) (some other : KeptTags) → now ≡ keeper → lent ≡ values → map string_bytes values ≡ texts → some ≡ other
    → AreTheTags now.keeps tags (map string_bytes lent) some → AreTheTags keeper.keeps tags texts other
tags_found keeper now tags lent values texts some other same alike are is found =
    subst (λ k. AreTheTags keeper.keeps tags texts k) is
    (subst (λ ts. AreTheTags keeper.keeps tags ts some) (ap (map string_bytes) alike ∙ are)
    (subst (λ (k : KeeperValue). AreTheTags k.keeps tags (map string_bytes lent) some) same found))

-- where a row was added, those that are named stay
pub named_stay : (currency : List ℕ) (at : Texts) (keeper now : KeeperValue) (firsts : List (Option ℕ)) (old new : List Charge) (r : Result (Unit {0}) Refusal) → now ≡ keeper
    → JudgedWithin (text_rules currency at) (λ _. AddsRow at old new) r → AreFirsts keeper.keeps keeper.texts firsts old → OnOk r (AreFirsts keeper.keeps now.texts firsts new)
named_stay currency at keeper now firsts old new (Ok u) same judged are =
    let added = judged.1 in
    subst (λ (k : KeeperValue). AreFirsts keeper.keeps k.texts firsts new) (sym same) (row_more keeper.keeps keeper.texts firsts old new added.0 added.2 are)
named_stay currency at keeper now firsts old new (Err e) same judged are = tt

-- the row that was added has the tags that its text states
pub added_tags : (at : Texts) (all : List TagText) (old new : List Charge) → tags_stated (at column.Tags) ≡ Some all → AddsRow at old new → (row : Charge) × (row.tags ≡ all) × (new ≡ old ++ row ∷ [])
added_tags at all old new states added =
    let same : added.0.tags ≡ all = ap (λ o. unwrap_or o all) (sym added.1.tags ∙ states) in (added.0, same, added.2)

-- why a record is refused
pub refused_found : (keeper now : KeeperValue) (tags : List ℕ) (lent values : List (String Global)) (texts : List (List ℕ)) (why : Refusal) → now ≡ keeper → lent ≡ values → map string_bytes values ≡ texts
    → Refuses now.keeps tags (map string_bytes lent) why → Refuses keeper.keeps tags texts why
refused_found keeper now tags lent values texts why same alike are refuses =
    subst (λ ts. Refuses keeper.keeps tags ts why) (ap (map string_bytes) alike ∙ are) (subst (λ (k : KeeperValue). Refuses k.keeps tags (map string_bytes lent) why) same refuses)

-- what is said of no value
pub none_of : {X A : Type 0} (B : X → Type 0) (o : Option X) → ((x : X) → o ≡ Some x → ⊥) → MatchOption o A B → A
none_of B None none is = is
none_of B (Some x) none is = absurd (none x refl)
