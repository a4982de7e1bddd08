-- What id, kind and status of a commitment discount read as.
use Rattle.std.proofs.Common.{◌≡◌, ◌≢◌, ℕ, List, [], Option, Some, None, sym, ◌∙◌}
use Rattle.fw_charge.specs.Codes.{category_word, kind_word, status_word}
use Rattle.fw_charge.specs.declared.category.Category.TheVariants as category
use Rattle.fw_charge.specs.declared.discount.DiscountKind.{DiscountKind}
use Rattle.fw_charge.specs.declared.discount.DiscountStatus.{DiscountStatus}
use Rattle.fw_charge.specs.declared.discount.DiscountStatus.TheVariants as word
use Rattle.fw_rows.specs.Rules.{KindReads, StatusReads}

-- a kind without an id
pub kind_alone : (id kind : List ℕ) → id ≡ [] → kind ≢ [] → (k : Option DiscountKind) → ¬ KindReads id kind k
unfolding KindReads
kind_alone id kind null some None h = some h.1
kind_alone id kind null some (Some k) h = h.0 null

-- an id without the word of a kind
pub kind_unread : (id kind : List ℕ) → id ≢ [] → ((k : DiscountKind) → ¬ (kind ≡ kind_word k)) → (k : Option DiscountKind) → ¬ KindReads id kind k
unfolding KindReads
kind_unread id kind some other None h = some h.0
kind_unread id kind some other (Some k) h = other k h.1

-- a status without an id
pub status_alone : (used id status : List ℕ) → id ≡ [] → status ≢ [] → (s : Option DiscountStatus) → ¬ StatusReads used id status s
unfolding StatusReads
status_alone used id status null some None h = some h.0
status_alone used id status null some (Some s) h = h.0 null

-- no status in a usage row with an id
pub status_missing : (used id status : List ℕ) → id ≢ [] → status ≡ [] → used ≡ category_word category.Usage → (s : Option DiscountStatus) → ¬ StatusReads used id status s
unfolding StatusReads status_word
status_missing used id status some null usage None h = h.1 some usage
status_missing used id status some null usage (Some word.Used) h = let both = sym null ∙ h.1 in absurd (cc)
status_missing used id status some null usage (Some word.Unused) h = let both = sym null ∙ h.1 in absurd (cc)

-- a status that is none of the words
pub status_unread : (used id status : List ℕ) → status ≢ [] → ((s : DiscountStatus) → ¬ (status ≡ status_word s)) → (s : Option DiscountStatus) → ¬ StatusReads used id status s
unfolding StatusReads
status_unread used id status some other None h = some h.0
status_unread used id status some other (Some s) h = other s h.1
