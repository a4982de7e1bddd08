-- The kinds of values, as the readers of `toml` return them.
use Rattle.std.proofs.Common.{◌≡◌, ℕ, ℤ, List, Option, Some, None, Bor, sym, ◌∙◌, ap}
use Rattle.std.specs.Prelude.{MatchOption, option_copied}
use Rattle.toml.specs.Data.{Data, Items, Members, string, integer, float, boolean, datetime, array, table, as_str, as_integer, as_array, as_table}
use Rattle.fw_toml.specs.Tree.{IsThere, IsText, IsInteger, IsTableOf, IsArrayOf, Anything}

pub text_is : (d : Data) (t : List ℕ) → as_str d ≡ Some t → d ≡ string t
text_is (string s) t e = let same : s ≡ t = cc in ap string same
text_is (integer z) t e = absurd (cc)
text_is (float x) t e = absurd (cc)
text_is (boolean b) t e = absurd (cc)
text_is (datetime dt) t e = absurd (cc)
text_is (array ds) t e = absurd (cc)
text_is (table ms) t e = absurd (cc)

pub no_text : (d : Data) → as_str d ≡ None → ¬ IsText Anything d
unfolding IsText
no_text d e h = let as_text : as_str (string h.0) ≡ None = rw h.1 at e in absurd (cc)

pub integer_is : (d : Data) (z : ℤ) → as_integer d ≡ Some z → d ≡ integer z
integer_is (string s) z e = absurd (cc)
integer_is (integer w) z e = let same : w ≡ z = cc in ap integer same
integer_is (float x) z e = absurd (cc)
integer_is (boolean b) z e = absurd (cc)
integer_is (datetime dt) z e = absurd (cc)
integer_is (array ds) z e = absurd (cc)
integer_is (table ms) z e = absurd (cc)

pub no_integer : (d : Data) → as_integer d ≡ None → ¬ IsInteger Anything d
unfolding IsInteger
no_integer d e h = let as_int : as_integer (integer h.0) ≡ None = rw h.1 at e in absurd (cc)

pub array_is : (d : Data) (es : Items) → as_array d ≡ Some es → d ≡ array es
array_is (string s) es e = absurd (cc)
array_is (integer w) es e = absurd (cc)
array_is (float x) es e = absurd (cc)
array_is (boolean b) es e = absurd (cc)
array_is (datetime dt) es e = absurd (cc)
array_is (array ds) es e = let same : ds ≡ es = cc in ap array same
array_is (table ms) es e = absurd (cc)

pub no_array : (P : List Data → Type 0) (d : Data) → as_array d ≡ None → ¬ IsArrayOf P d
unfolding IsArrayOf
no_array P d e h = let as_arr : as_array (array h.0) ≡ None = rw h.1 at e in absurd (cc)

pub table_is : (d : Data) (ns : Members) → as_table d ≡ Some ns → d ≡ table ns
table_is (string s) ns e = absurd (cc)
table_is (integer w) ns e = absurd (cc)
table_is (float x) ns e = absurd (cc)
table_is (boolean b) ns e = absurd (cc)
table_is (datetime dt) ns e = absurd (cc)
table_is (array ds) ns e = absurd (cc)
table_is (table ms) ns e = let same : ms ≡ ns = cc in ap table same

pub no_table : (P : Members → Type 0) (d : Data) → as_table d ≡ None → ¬ IsTableOf P d
unfolding IsTableOf
no_table P d e h = let as_tab : as_table (table h.0) ≡ None = rw h.1 at e in absurd (cc)

-- what an accessor lends is of its kind, and where it lends nothing the value is of another
pub text-kind : (d : Data) (r : Option (Bor (List ℕ))) → option_copied r ≡ as_str d → MatchOption r (¬ IsText Anything d) (λ t. d ≡ string t.now)
text-kind d None e = no_text d (sym e)
text-kind d (Some t) e = text_is d t.now (sym e)

pub integer-kind : (d : Data) (r : Option ℤ) → r ≡ as_integer d → MatchOption r (¬ IsInteger Anything d) (λ z. d ≡ integer z)
integer-kind d None e = no_integer d (sym e)
integer-kind d (Some z) e = integer_is d z (sym e)

-- the same of the value under a name
pub text-there : (o : Option Data) (d : Data) (r : Option (Bor (List ℕ))) → o ≡ Some d → MatchOption r (¬ IsText Anything d) (λ t. d ≡ string t.now) → MatchOption r (¬ IsThere o (IsText Anything)) (λ t. o ≡ Some (string t.now))
unfolding IsThere
text-there o d None e k = rw e k
text-there o d (Some t) e k = e ∙ ap Some k

pub integer-there : (o : Option Data) (d : Data) (r : Option ℤ) → o ≡ Some d → MatchOption r (¬ IsInteger Anything d) (λ z. d ≡ integer z) → MatchOption r (¬ IsThere o (IsInteger Anything)) (λ z. o ≡ Some (integer z))
unfolding IsThere
integer-there o d None e k = rw e k
integer-there o d (Some z) e k = e ∙ ap Some k
