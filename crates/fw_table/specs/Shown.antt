-- Texts of others as a terminal may show them.
use Rattle.std.specs.Prelude.{ℕ, Bool, ◌==◌, ◌||◌, ◌&&◌, not, nat_lt, nat_le, List, [], ◌∷◌, encode_utf8_all, if◌then◌else◌}
use Rattle.std.specs.Char.Escape.{escape_unicode}
use Rattle.std.specs.List.{flat_map}
use Rattle.std.specs.Str.{chars, NoCharPasses}

abbrev pub is_between : ℕ → ℕ → ℕ → Bool
is_between low high c = nat_le low c && nat_le c high

-- whether a character acts on a terminal instead of being shown: a control character, one that ends a line or a paragraph, or one that turns
-- the direction of a text
unfoldable pub is_acting : ℕ → Bool
is_acting c =
    nat_lt c 32
    || (is_between 127 159 c || (c == 1564 || (is_between 8206 8207 c || (is_between 8232 8238 c || is_between 8294 8297 c))))

-- the same within a text of several lines, whose line feeds are its own
unfoldable pub is_acting_in_lines : ℕ → Bool
is_acting_in_lines c = not (c == 10) && is_acting c

-- a text of several lines without a character that acts otherwise
unfoldable pub AreShownLines : List ℕ → Type 0
AreShownLines text = NoCharPasses is_acting_in_lines text

-- what stands for a character: its code where it acts, as `\u{1b}`, or else itself
unfoldable pub shown : ℕ → List ℕ
shown c = if is_acting c then escape_unicode c else c ∷ []

-- a text as it is shown
unfoldable pub shown_text : List ℕ → List ℕ
shown_text text = encode_utf8_all (flat_map shown (chars text))
