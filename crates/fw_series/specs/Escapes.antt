-- Texts of others within HTML.
use Rattle.std.specs.Prelude.{ℕ, Bool, ◌==◌, ◌||◌, List, [], ◌∷◌, codes, if◌then◌else◌}
use Rattle.std.specs.List.{flat_map}
use Rattle.fw_table.specs.Shown.{shown_text}

-- what stands for a byte of a text in HTML
unfoldable pub reference : ℕ → List ℕ
reference byte =
    if byte == 38 then codes "&amp;" else (if byte == 60 then codes "&lt;" else (if byte == 62 then codes "&gt;" else (if byte == 34 then codes "&quot;" else (if byte == 39 then codes "&#39;" else byte ∷ []))))

-- a text in HTML
abbrev pub escaped : List ℕ → List ℕ
escaped text = flat_map reference text

-- what a page has of a text: what is shown of it, in HTML
abbrev pub on_page : List ℕ → List ℕ
on_page text = escaped (shown_text text)

-- whether a byte begins or ends a tag, or ends a value in quotes
abbrev pub is_markup : ℕ → Bool
is_markup byte = byte == 60 || (byte == 62 || (byte == 34 || byte == 39))
