-- A row as an object of JSON.
use Rattle.std.specs.Prelude.{ℕ, List, [], ◌∷◌, ◌++◌, Option, Some, None, codes}
use Rattle.serde_json.specs.Data as json
use Rattle.serde_json.specs.Written.{compact_text}
use Rattle.fw_charge.specs.Tags.{TagText}
use Rattle.fw_allocated.specs.Cells.{column_names, tags_object}

-- a text as a string of JSON, quotes and all
abbrev pub quoted_text : List ℕ → List ℕ
quoted_text text = compact_text (json.string text)

-- a cell as a value of JSON
abbrev pub cell_data : Option (List ℕ) → json.Data
cell_data None = json.null
cell_data (Some text) = json.string text

-- each cell as a member under its name, and behind them these members
abbrev pub cell_members : List (List ℕ) → List (Option (List ℕ)) → json.Members → json.Members
cell_members [] cells last = last
cell_members (name ∷ names) [] last = last
cell_members (name ∷ names) (cell ∷ cells) last = json.member name (cell_data cell) (cell_members names cells last)

-- the tags as the last member
abbrev pub tags_member : List TagText → json.Members
tags_member tags = json.member (codes "Tags") (tags_object tags) json.no_members

-- the line of a row: an object that has its cells by their names, and its tags as an object, without a space
unfoldable pub json_row : List (Option (List ℕ)) → List TagText → List ℕ
json_row cells tags = compact_text (json.object (cell_members column_names cells (tags_member tags))) ++ 10 ∷ []
