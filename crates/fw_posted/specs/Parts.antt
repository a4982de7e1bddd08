-- What stands beside each segment: which of its rows count.
use Rattle.std.specs.Prelude.{◌≡◌, ◌<◌, ◌+◌, ⊤, ℕ, Bool, List, [], ◌∷◌, Option, IfSome, length, unwrap_or}
use Rattle.std.specs.List.{flat_map}
use Rattle.fw_charge.specs.Charge.{Charge}
use Rattle.fw_posted.specs.Marks.{selected}

-- how many rows stand before the segment, for each of its rows whether it counts, and, if they are made, those that count: the segment's own, or these
pub record PartValue : Type 0 where
  pub start : ℕ
  pub marks : List Bool
  pub left : Option (Option (List Charge))

-- the marks of all rows, in order
abbrev pub all_marks : List PartValue → List Bool
all_marks parts = flat_map (λ part. part.marks) parts

-- what is made of the rows that count is all of them
abbrev pub HasLeft : PartValue → List Charge → Type 0
HasLeft part rows = IfSome part.left (λ left. unwrap_or left rows ≡ selected part.marks rows)

-- the part says of each of these rows whether it counts, and what it has made is right. There is one row at least
pub record IsPartOf (part : PartValue) (rows : List Charge) : Type 0 where
  pub some : 0 < length rows
  pub marks : length part.marks ≡ length rows
  pub counting : HasLeft part rows

-- there is a part for each segment, where so many rows stand before the first one
unfoldable pub AreParts : ℕ → List PartValue → List (List Charge) → Type 0
AreParts before [] [] = ⊤
AreParts before [] (rows ∷ segments) = ⊥
AreParts before (part ∷ parts) [] = ⊥
AreParts before (part ∷ parts) (rows ∷ segments) = (part.start ≡ before) × IsPartOf part rows × AreParts (before + length rows) parts segments
