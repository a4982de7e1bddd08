-- The part that is kept of a segment.
use Rattle.std.specs.Prelude.{◌≡◌, ◌+◌, ◌≤◌, true, List, [], ◌∷◌, None, Option, All, length, replicate}
use Rattle.fw_charge.specs.Charge.{Charge}
use Rattle.fw_posted.specs.Gone.{without_all}
use Rattle.fw_posted.specs.Kept.{kept_marks, kept_rows}
use Rattle.fw_posted.specs.Parts.{PartValue}
use Rattle.fw_posted.specs.declared.gone.Gone.{Gone}
use Rattle.fw_posted.specs.declared.part.Part.TheInside.{Inside}

-- what was made holds where nothing was withdrawn since
unfoldable pub kept_since : List Gone → Option (Option (List Charge)) → Option (Option (List Charge))
kept_since [] kept = kept
kept_since (g ∷ gone) kept = None

-- all rows count where nothing else is kept
abbrev pub part_value : Inside → PartValue
part_value p = record {
  start = p.start;
  marks = without_all p.gone (kept_marks (replicate p.len true) p.left);
  left = kept_since p.gone (kept_rows p.left);
}

-- there is a mark for each row, and the ranges are of these rows
pub record KeepsPart (p : Inside) : Type 0 where
  pub marks : length (kept_marks (replicate p.len true) p.left) ≡ p.len
  pub gone : All (λ g. g.from + g.count ≤ p.len) p.gone
