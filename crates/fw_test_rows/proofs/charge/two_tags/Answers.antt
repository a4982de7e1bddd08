use Rattle.std.proofs.Common.{ℕ, zero, suc, [], ◌∷◌, refl, arith}
use Rattle.std.specs.Prelude.{codes, slice_index_or, ◌<◌}
use Rattle.std.specs.List.Sorted.{IsStrictlySortedBy}
use Rattle.fw_charge.specs.Tags.{TagText, IsTagSized, IsTags}
use Rattle.fw_test_rows.proofs.charge.two_tags.Goals as goal

app : TagText
app = record { key = codes "app"; value = codes "web" }

team : TagText
team = record { key = codes "team"; value = [] }

two : IsTags (app ∷ team ∷ [])
unfolding IsStrictlySortedBy app team
two = record { rising = ((refl, tt), (tt, tt)); few = omega arith; sized = each }
  where
    each : (k : ℕ) (d : TagText) → k < 2 → IsTagSized (slice_index_or (app ∷ team ∷ []) k d)
    each zero d lt = record { key = omega arith; value = omega arith }
    each (suc zero) d lt = record { key = omega arith; value = omega arith }
    each (suc (suc k)) d lt = absurd (omega arith)

-- src/tests.rt:28:8
pub of_fields-requires : goal.of_fields-requires
unfolding app team
of_fields-requires c = rw (c.in_ok-push-2.ensures.items, c.in_ok-push.ensures.items, c.new-items.ensures.items, c.in_ok-tag-2.ensures, c.in_ok-tag.ensures) two
