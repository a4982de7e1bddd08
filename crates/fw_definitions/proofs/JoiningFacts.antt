-- Segments are joined in runs that are as long as can be.
use Rattle.std.proofs.Common.{◌≡◌, ◌∙◌, ◌+◌, ◌<◌, ◌≤◌, List, [], ◌∷◌, ◌++◌, length, map, nat_le, refl, sym, ap, subst, arith, append_assoc, append-nil, length-append}
use Rattle.std.specs.List.{flat_map}
use Rattle.std.proofs.lemmas.Bool.{leb-true, leb-false}
use Rattle.fw_charge.specs.Charge.{Charge}
use Rattle.fw_posted.specs.Rows.{segment_rows}
use Rattle.fw_posted.specs.Merging.{merged, merged_from}
use Rattle.fw_posted.proofs.MergeFacts.{two_ways}
use Rattle.fw_row_table.specs.Table.{most_column_rows}
use Rattle.fw_definitions.specs.Joining.{AreJoined, AreLongest, IsRun, Run, first_segment}

rows_more : (run : Run) (s : List Charge) → segment_rows (run ++ s ∷ []) ≡ segment_rows run ++ s
rows_more [] s = append-nil s
rows_more (x ∷ run) s = ap (λ (l : List Charge). x ++ l) (rows_more run s) ∙ sym (append_assoc x (segment_rows run) s)

first_more : (run : Run) (s : List Charge) → 0 < length run → first_segment (run ++ s ∷ []) ≡ first_segment run
first_more [] s some = absurd (omega (arith, some))
first_more (x ∷ run) s some = refl

is_more : (run : Run) (s : List Charge) → 0 < length run → length (segment_rows run) + length s ≤ most_column_rows → IsRun (run ++ s ∷ [])
is_more run s some fits = (
  omega (arith, length-append run (s ∷ [])),
  λ more. omega (arith, fits, ap (λ (l : List Charge). length l) (rows_more run s), length-append (segment_rows run) s),
)

one_run : (s : List Charge) → IsRun (s ∷ [])
one_run s = (omega arith, λ more. absurd (omega (arith, more)))

-- a run with the segments that are joined to it, and the runs behind it
record RunsFrom (run : Run) (rest : List (List Charge)) : Type 0 where
  longer : Run
  runs : List Run
  begins : first_segment longer ≡ first_segment run
  cut : run ++ rest ≡ longer ++ flat_map (λ r. r) runs
  is : merged_from (segment_rows run) rest ≡ segment_rows longer ∷ map segment_rows runs
  longest : AreLongest (longer ∷ runs)

runs_from : (run : Run) (rest : List (List Charge)) → IsRun run → RunsFrom run rest
unfolding merged_from
runs_from run [] is_run = record { longer = run; runs = []; begins = refl; cut = refl; is = refl; longest = is_run }
runs_from run (s ∷ rest) is_run = two_ways (nat_le (length (segment_rows run) + length s) most_column_rows)
    (λ fits.
    let more = runs_from (run ++ s ∷ []) rest (is_more run s is_run.0 (leb-true _ _ fits)) in
    record {
      longer = more.longer;
      runs = more.runs;
      begins = more.begins ∙ first_more run s is_run.0;
      cut = sym (append_assoc run (s ∷ []) rest) ∙ more.cut;
      is = rw fits (subst (λ (rows : List Charge). merged_from rows rest ≡ segment_rows more.longer ∷ map segment_rows more.runs) (rows_more run s) more.is);
      longest = more.longest;
    })
    (λ over.
    let more = runs_from (s ∷ []) rest (one_run s) in
    let past : most_column_rows < length (segment_rows run) + length (first_segment more.longer) =
    omega (arith, leb-false _ _ over, ap (λ (l : List Charge). length l) more.begins) in
    record {
      longer = run;
      runs = more.longer ∷ more.runs;
      begins = refl;
      cut = ap (λ (l : List (List Charge)). run ++ l) more.cut;
      is = rw over (ap (λ (l : List (List Charge)). segment_rows run ∷ l)
          (subst (λ (rows : List Charge). merged_from rows rest ≡ segment_rows more.longer ∷ map segment_rows more.runs) (append-nil s) more.is));
      longest = (is_run, past, more.longest);
    })

pub joined : (segments : List (List Charge)) → AreJoined segments (merged segments)
unfolding merged
joined [] = record { runs = []; cut = refl; is = refl; longest = tt }
joined (s ∷ rest) =
    let from = runs_from (s ∷ []) rest (one_run s) in
    record {
      runs = from.longer ∷ from.runs;
      cut = from.cut;
      is = subst (λ (rows : List Charge). merged_from rows rest ≡ segment_rows from.longer ∷ map segment_rows from.runs) (append-nil s) from.is;
      longest = from.longest;
    }
