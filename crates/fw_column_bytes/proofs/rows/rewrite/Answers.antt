use Rattle.std.proofs.Common.{◌≤◌, ℕ, List, sym, subst}
use Rattle.std.specs.Prelude.{All}
use Rattle.std.proofs.lemmas.Bool.{leb-true}
use Rattle.std.proofs.lemmas.List.Elements.{All-from_recursion}
use Rattle.fw_charge.specs.Charge.{last_second}
use Rattle.fw_charge.specs.Spelling.{FitsSecond}
use Rattle.fw_column_bytes.proofs.rows.rewrite.Goals as goal

pub signed_of-requires : goal.signed_of-requires
signed_of-requires c =
    let starts = c.args.parts.now.body.periods.starts.items in
    let AreEarly : List ℕ → Type 0 = λ xs. All (λ second. second ≤ last_second) xs in
    let early : AreEarly starts = λ k d lt. leb-true _ _ (All-from_recursion FitsSecond starts c.requires.1.1.0.0.1 k d lt).1 in
    subst AreEarly (sym c.as_slice-2.ensures.value) early
