use Rattle.std.proofs.Common.{◌≡◌, ◌+◌, ◌-◌, ◌∙◌, drop, take, length, sym, ap, arith, refl}
use Rattle.std.specs.Int.{w64, from_le_bytes}
use Rattle.std.proofs.lemmas.Bool.{le-ltb}
use Rattle.std.proofs.lemmas.List.{drop-drop, length-drop}
use Rattle.fw_column_bytes.proofs.whole.wide_at.Goals as goal

pub returns : goal.returns
returns c =
    let bytes = c.args.bytes.now in
    let at = c.args.at in
    let size : at + 8 - at ≡ 8 = omega arith in
    let value : c.from_le_bytes.result ≡ from_le_bytes w64 (take 8 (drop at bytes)) = c.from_le_bytes.ensures ∙ ap (λ n. from_le_bytes w64 (take n (drop at bytes))) size in
    rw (le-ltb (length (drop at bytes)) 8 (omega (arith, length-drop at bytes, c.requires)), sym value, drop-drop 8 at bytes) refl
