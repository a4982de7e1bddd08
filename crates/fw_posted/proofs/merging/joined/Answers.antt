use Rattle.std.proofs.Common.{◌∙◌, ap, arith, length, sym}
use Rattle.std.proofs.lemmas.List.Folds.{flat_map-map}
use Rattle.fw_posted.proofs.merging.joined.Goals as goal

pub concat_all-requires-clause-few : goal.concat_all-requires-clause-few
concat_all-requires-clause-few c =
    let segments = c.args.segments.now in
    let size = ap length (flat_map-map (λ rows. rows) (λ s. s.now) segments) in
    omega (arith, size, c.requires.few)

pub returns : goal.returns
returns c = c.in_ok-one.ensures ∙ sym (flat_map-map (λ rows. rows) (λ s. s.now) c.args.segments.now)
