use Rattle.std.proofs.Common.{◌≡◌, ◌∙◌, length, replicate, ap}
use Rattle.fw_column_rows.proofs.FillFacts.{none_yet}
use Rattle.fw_column_rows.proofs.filling.Filling.new.Goals as goal

pub returns-clause-tags : goal.returns-clause-tags
returns-clause-tags c =
    let texts = c.trimmed-known.result in
    let zeros : c.in_ok-places.places.items ≡ replicate (length texts) 0 = c.in_ok-places.ensures.items_if_clones_equal (λ y e. e) ∙ ap (λ n. replicate n 0) c.len.ensures in
    rw (zeros, c.new.ensures) (none_yet texts)
