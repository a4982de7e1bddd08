use Rattle.std.proofs.Common.{◌∙◌, sym, ap, length, map, slice_get, arith}
use Rattle.fw_snapshot.specs.Heads.{head_of}
use Rattle.fw_snapshot.proofs.Following.{kept_length, kept_heads}
use Rattle.fw_snapshot.proofs.state.State.head.Goals as goal

pub get-requires : goal.get-requires
get-requires c =
    let count = kept_length c.self.inside c.self.invariant ∙ ap (λ h. length h.entries) c.self.view_is in
    let within = c.requires in
    omega arith

pub returns : goal.returns
returns c =
    let heads = kept_heads c.self.inside c.self.invariant ∙ ap (λ h. map head_of h.entries) c.self.view_is in
    ap (λ hs. slice_get hs c.args.place) (sym heads) ∙ c.get.ensures
