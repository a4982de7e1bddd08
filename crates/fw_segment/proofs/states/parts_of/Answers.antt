use Rattle.std.proofs.Common.{rules, ◌≡◌, Ok, map, arith}
use Rattle.std.proofs.lemmas.List.Elements.{All-from_recursion, All-weaker}
use Rattle.fw_segment.specs.HeadView.{head_view}
use Rattle.fw_segment.specs.Heads.{IsHead, heads_at}
use Rattle.fw_segment.proofs.HeadFormat.{FitsHead, heads_format}
use Rattle.fw_segment.proofs.StateFormat.{currency_format}
use Rattle.fw_segment.proofs.states.parts_of.Goals as goal

pub returns-in-Ok-segments_of-clause-heads : goal.returns-in-Ok-segments_of-clause-heads
returns-in-Ok-segments_of-clause-heads c =
    let heads = c.in_ok-heads-in-Ok.heads in
    let read : heads_at c.args.form c.in-Ok.rest.now ≡ Ok (map head_view heads.items, c.in_ok-heads-in-Ok.rest.now) = search rules in
    let behind = (currency_format.takes c.args.bytes.now (c.in-Ok.currency, c.in-Ok.rest.now) (λ i. omega (arith, c.type_inv.bytes i)) c.in-Ok.ensures).0 in
    let fit = All-from_recursion (FitsHead c.args.form) (map head_view heads.items) ((heads_format c.args.form).takes c.in-Ok.rest.now (map head_view heads.items, c.in_ok-heads-in-Ok.rest.now) behind.rest_fits read).1.1 in
    All-weaker (FitsHead c.args.form) IsHead (λ head fits. fits.0) (map head_view heads.items) fit
