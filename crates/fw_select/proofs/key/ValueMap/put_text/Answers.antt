use Rattle.std.proofs.Common.{◌≡◌, ◌∙◌, ◌==◌, false, length, sym}
use Rattle.fw_select.proofs.key.ValueMap.put_text.Goals as goal

pub returns : goal.returns
returns c =
    let some : (length c.args.plain.now == 0) ≡ false = sym c.is_empty.ensures ∙ c.if-is_empty.false in
    rw some c.in_ok-put_other.ensures
