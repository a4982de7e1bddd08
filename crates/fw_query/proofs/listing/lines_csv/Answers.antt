use Rattle.std.proofs.Common.{◌≡◌, ◌+◌, ◌-◌, arith}
use Rattle.fw_query.proofs.listing.lines_csv.Goals as goal

pub returns-in-Ok-clause-text : goal.returns-in-Ok-clause-text
returns-in-Ok-clause-text c =
    let listing = c.in-Ok.ensures in
    let end : c.args.from + (c.args.to - c.args.from) ≡ c.args.to = omega arith in
    (listing.lines, rw (end, c.in_ok-shown.ensures, c.state.ensures) at listing.are_lines, listing.text_is)
