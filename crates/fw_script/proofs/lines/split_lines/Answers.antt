use Rattle.fw_script.proofs.LinesLaws.{StartsWithLines-cut}
use Rattle.fw_script.proofs.lines.split_lines.Goals as goal

pub slice_bounds-lines-count : goal.slice_bounds-lines-count
slice_bounds-lines-count c = (StartsWithLines-cut c.args.count c.args.text.now c.in_ok-following.following.now c.in_ok-following.ensures).0

pub returns : goal.returns
returns c = (StartsWithLines-cut c.args.count c.args.text.now c.in_ok-following.following.now c.in_ok-following.ensures).1
