use Rattle.std.proofs.Common.{rules, ◌≡◌, ◌<◌, ◌^◌, arith}
use Rattle.std.proofs.lemmas.Fmt.{IsAscii-decimal}
use Rattle.std.specs.Fmt.{decimal}
use Rattle.fw_table.proofs.amounts.count_text.Goals as goal

pub grouped-requires : goal.grouped-requires
grouped-requires c =
    let digits : c.as_str.result.now ≡ decimal c.args.count = search rules in
    rw digits (IsAscii-decimal c.args.count (search rules))
