use Rattle.std.proofs.Common.{◌∙◌, ap, set, string_bytes}
use Rattle.std.proofs.lemmas.List.{map-set}
use Rattle.std.proofs.lemmas.Result.{IfOk-weaker}
use Rattle.fw_select.specs.Table.{texts_of}
use Rattle.fw_select.proofs.selector.put_at.Goals as goal

pub returns-clause-group : goal.returns-clause-group
returns-clause-group c =
    map-set string_bytes c.args.group.now.items c.args.place c.put_value.new.text
    ∙ ap (set (texts_of c.args.group.now) c.args.place) c.in_ok-put_value.ensures
