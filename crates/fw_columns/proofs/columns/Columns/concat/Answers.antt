use Rattle.std.proofs.Common.{◌++◌, ◌∙◌, ap, length-append}
use Rattle.std.proofs.lemmas.List.{append-nil}
use Rattle.fw_columns.proofs.columns.Columns.concat.Goals as goal

pub joined-requires-clause-few : goal.joined-requires-clause-few
joined-requires-clause-few c = rw (append-nil, length-append) c.requires

pub returns : goal.returns
returns c = c.in_ok-columns.ensures ∙ (c.in_ok-joined.ensures.rows ∙ ap (λ rows. c.args.first.now ++ rows) (append-nil c.args.second.now))
