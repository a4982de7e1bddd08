use Rattle.std.proofs.Common.{rules, ◌≡◌, ◌∷◌, [], ◌++◌, length, reverse, ◌∙◌, ap, List}
use Rattle.std.proofs.lemmas.List.{reverse-append}
use Rattle.fw_disk.specs.declared.calls.Call.{Call}
use Rattle.fw_disk.specs.declared.calls.Call.TheVariants.{Write}
use Rattle.fw_disk.proofs.calls.write.Goals as goal

pub returns-clause-noted : goal.returns-clause-noted
returns-clause-noted c =
    let noted : Call = Write (record { side = c.args.side; at = c.args.at; len = length c.args.bytes.now; saved = c.in_ok-saved.saved }) in
    let pushed : c.push.new.self.items ≡ c.args.calls.now.items ++ noted ∷ [] = search rules in
    (c.in_ok-saved.saved, ap (λ (l : List Call). reverse l) pushed ∙ reverse-append c.args.calls.now.items (noted ∷ []), search rules)
