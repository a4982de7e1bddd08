use Rattle.std.proofs.Common.{◌≡◌, ◌∙◌, ◌++◌, [], ◌∷◌, ap, sym, subst}
use Rattle.std.specs.Prelude.{OnOk}
use Rattle.fw_charge.specs.Charge.{Charge, IsCharge}
use Rattle.fw_row_table.specs.Lending.{charge_with}
use Rattle.fw_columns.proofs.builder.ColumnsBuilder.push_lent.Goals as goal

pub push_parts-requires-clause-valid : goal.push_parts-requires-clause-valid
push_parts-requires-clause-valid c = subst IsCharge (sym (ap (charge_with c.values.result) c.tags.ensures.value ∙ c.values.ensures.row)) c.values.ensures.valid

pub returns-clause-added : goal.returns-clause-added
returns-clause-added c =
    subst (λ (x : Charge). OnOk c.push_parts.result (c.push_parts.new.self ≡ c.args.self.now ++ x ∷ []))
    (ap (charge_with c.values.result) c.tags.ensures.value ∙ c.values.ensures.row) c.push_parts.ensures.added
