-- The texts that are made for a row. The private functions that write rows cite it.
use Rattle.std.specs.Prelude.{◌≡◌, option_map, string_bytes}
use Rattle.fw_charge.specs.Charge.{Charge}
use Rattle.fw_money.specs.Writing.{text_of}
use Rattle.fw_allocated.specs.Cells.{tags_text}
use Rattle.fw_allocated.specs.Instants.{IsSecondText}
use Rattle.fw_allocated.specs.declared.cells.OwnTexts.{OwnTexts}

pub record AreOwnTexts (row : Charge) (own : OwnTexts) : Type 0 where
  pub billed_is : string_bytes own.billed ≡ text_of row.billed
  pub effective_is : string_bytes own.effective ≡ text_of row.effective
  pub quantity_is : option_map (λ s. string_bytes s) own.quantity ≡ option_map text_of row.quantity
  pub start_is : IsSecondText row.start (string_bytes own.start)
  pub end_is : IsSecondText row.end (string_bytes own.end)
  pub tags_are : string_bytes own.tags ≡ tags_text row.tags
