use Rattle.std.proofs.Common.{refl, subst, sym}
use Rattle.fw_columns.specs.Parts.{AreNumbered}
use Rattle.fw_column_bytes.proofs.rows.table_with.Goals as goal

pub returns : goal.returns
returns c =
    record {
      names = c.requires.names;
      few = c.split-lists.ensures.few;
      numbered = subst (AreNumbered _ _) (sym c.split-lists.ensures.shown) c.split-lists.ensures.numbered;
      tags = c.split-lists.ensures.shown;
      billed = refl;
      effective = refl;
      categories = refl;
      classes = refl;
      starts = c.requires.starts;
      ends = refl;
      discounts = refl;
      kinds = refl;
      statuses = refl;
      has_quantity = c.requires.has_quantity;
      quantities = refl;
      units = refl;
      skus = refl;
      sub_accounts = refl;
    }
