-- Columns of rows can be read at the place of each row.
use Rattle.std.proofs.Common.{◌≡◌, ℕ, ◌<◌, ◌≤◌, List, length, get_or, Option, Some, None, sym, ap, ◌∙◌, subst, arith}
use Rattle.std.specs.Prelude.{option_to_list, is_some, pos, slice_get}
use Rattle.std.proofs.lemmas.List.{get_or-map, length-map}
use Rattle.std.proofs.lemmas.Option.{slice_get-get_or}
use Rattle.fw_charge.specs.Charge.{Charge, IsCharge}
use Rattle.fw_row_table.specs.declared.table.Table.{Table}
use Rattle.fw_row_table.specs.Names.{Text, place_of}
use Rattle.fw_row_table.specs.Texts.{texts_of_tags}
use Rattle.fw_row_table.specs.Lists.{tag_places, lists_of}
use Rattle.fw_charge.specs.Codes.{category_code, class_code}
use Rattle.fw_row_table.specs.Codes.{text_code}
use Rattle.fw_row_table.specs.Table.{AreColumns, id_kept, kind_kept, status_kept, quantity_kept, charge_at}
use Rattle.fw_row_table.specs.Reading.{HasRow}
use Rattle.fw_row_table.proofs.TextFacts.{AreKnown}
use Rattle.fw_row_table.proofs.ListFacts.{places-within, length-lists_of}
use Rattle.fw_row_table.proofs.TableFacts.{texts_known, list_known, list-place, list-shown, row-shown, tags-back}

-- the code of a known text is within the names
pub text-within : (names : List Text) (t : Option Text) → AreKnown names (option_to_list t) → text_code names t ≤ length names
unfolding text_code
text-within names None h = omega arith
text-within names (Some t) h = let b : place_of names t < length names = h.0.below in omega (arith, b)

module _ (t : Table) (rows : List Charge) (columns : AreColumns t rows) (i : ℕ) (h : i < length rows) where
  pub has_row : HasRow t i
  unfolding tag_places
  has_row =
      let d = charge_at t i in
      let row = get_or rows i d in
      let known = texts_known t rows columns i d h in
      let b : i < length t.billed.items = rw (columns.billed, length-map rows (λ c. c.billed)) h in
      let e : i < length t.effective.items = rw (columns.effective, length-map rows (λ c. c.effective)) h in
      let q : i < length t.quantities.items = rw (columns.quantities, length-map rows (λ c. quantity_kept c.quantity)) h in
      record {
        billed = b;
        effective = e;
        categories = rw (columns.categories, length-map rows (λ c. category_code c.category)) h;
        classes = rw (columns.classes, length-map rows (λ c. class_code c.is_correction)) h;
        starts = rw (columns.starts, length-map rows (λ c. pos c.start)) h;
        ends = rw (columns.ends, length-map rows (λ c. c.end)) h;
        discounts = rw (columns.discounts, length-map rows (λ c. id_kept t.names c.discount)) h;
        kinds = rw (columns.kinds, length-map rows (λ c. kind_kept c.discount)) h;
        statuses = rw (columns.statuses, length-map rows (λ c. status_kept c.discount)) h;
        quantities = q;
        has_quantity = rw (columns.has_quantity, length-map rows (λ c. is_some c.quantity)) h;
        units = rw (columns.units, length-map rows (λ c. text_code t.names c.unit)) h;
        skus = rw (columns.skus, length-map rows (λ c. text_code t.names c.sku)) h;
        sub_accounts = rw (columns.sub_accounts, length-map rows (λ c. text_code t.names c.sub_account)) h;
        tags = rw (columns.tags, length-map (lists_of t.names rows) (place_of t.lists), length-lists_of t.names rows) h;
        billed_range = columns.billed_range i (pos 0) b;
        effective_range = columns.effective_range i (pos 0) e;
        quantity_range = columns.quantities_range i (pos 0) q;
        discount =
            rw (columns.discounts, get_or-map (λ c. id_kept t.names c.discount) rows i d 0 h)
            (text-within t.names _ known.discount);
        unit =
            rw (columns.units, get_or-map (λ c. text_code t.names c.unit) rows i d 0 h)
            (text-within t.names row.unit known.unit);
        sku =
            rw (columns.skus, get_or-map (λ c. text_code t.names c.sku) rows i d 0 h)
            (text-within t.names row.sku known.sku);
        sub_account =
            rw (columns.sub_accounts, get_or-map (λ c. text_code t.names c.sub_account) rows i d 0 h)
            (text-within t.names row.sub_account known.sub_account);
        list = subst (λ (place : ℕ). place < length t.lists) (sym (list-place t rows columns i d h)) (list_known t rows columns i d h).below;
        list_within = rw (list-shown t rows columns i d h) (places-within t.names (texts_of_tags row.tags) known.tags);
        list_tags = rw (list-shown t rows columns i d h, tags-back t.names row.tags known.tags) (columns.charges i d h).tags;
      }

  -- and what is read there is the row
  pub row_there : slice_get rows i ≡ Some (charge_at t i)
  row_there = slice_get-get_or rows i (charge_at t i) h ∙ ap Some (sym (row-shown t rows columns i (charge_at t i) h))

  pub row_charge : IsCharge (charge_at t i)
  row_charge = subst IsCharge (sym (row-shown t rows columns i (charge_at t i) h)) (columns.charges i (charge_at t i) h)
