use Rattle.fw_charge.proofs.Fitting.{fits_tag}
use Rattle.fw_row_table.proofs.lengths.tag_text_len.Goals as goal

pub returns-clause-valid : goal.returns-clause-valid
returns-clause-valid c =
    let words = c.args.words.now in
    (fits_tag (record { key = words; value = words }) (record { key = c.requires; value = c.requires }) c.utf8.words c.utf8.words).0
