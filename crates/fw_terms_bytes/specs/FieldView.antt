-- The fields that the reader of commitments holds, as plain values.
use Rattle.std.specs.Prelude.{string_bytes, option_map, nat_abs}
use Rattle.fw_terms.specs.TermsView.{terms_view}
use Rattle.fw_terms_bytes.specs.declared.commitment.NameFields.{NameFields}
use Rattle.fw_terms_bytes.specs.declared.commitment.TermFields.{TermFields}
use Rattle.fw_terms_bytes.specs.declared.commitment.ReadFields.{ReadFields}
use Rattle.fw_terms_bytes.specs.Reading.{Names, Term, Fields}

abbrev pub names_view : NameFields → Names
names_view f = (string_bytes f.id, (f.kind, (option_map string_bytes f.sub_account, f.tags.items)))

abbrev pub term_view : TermFields → Term
term_view f = (f.start, (f.hours, nat_abs f.capacity))

abbrev pub fields_view : ReadFields → Fields
fields_view f = ((names_view f.names, term_view f.term), (terms_view f.terms, f.purchases.items))
