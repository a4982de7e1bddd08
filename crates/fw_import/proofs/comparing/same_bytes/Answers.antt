use Rattle.std.proofs.Common.{◌≡◌, ◌∙◌, ◌++◌, List, ℕ, refl, sym, ap}
use Rattle.std.proofs.lemmas.Slice.Eq.{bytes_eq-Decides}
use Rattle.fw_entry.specs.Spelling.{entry}
use Rattle.fw_entry_bytes.specs.declared.form.Form.TheVariants as form
use Rattle.fw_import.proofs.ImportFacts.{one_spelling}
use Rattle.fw_import.proofs.comparing.same_bytes.Goals as goal

pub returns : goal.returns
returns c = λ equal.
    let first : c.as_slice.result.now ≡ entry c.args.one.now =
    c.as_slice.ensures.value ∙ (c.in_ok-put_entry.ensures ∙ ap (λ (l : List ℕ). l ++ entry c.args.one.now) c.new-first.ensures.items) in
    let second : c.as_slice-2.result.now ≡ entry c.args.other.now =
    c.as_slice-2.ensures.value ∙ (c.in_ok-put_entry-2.ensures ∙ ap (λ (l : List ℕ). l ++ entry c.args.other.now) c.new-second.ensures.items) in
    let same : c.as_slice.result.now ≡ c.as_slice-2.result.now = (bytes_eq-Decides c.as_slice.result.now c.as_slice-2.result.now).0 (sym c.eq.ensures ∙ equal) in
    one_spelling (λ rest e is. c.entries_have_one_spelling.ensures.again form.Two rest e is refl) c.args.one.now c.args.other.now
    c.seq-one.ensures.valid c.seq-other.ensures.valid (sym first ∙ (same ∙ second))
