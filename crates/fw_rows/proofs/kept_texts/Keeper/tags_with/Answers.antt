use Rattle.std.proofs.Common.{◌∙◌, List, ap, map, string_bytes, subst}
use Rattle.std.proofs.lemmas.Result.{err_from_is_err_and}
use Rattle.fw_rows.specs.Keepers.{KeeperValue}
use Rattle.fw_rows.specs.Keeping.{AreTheTags, Refuses}
use Rattle.fw_rows.specs.Keeps.{KeepText}
use Rattle.fw_rows.proofs.KeeperFacts.{found_of}
use Rattle.fw_rows.proofs.kept_texts.Keeper.tags_with.Goals as goal

pub returns-in-Some-clause-found : goal.returns-in-Some-clause-found
returns-in-Some-clause-found c =
    let same = c.as_slice.ensures.value ∙ ap (λ (k : KeeperValue). k.keeps) c.self.view_is in
    found_of c.args.self.now.keeps c.as_slice.result.now c.args.tags.now (map string_bytes c.args.values.now) c.in-Some.stated.now c.add_kept.result same c.in-Some.ensures.stated c.add_kept.ensures.found

pub returns-in_err-kept-clause-refused : goal.returns-in_err-kept-clause-refused
returns-in_err-kept-clause-refused c =
    let same = c.as_slice-2.ensures.value ∙ ap (λ (k : KeeperValue). k.keeps) c.self.view_is in
    let p = err_from_is_err_and c.from_residual.result c.from_residual.ensures.1 in
    let Refused : List KeepText → Type 0 = λ ks. Refuses ks c.args.tags.now (map string_bytes c.args.values.now) c.in_err-kept.field-0.0 in
    rw (p.1, p.2) (subst Refused same (c.in_err-kept.ensures.refused c.args.tags.now c.in-Ok.ensures))

pub returns-clause-found : goal.returns-clause-found
returns-clause-found c =
    let same = c.as_slice-2.ensures.value ∙ ap (λ (k : KeeperValue). k.keeps) c.self.view_is in
    let Found : List KeepText → Type 0 = λ ks. AreTheTags ks c.args.tags.now (map string_bytes c.args.values.now) c.in_ok-kept.kept in
    subst Found same (c.in_ok-kept.ensures.found c.args.tags.now c.in-Ok.ensures)
