use Rattle.fw_toml.specs.Tree.{stated}
use Rattle.fw_commitment.proofs.ValueFacts.{amount-from, amount-there, text-none}
use Rattle.fw_commitment.proofs.fields.amount.Goals as goal

pub returns-in-Some : goal.returns-in-Some
returns-in-Some c =
    let ms = stated c.args.table.now in
    let t = c.in-Some.text.now in
    amount-there ms c.args.name.now t c.ok.result c.in-Some.ensures (amount-from t c.parse.result c.ok.result (rw c.as_bytes.ensures.value at c.parse.ensures) c.ok.ensures.value)

pub returns-in-None : goal.returns-in-None
returns-in-None c = λ n has. text-none (stated c.args.table.now) c.args.name.now c.in-None.ensures has.0 has.1
