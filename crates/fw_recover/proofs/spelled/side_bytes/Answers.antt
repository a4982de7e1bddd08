use Rattle.std.proofs.Common.{List, ℕ, length, ap, arith}
use Rattle.fw_entry_bytes.specs.declared.form.Form.TheVariants.{Two}
use Rattle.fw_recover.proofs.Files.{length-made}
use Rattle.fw_recover.proofs.spelled.side_bytes.Goals as goal

pub returns-then-len-limit-clause-too_large : goal.returns-then-len-limit-clause-too_large
returns-then-len-limit-clause-too_large c is =
    let made = c.in-Ok.ensures in
    record {
      body = made.0;
      spells = made.1;
      segments = c.args.state.now.segments;
      joined = made.3;
      too_long = omega (arith, ap (λ (l : List ℕ). length l) made.2, length-made Two c.args.generation made.0);
    }
