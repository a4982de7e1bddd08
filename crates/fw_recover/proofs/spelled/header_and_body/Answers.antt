use Rattle.std.proofs.Common.{arith, rules, ◌≡◌}
use Rattle.fw_entry_bytes.specs.declared.form.Form.TheVariants.{Two}
use Rattle.fw_recover.specs.Sides.{magic}
use Rattle.fw_recover.proofs.Made.{length_put}
use Rattle.fw_recover.proofs.spelled.header_and_body.Goals as goal

pub returns : goal.returns
returns c =
    let state = c.in_ok-append_joined.ensures in
    let word : c.in_ok-bytes.bytes.items ≡ magic Two = search rules in (
      state.0,
      state.2,
      length_put c.args.generation _ c.in_ok-bytes.bytes.items c.put_u64.new.out.items c.put_u64-2.new.out.items c.append_joined.new.out.items c.replace_u64.new.bytes.items state.0 word
          c.in_ok-put_u64.ensures c.in_ok-put_u64-2.ensures state.1 (omega (arith, c.len.ensures, c.append_joined.new.out.ok)) c.replace_u64.ensures,
      state.3,
    )
