use Rattle.std.proofs.Common.{◌≡◌, ◌∙◌, ◌++◌, sym, take, drop, true, [], rules, length, arith, vec_len}
use Rattle.std.proofs.lemmas.Bool.{eqb-true}
use Rattle.fw_cut.proofs.PartFacts.{part-is, nil-of}
use Rattle.fw_cut.proofs.cutter.Cutter.taken.Goals as goal
use Rattle.fw_cut.proofs.cutter.Cutter.taken.Goals.{then-self, else-self}

pub returns-clause-part : goal.returns-clause-part
returns-clause-part g c =
    let text : c.extend_from_slice-2.new.self.items ≡ c.self.inside.header.items ++ take c.args.end c.self.inside.buffer.items = search rules in
    let rest : c.swap.new.x.items ≡ drop c.args.end c.self.inside.buffer.items = search rules in
    let head : c.len.result ≡ length c.self.inside.header.items = search rules in
    let none : c.new.result.items ≡ [] = search rules in
    let last : c.if-self.result ≡ true → (c.self.inside.at_end ≡ true) × (c.swap.new.x.items ≡ []) = λ l. elim c.if-self.branch [
      | then-self w ↦ (w.if-self.true, let none = eqb-true (vec_len c.swap.new.x) 0 (sym w.is_empty.ensures ∙ sym w.result-is ∙ l) in nil-of c.swap.new.x.items (omega (arith, none)))
      | else-self w ↦ cc (sym w.result-is ∙ l)
    ] in
    part-is g.R.Read.remaining (record { reader = c.self.inside.reader; header = c.self.inside.header.items; buffer = c.self.inside.buffer.items; at_end = c.self.inside.at_end }) c.args.self.now
    c.swap.new.x.items c.args.end (record { text = c.extend_from_slice-2.new.self; header = c.len.result; is_last = c.if-self.result; skipped = c.new.result }) c.self.view_is c.self.invariant c.requires rest text head none last
