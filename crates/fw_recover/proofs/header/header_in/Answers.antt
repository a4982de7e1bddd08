use Rattle.std.proofs.Common.{◌≡◌, ◌≤◌, ◌<◌, inl, inr, length, sym, ◌∙◌, arith}
use Rattle.fw_recover.specs.Sides.{generation_of, body_len_of, log_start_of}
use Rattle.fw_recover.proofs.Headers.{opened, signed, unsigned, generation_is, body_len_is, front_is}
use Rattle.fw_recover.proofs.header.header_in.Goals as goal

pub returns-in_default-clause-lacks : goal.returns-in_default-clause-lacks
returns-in_default-clause-lacks c file begins =
    let front = c.args.front.now in
    let long : 26 ≤ length file = omega (arith, begins.size, c.requires.more) in
    (opened file front begins.is c.if-front-ne1.false long, inl (cc, unsigned file front begins.is c.in_default.ensures.none))

pub returns-then-generation-eq0-clause-lacks : goal.returns-then-generation-eq0-clause-lacks
returns-then-generation-eq0-clause-lacks c file begins =
    let front = c.args.front.now in
    let long : 26 ≤ length file = omega (arith, begins.size, c.requires.more) in
    let word = signed file front begins.is c.in-Some.form c.in-Some.ensures.some in (
      opened file front begins.is c.if-front-ne1.false long,
      inr (inl (cc, (c.in-Some.form, word), sym (generation_is file front begins.is) ∙ sym c.number_in-generation.ensures.value ∙ c.if-generation-eq0.true)),
    )

pub returns-then-body_len-len-clause-lacks : goal.returns-then-body_len-len-clause-lacks
returns-then-body_len-len-clause-lacks c file begins =
    let front = c.args.front.now in
    let long : 26 ≤ length file = omega (arith, begins.size, c.requires.more) in
    let word = signed file front begins.is c.in-Some.form c.in-Some.ensures.some in
    let generation : c.number_in-generation.result ≡ generation_of file = c.number_in-generation.ensures.value ∙ generation_is file front begins.is in
    let body_len : c.number_in-body_len.result ≡ body_len_of file = c.number_in-body_len.ensures.value ∙ body_len_is file front begins.is in
    let some : 0 < generation_of file = omega (arith, generation, c.if-generation-eq0.false) in
    let past : length file ≤ log_start_of file = omega (arith, body_len, begins.size, c.if-body_len-len.true) in
    (opened file front begins.is c.if-front-ne1.false long, inr (inr (cc, (c.in-Some.form, word), some, past)))

pub returns-clause-found : goal.returns-clause-found
returns-clause-found c file begins =
    let front = c.args.front.now in
    let long : 26 ≤ length file = omega (arith, begins.size, c.requires.more) in
    let word = signed file front begins.is c.in-Some.form c.in-Some.ensures.some in
    let generation : c.number_in-generation.result ≡ generation_of file = c.number_in-generation.ensures.value ∙ generation_is file front begins.is in
    let body_len : c.number_in-body_len.result ≡ body_len_of file = c.number_in-body_len.ensures.value ∙ body_len_is file front begins.is in
    record {
      is_open = opened file front begins.is c.if-front-ne1.false long;
      sound = record {
        form = c.in-Some.form;
        magic_is = word;
        generation = omega (arith, generation, c.if-generation-eq0.false);
        gate_within = omega (arith, body_len, begins.size, c.if-body_len-len.false);
      };
      magic_is = word;
      generation_is = sym generation;
      body_len_is = sym body_len;
      spelled =
          sym begins.is
          ∙ front_is c.in-Some.form front c.number_in-generation.result c.number_in-body_len.result c.requires.long c.if-front-ne1.false c.in-Some.ensures.some
          c.number_in-generation.ensures.spelled c.number_in-body_len.ensures.spelled;
    }
