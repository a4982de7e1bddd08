use Rattle.std.proofs.Common.{◌+◌, get_or, refl}
use Rattle.fw_bytes.specs.Spelling.{number32}
use Rattle.fw_column_bytes.proofs.Written.{spelled_more, spelled_all}
use Rattle.fw_column_bytes.proofs.writing.put_places.Goals as goal

pub loop-place-preserved : goal.loop-place-preserved
loop-place-preserved c =
    spelled_more (λ place. number32 (1 + place)) c.args.out.now.items c.args.places.now c.loop-place.place-index 0 (get_or c.args.places.now c.loop-place.place-index 0) c.loop-place.out.items c.put_u32.new.out.items c.loop-place-test.true refl c.loop-place.invariant c.in_ok-put_u32.ensures

pub returns : goal.returns
returns c = spelled_all (λ place. number32 (1 + place)) c.args.out.now.items c.args.places.now c.loop-place.place-index c.loop-place.out.items c.loop-place-test.false c.loop-place.invariant
