use Rattle.std.proofs.Common.{◌≡◌, inl, inr, ℕ, sym, ◌∙◌, subst}
use Rattle.fw_disk.specs.declared.volume.Side.{Side}
use Rattle.fw_disk.specs.declared.volume.Side.TheVariants.{Left, Right}
use Rattle.fw_disk.specs.Volume.{Image}
use Rattle.fw_entry_bytes.specs.declared.form.Form.{Form}
use Rattle.fw_recover.specs.Corrupt.{CorruptAt}
use Rattle.fw_recover.specs.Headers.{HasHeader}
use Rattle.fw_recover.specs.Sides.{IsOpen, IsSound}
use Rattle.fw_recover.proofs.Standing.{by_side}
use Rattle.fw_recover.proofs.header.side_in_use.Goals as goal

-- two open sides of one generation, of whichever forms
twins : (c : Image) (side : Side) (at : ℕ) (f g : Form) (p q m n : ℕ) → HasHeader f p m (c Left) → HasHeader g q n (c Right) → p ≡ q → side ≡ Right → at ≡ 9 → CorruptAt c side at
twins c side at f g p q m n left right same side_is at_is = inr (inl (record {
  place = (side_is, at_is);
  both = by_side (λ (s : Side). IsOpen (c s) × IsSound (c s)) Left (left.is_open, left.sound) (right.is_open, right.sound);
  same = left.generation_is ∙ same ∙ sym right.generation_is;
}))

pub returns-then-left-right-clause-corrupt : goal.returns-then-left-right-clause-corrupt
returns-then-left-right-clause-corrupt g c side at is told =
    let old = g.V.Volume.view c.args.volume.now in
    let left = c.in-Some-Some.left in
    let right = c.in-Some-Some.right in
    let first : HasHeader left.form left.generation left.body_len (old.seen Left) = rw c.in-Some-Some.is-0 at (c.in_ok-left.ensures.found told) in
    let there : HasHeader right.form right.generation right.body_len ((g.V.Volume.view c.header_of.new.volume).seen Right) = rw c.in-Some-Some.is-1 at (c.in_ok-right.ensures.found told) in
    let second = subst (λ l. HasHeader right.form right.generation right.body_len l) ((c.in_ok-left.ensures.reads.calm told).seen Right) there in
    let side_is : side ≡ Right = cc in
    let place : at ≡ 9 = cc in
    twins old.seen side at left.form right.form left.generation right.generation left.body_len right.body_len first second c.if-left-right.true side_is place
