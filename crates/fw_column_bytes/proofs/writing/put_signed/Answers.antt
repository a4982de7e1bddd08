use borrow.Rule.Slice.PartMut.{put_mid, same_len_mid}
use Rattle.std.proofs.lemmas.List.{with_items_is}
use Rattle.std.proofs.Common.{rules, ℕ, List, ◌≡◌, ◌∙◌, ◌+◌, ◌-◌, ◌*◌, ◌++◌, length, take, replicate, get_or, refl, ap, arith, vec_len}
use Rattle.std.specs.Prelude.{pos}
use Rattle.std.specs.Int.{w64}
use mir.Val.{SFits}
use Rattle.std.proofs.lemmas.Int.{to_z-of_z}
use Rattle.fw_bytes.specs.Spelling.{signed64}
use Rattle.fw_column_bytes.proofs.Written.{all_filled, filled_long, none_filled, one_filled}
use Rattle.fw_column_bytes.proofs.writing.put_signed.Goals as goal

pub loop-index-init : goal.loop-index-init
loop-index-init c =
    let first = c.args.out.now.items in
    let column = c.args.column.now in
    let at : c.len-start.result ≡ length first = omega (arith, c.len-start.ensures) in
    let was : vec_len c.args.out.now ≡ length first = omega (arith, c.len-start.ensures, at) in
    none_filled signed64 8 first column c.resize.new.self.items (c.in_ok-resize.ensures.items ∙ (λ j. take (at j + 8 * length column) first ++ replicate (at j + 8 * length column - was j) 0))

pub slice_bounds-copy_from_slice-end : goal.slice_bounds-copy_from_slice-end
slice_bounds-copy_from_slice-end c =
    let long = filled_long signed64 8 c.args.out.now.items c.args.column.now c.loop-index.index c.loop-index.out.items c.loop-index.invariant in
    let at : c.len-start.result ≡ length c.args.out.now.items = omega (arith, c.len-start.ensures) in
    let more = c.loop-index-test.true in
    omega (arith, long, at, more)

pub loop-index-preserved : goal.loop-index-preserved
loop-index-preserved c =
    let first = c.args.out.now.items in
    let column = c.args.column.now in
    let i = c.loop-index.index in
    let out = c.loop-index.out in
    let at : c.len-start.result ≡ length first = omega (arith, c.len-start.ensures) in
    let a = c.len-start.result + 8 * i in
    let k = a + 8 - a in
    let wide : k ≡ 8 = omega arith in
    let put = c.copy_from_slice.new.self in
    let before = c.deref_mut.result.now in
    let long : length out.items ≡ out.len = omega arith in
    let size : length (put_mid a k before put) ≡ out.len = same_len_mid a k before put c.copy_from_slice.ensures.len ∙ ap length c.deref_mut.ensures.value ∙ long in
    let one = get_or column i (pos 0) in
    let fits : SFits w64 one = search rules in
    let now = with_items_is out (put_mid a k before put) size ∙ ap (λ (l : List ℕ). put_mid a k l put) c.deref_mut.ensures.value in
    one_filled signed64 8 first column i a k (pos 0) one out.items put _ c.loop-index-test.true refl refl c.loop-index.invariant (ap (λ n. n + 8 * i) at) wide (c.copy_from_slice.ensures.after ∙ c.to_le_bytes.ensures ∙ ap signed64 (to_z-of_z w64 one fits)) now

pub returns : goal.returns
returns c = all_filled signed64 8 c.args.out.now.items c.args.column.now c.loop-index.index c.loop-index.out.items c.loop-index-test.false c.loop-index.invariant
