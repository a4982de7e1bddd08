use borrow.Rule.Slice.PartMut.{put_mid, same_len_mid}
use Rattle.std.proofs.lemmas.List.{with_items_is}
use Rattle.std.proofs.Common.{ℕ, List, ◌≡◌, ◌∙◌, ◌+◌, ◌-◌, ◌*◌, ◌++◌, length, take, replicate, get_or, refl, ap, arith, vec_len}
use Rattle.fw_bytes.specs.Spelling.{number32}
use Rattle.fw_column_bytes.proofs.Written.{all_filled, filled_long, none_filled, one_filled}
use Rattle.fw_column_bytes.proofs.writing.put_codes.Goals as goal

pub loop-index-init : goal.loop-index-init
loop-index-init c =
    let first = c.args.out.now.items in
    let column = c.args.column.now in
    let at : c.len-start.result ≡ length first = omega (arith, c.len-start.ensures) in
    let was : vec_len c.args.out.now ≡ length first = omega (arith, c.len-start.ensures, at) in
    none_filled number32 4 first column c.resize.new.self.items (c.in_ok-resize.ensures.items ∙ (λ j. take (at j + 4 * length column) first ++ replicate (at j + 4 * length column - was j) 0))

pub slice_bounds-copy_from_slice-end : goal.slice_bounds-copy_from_slice-end
slice_bounds-copy_from_slice-end c =
    let long = filled_long number32 4 c.args.out.now.items c.args.column.now c.loop-index.index c.loop-index.out.items c.loop-index.invariant in
    let at : c.len-start.result ≡ length c.args.out.now.items = omega (arith, c.len-start.ensures) in
    let more = c.loop-index-test.true in
    omega (arith, long, at, more)

pub loop-index-preserved : goal.loop-index-preserved
loop-index-preserved c =
    let first = c.args.out.now.items in
    let column = c.args.column.now in
    let i = c.loop-index.index in
    let out = c.loop-index.out in
    let at : c.len-start.result ≡ length first = omega (arith, c.len-start.ensures) in
    let a = c.len-start.result + 4 * i in
    let k = a + 4 - a in
    let wide : k ≡ 4 = omega arith in
    let put = c.copy_from_slice.new.self in
    let before = c.deref_mut.result.now in
    let long : length out.items ≡ out.len = omega arith in
    let size : length (put_mid a k before put) ≡ out.len = same_len_mid a k before put c.copy_from_slice.ensures.len ∙ ap length c.deref_mut.ensures.value ∙ long in
    let now = with_items_is out (put_mid a k before put) size ∙ ap (λ (l : List ℕ). put_mid a k l put) c.deref_mut.ensures.value in
    one_filled number32 4 first column i a k 0 (get_or column i 0) out.items put _ c.loop-index-test.true refl refl c.loop-index.invariant (ap (λ n. n + 4 * i) at) wide (c.copy_from_slice.ensures.after ∙ c.to_le_bytes.ensures) now

pub returns : goal.returns
returns c = all_filled number32 4 c.args.out.now.items c.args.column.now c.loop-index.index c.loop-index.out.items c.loop-index-test.false c.loop-index.invariant
