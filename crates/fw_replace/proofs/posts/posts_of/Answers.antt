use Rattle.std.proofs.Common.{◌≡◌, ◌∙◌, ◌++◌, ◌∷◌, [], Global, List, Vec, refl, sym, ap, subst, arith}
use Rattle.std.specs.Prelude.{All}
use Rattle.std.specs.Str.{bytes_eq}
use Rattle.std.proofs.lemmas.List.{append-nil, take_all}
use Rattle.fw_snapshot.specs.Heads.{HeadValue, row_count}
use Rattle.fw_snapshot.specs.History.{is_withdrawn, rows_posted}
use Rattle.fw_snapshot.specs.Posts.{posted_len}
use Rattle.fw_snapshot.proofs.HeadFacts.{row_count_back}
use Rattle.fw_replace.specs.Posts.{IsOwnPost, posts_from, posts_of}
use Rattle.fw_replace.specs.declared.posts.Post.{Post}
use Rattle.fw_replace.proofs.PostFacts.{entry_at, gone, next_posts, next_start, of_others, own_posts, post_is, start_within, without_rows}
use Rattle.fw_replace.proofs.posts.posts_of.Goals as goal
use Rattle.fw_replace.proofs.posts.posts_of.Goals.{then-eq+then-rows-gt0+then-not-is_withdrawn+in_ok-push, else-eq, else-eq-via-then-eq+then-rows-gt0+else-not-is_withdrawn, else-eq-via-then-eq+else-rows-gt0, else-eq-via-else-eq}

pub loop-place-init : goal.loop-place-init
unfolding posts_from rows_posted
loop-place-init c = record { posts = c.new-posts.ensures.items; start = refl }

pub overflow_add-start : goal.overflow_add-start
overflow_add-start c =
    let entries = c.args.state.now.entries in
    let place = c.loop-place.place in
    let at = entry_at entries place c.head-head.result.now c.head-head.ensures in
    let long : c.rows_in-rows.result ≡ posted_len at.entry =
    c.rows_in-rows.ensures ∙ ap (λ (h : HeadValue). row_count h.content) (sym at.head) ∙ row_count_back at.entry.command in
    let within = start_within entries place at.entry at.stands in
    omega (arith, long, within, c.loop-place.invariant.start, c.rows_posted-all.ensures.count, c.rows_posted-all.ensures.few)

pub loop-place-preserved : goal.loop-place-preserved
loop-place-preserved c =
    let entries = c.args.state.now.entries in
    let origin = c.args.origin.now in
    let place = c.loop-place.place in
    let start = c.loop-place.start in
    let before = c.loop-place.posts.items in
    let rows = c.rows_in-rows.result in
    let at = entry_at entries place c.head-head.result.now c.head-head.ensures in
    let e = at.entry in
    let long : rows ≡ posted_len e = c.rows_in-rows.ensures ∙ ap (λ (h : HeadValue). row_count h.content) (sym at.head) ∙ row_count_back e.command in
    let mine : bytes_eq e.origin origin ≡ c.eq.result = ap (λ o. bytes_eq o origin) (ap (λ (h : HeadValue). h.origin) at.head ∙ sym c.origin.ensures) ∙ sym c.eq.ensures in
    let numbered = ap (λ (h : HeadValue). h.seq) at.head in
    let items = λ (v : Vec Post Global). v.items in
    let next = λ (posts own : List Post). next_posts entries origin place e start posts before own at.stands c.loop-place.invariant.start c.loop-place.invariant.posts in
    record {
      posts = elim c.if-eq.branch [
        | then-eq+then-rows-gt0+then-not-is_withdrawn+in_ok-push w ↦
            let post : Post = record { number = w.seq-number.result; start = start; rows = rows } in
            next c.if-eq.posts.items (post ∷ [])
            (post_is entries origin start e w.seq-number.result rows (w.seq-number.ensures ∙ sym numbered) long (mine ∙ w.if-eq.true) w.if-rows-gt0.true
            (ap (is_withdrawn entries origin) (numbered ∙ sym w.seq.ensures) ∙ sym w.is_withdrawn.ensures ∙ w.if-not-is_withdrawn.true))
            (ap items w.posts-is ∙ w.in_ok-push.ensures.items)
        | else-eq w ↦
            let same : c.if-eq.posts.items ≡ before ++ [] = ap items w.posts-is ∙ sym (append-nil before) in
            next c.if-eq.posts.items []
            (elim w.else-eq.branch [
              | else-eq-via-then-eq+then-rows-gt0+else-not-is_withdrawn v ↦
                  gone entries origin start e (ap (is_withdrawn entries origin) (numbered ∙ sym v.seq.ensures) ∙ sym v.is_withdrawn.ensures ∙ v.if-not-is_withdrawn.false)
              | else-eq-via-then-eq+else-rows-gt0 v ↦ without_rows entries origin start e rows long v.if-rows-gt0.false
              | else-eq-via-else-eq v ↦ of_others entries origin start e (mine ∙ v.if-eq.false)
            ])
            same
      ];
      start = (let more = next_start entries place e at.stands in omega (arith, more, long, c.loop-place.invariant.start));
    }

pub returns-clause-each : goal.returns-clause-each
returns-clause-each c =
    let entries = c.args.state.now.entries in
    let origin = c.args.origin.now in
    let place = c.loop-place.place in
    let is : c.loop-place.posts.items ≡ posts_of origin entries =
    c.loop-place.invariant.posts ∙ ap (posts_from entries origin 0) (take_all place entries (omega (arith, c.entries-place-end.ensures.count, c.loop-place-test.false))) in
    subst (λ posts. All (IsOwnPost entries origin) posts) (sym is) (own_posts entries origin)
