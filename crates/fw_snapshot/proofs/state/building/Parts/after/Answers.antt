use Rattle.std.proofs.Common.{◌∙◌, ◌+◌, ◌++◌, ◌∷◌, [], if◌then◌else◌, ap}
use Rattle.std.specs.Str.{bytes_eq}
use Rattle.fw_persistent.specs.Counts.{count_of}
use Rattle.fw_snapshot.specs.Heads.{HeadValue}
use Rattle.fw_snapshot.specs.HeadView.{content_view}
use Rattle.fw_snapshot.specs.Posts.{spans_at}
use Rattle.fw_snapshot.specs.Uses.{commitments_with}
use Rattle.fw_snapshot.proofs.state.building.Parts.after.Goals as goal

pub returns-clause-heads : goal.returns-clause-heads
returns-clause-heads c =
    c.in_ok-heads.ensures
    ∙ ap (λ (h : HeadValue). c.args.self.now.heads ++ h ∷ [])
    (c.new.ensures ∙ ap (λ o. let h : HeadValue = record { origin = o; seq = c.args.seq; content = content_view c.args.content } in h) c.in_ok-origin.ensures)

pub returns-clause-origins : goal.returns-clause-origins
returns-clause-origins c other =
    c.in_ok-origins.ensures other
    ∙ ap (λ text. spans_at other c.args.self.now.origins ++ (if bytes_eq other text then c.args.span ∷ [] else [])) c.in_ok-origin.ensures

pub returns-clause-registered : goal.returns-clause-registered
returns-clause-registered c id =
    c.in_ok-registered.ensures id
    ∙ ap (λ xs. count_of id c.args.self.now.registered + commitments_with id xs) c.commitment.ensures
