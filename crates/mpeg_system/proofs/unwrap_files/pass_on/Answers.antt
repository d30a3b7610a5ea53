use Rattle.std.proofs.Common.{◌≡◌, ◌++◌, ap, subst}
use Rattle.std.proofs.lemmas.Result.{on_ok_weaker, IfErr-weaker}
use Rattle.mpeg_system.specs.Unwrapping.{added}
use Rattle.mpeg_system.specs.inside.Feeding.{WasFed}
use Rattle.mpeg_system.proofs.Feeding.{fed_more, fed_again}
use Rattle.mpeg_system.proofs.unwrap_files.pass_on.Goals as goal

pub returns : goal.returns
returns c id stream given fed =
    let old = c.args.video.now.items in
    let new = c.feed.new.into.items in
    let all : added old new ≡ new = ap (λ l. added l new) c.requires in
    subst (λ l. WasFed id c.feed.new.self (stream ++ c.args.portion.now) (given ++ l)) all
    (fed_more id c.args.unwrap.now c.feed.new.self stream given c.args.portion.now (added old new) c.feed.result
    (λ r. on_ok_weaker c.feed.result (λ f. f id stream given r) c.feed.ensures.ok)
    (IfErr-weaker c.feed.result _ _ (λ s f ne r. f ne id stream given r) c.feed.ensures.refusal)
    (IfErr-weaker c.feed.result _ _ (λ s f ne r. f ne id stream given r) c.feed.ensures.whole)
    (λ r. c.feed.ensures.front id stream given r)
    c.feed.ensures.refused
    (λ s h. let a = c.feed.ensures.again s h in (a.1, fed_again old new c.requires a.2))
    fed)
