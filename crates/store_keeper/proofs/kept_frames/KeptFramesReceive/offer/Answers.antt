use Rattle.std.proofs.Common.{ap, sym, ◌∙◌, Some}
use Rattle.packet_verdicts.specs.Verdicts.{is_kept}
use Rattle.store_keeper.specs.laws.KeepLaws.{kept_short, keep_is}
use Rattle.store_keeper.proofs.kept_frames.KeptFramesReceive.offer.Goals as goal

pub returns-in-Kept-clause-verdict : goal.returns-in-Kept-clause-verdict
returns-in-Kept-clause-verdict g c =
    let kept = ap is_kept (sym c.in_ok-verdict.ensures.verdict ∙ c.in-Kept.is) in (
      kept_short _ c.args.frame.now (λ i. (c.type_inv.frame i).fits) kept,
      keep_is _ c.args.frame.now kept ∙ ap Some (sym c.in_ok-verdict.ensures.kept),
    )
