use Rattle.std.proofs.Common.{ap, take}
use Rattle.store_text.specs.declared.format.TheConstants.{STORE_FORM}
use Rattle.store_text.specs.laws.PuttingLaws.{tag_front}
use Rattle.store_text.proofs.put.put_tag.Goals as goal

pub returns-clause-part : goal.returns-clause-part
returns-clause-part g c =
    tag_front c.put.result (take STORE_FORM.tag c.finalize-digest.result) (g.P.Place.seen c.args.place.now)
    (g.P.Place.seen c.put.new.self) c.args.hasher
    (λ m holds. ap (take STORE_FORM.tag) (c.finalize-digest.ensures m holds)) c.put.ensures.part
