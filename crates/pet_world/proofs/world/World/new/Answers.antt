use Rattle.std.proofs.Common.{List, ap, ◌∙◌}
use Rattle.packet_session.specs.Encoding.{Encoding}
use Rattle.pet_world.specs.World.{world_of}
use Rattle.packet_met.specs.EncodedSession.{encoded_session}
use Rattle.pet_world.proofs.Begun.{begun, world_begun}
use Rattle.pet_world.proofs.world.World.new.Goals as goal

pub returns-clause-nothing : goal.returns-clause-nothing
returns-clause-nothing g c =
    let w = world_of c.args.encoders.items c.args.limit c.in_ok-empty.empty.items in
    begun g.F.Field.coding w c.args.receivers c.session_in-session.result
    (c.session_in-session.ensures ∙ ap (λ (es : List Encoding). (encoded_session es).number) c.deref.ensures.value)
    c.in_ok-empty.ensures.many c.in_ok-empty.ensures.empty

pub invariant_of-result : goal.invariant_of-result
invariant_of-result g c =
    let w = world_of c.args.encoders.items c.args.limit c.in_ok-empty.empty.items in
    world_begun g.F.Field.coding w c.args.receivers c.session_in-session.result
    (c.session_in-session.ensures ∙ ap (λ (es : List Encoding). (encoded_session es).number) c.deref.ensures.value)
    c.in_ok-empty.ensures.many c.in_ok-empty.ensures.empty
    g.F.Field.COUNT c.requires.width c.requires.points c.requires.session c.requires.encoders c.requires.fits
