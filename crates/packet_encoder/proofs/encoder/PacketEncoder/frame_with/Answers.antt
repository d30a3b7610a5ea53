use Rattle.std.proofs.Common.{◌≡◌, ◌*◌, ◌++◌, ◌∙◌, rules, sym, ap, subst, length, arith}
use Rattle.packet_frame.specs.declared.format.Format.{Format}
use Rattle.packet_frame.specs.Frame.{Fields}
use Rattle.packet_frame.specs.Planned.{by_text, planned_text, IsPlannedFrame}
use Rattle.packet_frame.specs.View.{fields_with}
use Rattle.packet_frame.specs.laws.Written.{written_in}
use Rattle.packet_session.specs.Encoding.{frame_of}
use Rattle.stripe_plan.specs.Layers.{plan_ends}
use Rattle.packet_encoder.specs.CodedGroup.{CodedGroup}
use Rattle.packet_encoder.proofs.Made.{appended}
use Rattle.packet_encoder.proofs.Payloads.{payload_long, frame_with_is}
use Rattle.packet_encoder.proofs.encoder.PacketEncoder.frame_with.Goals as goal

pub append-requires : goal.append-requires
append-requires g c =
    let F = g.F.Field in
    let s = c.self.inside in
    let long = ap length c.requires.payload
    ∙ payload_long F.is_element F.COUNT F.coding g.met.F.Field.lawful s.header s.blocks.items s.laid.items c.self.invariant.0
    c.args.self.now.encoding (ap (λ (v : CodedGroup). v.encoding) c.self.view_is) c.args.number c.requires.number in
    let word = ap (λ n. n * length (plan_ends s.header.table.layers)) c.self.invariant.1.word in
    record { room = omega (arith, c.in_ok-begin_planned.ensures.room, long, word) }

pub end_planned-requires-clause-room : goal.end_planned-requires-clause-room
end_planned-requires-clause-room g c =
    let F = g.F.Field in
    let s = c.self.inside in
    let long = ap length c.requires.payload
    ∙ payload_long F.is_element F.COUNT F.coding g.met.F.Field.lawful s.header s.blocks.items s.laid.items c.self.invariant.0
    c.args.self.now.encoding (ap (λ (v : CodedGroup). v.encoding) c.self.view_is) c.args.number c.requires.number in
    let word = ap (λ n. n * length (plan_ends s.header.table.layers)) c.self.invariant.1.word in
    omega (
      arith,
      c.in_ok-begin_planned.ensures.room,
      c.append.ensures.len,
      c.append.ensures.room,
      long,
      word,
    )

pub returns-clause-ok : goal.returns-clause-ok
returns-clause-ok g c =
    let F = g.F.Field in
    let s = c.self.inside in
    let t = s.format in
    let made = fields_with s.header c.args.number c.args.payload.now in
    let same = ap (λ (v : CodedGroup). v.format) c.self.view_is in
    let spelt = written_in t (by_text t made) c.args.into.now.items _ _ _ _ c.len-start.result (search rules)
    (search rules)
    c.in_ok-begin_planned.ensures.ok c.append.ensures.items c.end_planned.ensures in
    let own = appended t c.args.into.now.items c.end_planned.new.into.items _ _
    (frame_with_is F.is_element F.COUNT F.coding g.met.F.Field.lawful s.header s.blocks.items s.laid.items c.self.invariant.0
    c.args.self.now.encoding (ap (λ (v : CodedGroup). v.encoding) c.self.view_is) c.args.number c.requires.number
    c.args.payload.now c.requires.payload)
    spelt in
    subst (λ (u : Format). c.end_planned.new.into.items
    ≡ c.args.into.now.items ++ planned_text u (frame_of F.coding c.args.self.now.encoding c.args.number)) same own

pub returns-clause-ranges : goal.returns-clause-ranges
returns-clause-ranges g c =
    let F = g.F.Field in
    let s = c.self.inside in
    let same = ap (λ (v : CodedGroup). v.format) c.self.view_is in
    let word = ap (λ n. n * length (plan_ends s.header.table.layers)) c.self.invariant.1.word in
    let long = ap length c.requires.payload
    ∙ payload_long F.is_element F.COUNT F.coding g.met.F.Field.lawful s.header s.blocks.items s.laid.items c.self.invariant.0
    c.args.self.now.encoding (ap (λ (v : CodedGroup). v.encoding) c.self.view_is) c.args.number c.requires.number in
    subst (λ (u : Format). IsPlannedFrame u (frame_of F.coding c.args.self.now.encoding c.args.number)) same
    (subst (λ (f : Fields). IsPlannedFrame s.format f)
    (frame_with_is F.is_element F.COUNT F.coding g.met.F.Field.lawful s.header s.blocks.items s.laid.items c.self.invariant.0
    c.args.self.now.encoding (ap (λ (v : CodedGroup). v.encoding) c.self.view_is) c.args.number c.requires.number
    c.args.payload.now c.requires.payload)
    (c.begin_planned.ensures.ranges c.args.payload.now (long ∙ sym word)))
