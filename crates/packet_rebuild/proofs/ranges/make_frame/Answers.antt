use Rattle.std.proofs.Common.{◌++◌, length, ap, ◌∙◌, arith}
use Rattle.packet_frame.specs.Frame.{text}
use Rattle.packet_frame.specs.laws.Laws.{texts_have_length}
use Rattle.packet_session.specs.Encoding.{frame_of}
use Rattle.packet_rebuild.proofs.ranges.make_frame.Goals as goal

pub returns-clause-short : goal.returns-clause-short
returns-clause-short g c =
    let f = frame_of g.F.Field.coding c.args.encoder.now c.args.number in
    let is = c.in_ok-frame_with.ensures.ranges in
    omega (
      arith,
      ap length (c.in_ok-frame_with.ensures.ok ∙ ap (λ t. t ++ text f) c.clear.ensures.items),
      texts_have_length f is,
      is.table.narrow,
    )
