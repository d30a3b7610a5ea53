use Rattle.packet_encoder.specs.CodedGroup.{CodedGroup}
use Rattle.std.proofs.Common.{subst, ap, ◌∙◌, ◌*◌}
use Rattle.packet_session.specs.Encoding.{Encoding}
use Rattle.packet_session.specs.Session.{IsMessage}
use Rattle.packet_encoder.specs.Stored.{words_in}
use Rattle.packet_encoder.proofs.Message.{length-spellings, bytes_spellings, words_are_elements, words_are_whole}
use Rattle.packet_encoder.proofs.encoder.PacketEncoder.header.Goals as goal

pub returns-clause-message : goal.returns-clause-message
returns-clause-message g c =
    let F = g.F.Field in
    let kept = c.self.invariant.0 in
    let blocks = c.self.inside.blocks.items in
    let laid = c.self.inside.laid.items in
    let row = words_in F.coding blocks laid in
    let laws = g.met.F.Field.lawful in
    let elements = words_are_elements F.is_element F.COUNT F.coding laws c.self.inside.header blocks laid kept in
    subst (λ (e : Encoding). IsMessage F.coding.width e.header.table.layers e.message)
    (ap (λ (v : CodedGroup). v.encoding) c.self.view_is) (record {
      whole =
          length-spellings F.is_element F.COUNT F.coding laws row elements
          ∙ ap (λ n. n * F.coding.width)
          (words_are_whole F.is_element F.COUNT F.coding laws c.self.inside.header blocks laid kept);
      bytes = bytes_spellings F.is_element F.COUNT F.coding laws row elements;
    })
