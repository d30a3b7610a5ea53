use Rattle.std.proofs.Common.{◌≡◌, ◌<◌, Bool, true, false, not, refl, ◌∙◌, arith}
use Rattle.std.proofs.lemmas.List.Elements.{All-from_get_or}
use Rattle.std.specs.Str.{bytes_eq}
use Rattle.std.proofs.lemmas.Slice.Eq.{bytes_eq-Decides}
use Rattle.packet_frame.specs.declared.format.TheConstants.{FORMAT}
use Rattle.packet_receiver.proofs.Tagged.{read_tag}
use Rattle.packet_receiver.proofs.tag.read_tag.Goals as goal

same_by : (ne eq : Bool) → ne ≡ not eq → ne ≡ false → eq ≡ true
same_by ne true e h = refl
same_by ne false e h = absurd (cc)

pub returns-in-Some : goal.returns-in-Some
returns-in-Some c =
    let t = c.args.format.now in
    let mark : t.mark ≡ FORMAT.mark =
    (bytes_eq-Decides t.mark FORMAT.mark).0
    (same_by c.ne.result (bytes_eq t.mark FORMAT.mark) c.ne.ensures c.if-ne.false) in
    c.in-Some.ensures.cases.1
    ∙ read_tag t c.args.datagram.now c.requires.format
    (All-from_get_or (λ byte. byte < 256) c.args.datagram.now 0 (λ i l. omega (arith, c.type_inv.datagram i)))
    c.requires.read mark
    (omega (arith, c.if-format.false)) c.if-format-2.false
