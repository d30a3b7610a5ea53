use Rattle.std.proofs.Common.{◌*◌, cond, not, Some, None, sym, ap, ◌∙◌, arith, drop}
use Rattle.pet_base.specs.declared.limits.TheConstants.{HEAD_LENGTH}
use Rattle.packet_frame.specs.declared.fault.FrameFault.TheVariants.{Tag}
use Rattle.packet_frame.specs.Refusals.{count_of, fields_in}
use Rattle.packet_frame.specs.laws.LayerLaws.{layers_length}
use Rattle.packet_frame.proofs.Tables.{end_unlike, end_like}
use Rattle.packet_frame.proofs.text.check_end.Goals as goal

pub returns-then-bytes-format : goal.returns-then-bytes-format
returns-then-bytes-format c =
    let layers = (fields_in c.args.format.now c.args.bytes.now).layers in
    let count = layers_length (count_of c.args.bytes.now) (drop HEAD_LENGTH c.args.bytes.now) in
    let words = ap (λ k. c.args.format.now.word * k) c.requires.stripes in
    end_unlike c.args.format.now c.args.bytes.now layers
    (λ same. absurd (omega (arith, same, count, words, c.requires.count, c.from.ensures, c.if-bytes-format.true)))

pub returns-then-not-has_tag : goal.returns-then-not-has_tag
returns-then-not-has_tag c =
    let layers = (fields_in c.args.format.now c.args.bytes.now).layers in
    let count = layers_length (count_of c.args.bytes.now) (drop HEAD_LENGTH c.args.bytes.now) in
    let words = ap (λ k. c.args.format.now.word * k) c.requires.stripes in
    let like = end_like c.args.format.now c.args.bytes.now layers
    (omega (arith, count, words, c.requires.count, c.from.ensures, c.if-bytes-format.false)) c.requires.table.narrow in
    like ∙ ap (λ ends. cond (not ends) (Some Tag) None) (sym c.has_tag.ensures ∙ c.if-not-has_tag.true)

pub returns : goal.returns
returns c =
    let layers = (fields_in c.args.format.now c.args.bytes.now).layers in
    let count = layers_length (count_of c.args.bytes.now) (drop HEAD_LENGTH c.args.bytes.now) in
    let words = ap (λ k. c.args.format.now.word * k) c.requires.stripes in
    let like = end_like c.args.format.now c.args.bytes.now layers
    (omega (arith, count, words, c.requires.count, c.from.ensures, c.if-bytes-format.false)) c.requires.table.narrow in
    like ∙ ap (λ ends. cond (not ends) (Some Tag) None) (sym c.has_tag.ensures ∙ c.if-not-has_tag.false)
