use Rattle.std.proofs.Common.{◌≡◌, ◌*◌, length, flat_map, refl, ap, sym, ◌∙◌, arith}
use Rattle.pet_poly.specs.Rows.{words}
use Rattle.field_rows.specs.Blocks.{size_of}
use Rattle.packet_encoder.proofs.Columns.{carried}
use Rattle.packet_encoder.proofs.Message.{row_is, row_length, row_message, laid_elements, laid_row}
use Rattle.packet_encoder.proofs.encoder.PacketEncoder.new.Goals as goal

pub laid_words-requires : goal.laid_words-requires
laid_words-requires g c = record {
  count = c.words.ensures.words ∙ sym (ap size_of c.deref.ensures.value ∙ c.in_ok-plan.ensures.size);
  whole = c.requires.message ∙ sym (ap (λ n. n * g.F.Field.coding.width) c.words.ensures.words);
}

pub invariant_of-result : goal.invariant_of-result
invariant_of-result g c =
    let F = g.F.Field in
    let blocks = c.in_ok-plan.plan.items in
    let laid = c.in_ok-laid.laid.items in
    let row = words F.coding.spelt F.coding.width c.words.result c.args.message.now in
    let elements =
    row_is F.is_element F.COUNT F.coding g.met.F.Field.lawful c.words.result _ c.args.message.now row
    refl c.words.ensures.words c.requires.message (λ k l. omega (arith, c.type_inv.message k)) in
    let whole : length laid ≡ size_of blocks =
    c.in_ok-laid.ensures.length ∙ c.words.ensures.words ∙ sym c.in_ok-plan.ensures.size in
    let columns = carried F.coding.ops.nought c.deref.result.now blocks row laid c.deref.ensures.value
    c.in_ok-laid.ensures.columns in (
      record {
        points = omega (arith, c.requires.table.table.few_packets, c.requires.points);
        groups = c.requires.groups;
        group = c.requires.group;
        table = c.words.ensures.bounds;
        narrow = c.in_ok-plan.ensures.narrow;
        lengths = c.in_ok-plan.ensures.lengths;
        size = c.in_ok-plan.ensures.size;
        elements =
            laid_elements F.is_element F.COUNT F.coding g.met.F.Field.lawful blocks row laid columns whole elements;
        whole = whole;
      },
      record { format = c.requires.format; word = c.requires.word; table = c.requires.table },
    )

pub returns-clause-message : goal.returns-clause-message
returns-clause-message g c =
    let F = g.F.Field in
    let blocks = c.in_ok-plan.plan.items in
    let laid = c.in_ok-laid.laid.items in
    let row = words F.coding.spelt F.coding.width c.words.result c.args.message.now in
    let columns = carried F.coding.ops.nought c.deref.result.now blocks row laid c.deref.ensures.value
    c.in_ok-laid.ensures.columns in
    let long =
    row_length F.is_element F.COUNT F.coding g.met.F.Field.lawful c.words.result _ c.args.message.now row refl
    c.words.ensures.words in
    ap (flat_map F.coding.spelling) (laid_row F.is_element F.COUNT F.coding g.met.F.Field.lawful blocks row laid
    columns (long ∙ sym c.in_ok-plan.ensures.size))
    ∙ row_message F.is_element F.COUNT F.coding g.met.F.Field.lawful c.words.result _ c.args.message.now row
    refl c.words.ensures.words c.requires.message (λ k l. omega (arith, c.type_inv.message k))
