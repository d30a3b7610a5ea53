use Rattle.std.proofs.Common.{◌<◌, length, get_or, ap, sym, ◌∙◌, arith}
use Rattle.std.proofs.lemmas.List.{get_or_past}
use Rattle.field_rows.proofs.Parts.{scaled_entry}
use Rattle.field_transform.proofs.subspaces.Subspaces.butterfly_row.Goals as goal

pub returns-clause-low : goal.returns-clause-low
returns-clause-low g c i l =
    let o = g.Self.Field.coding.ops in
    ap (λ t. get_or t i o.nought) c.add_scaled.ensures.places
    ∙ scaled_entry o c.args.by o.nought c.args.low.now c.args.high.now i l (omega (arith, c.requires.same))

pub returns-clause-high : goal.returns-clause-high
returns-clause-high g c i l =
    let z = g.Self.Field.coding.ops.nought in
    let low = c.add_scaled.new.into in
    let m : i < length low = omega (arith, c.add_scaled.auto.into, c.requires.same) in
    c.add_words.ensures.sums i m
    ∙ g.met.Self.Field.lawful.field.plus_comm (get_or c.args.high.now i z) (get_or low i z) (c.requires.second i z l)
    (c.add_scaled.ensures.elements c.requires.first i z m)

pub add_words-requires : goal.add_words-requires
add_words-requires g c =
    let z = g.Self.Field.coding.ops.nought in
    record {
      same = sym (c.add_scaled.auto.into ∙ c.requires.same);
      zeros = λ i l. get_or_past c.add_scaled.new.into i z l;
      first = c.requires.second;
      second = c.add_scaled.ensures.elements c.requires.first;
    }

pub returns-clause-cost : goal.returns-clause-cost
returns-clause-cost g c = c.add_scaled.ensures.cost
