use Rattle.std.proofs.Common.{◌∙◌, length, drop, map, sym, ap, subst, arith}
use Rattle.std.proofs.lemmas.List.{take_at}
use Rattle.pet_poly.specs.Value.{value}
use Rattle.field_rows.specs.Blocks.{columns_of}
use Rattle.packet_encoder.proofs.values.stripe_values.Goals as goal

pub returns-clause-cost : goal.returns-clause-cost
returns-clause-cost g c = omega (arith, c.block_values.ensures.cost)

pub returns-clause-counted : goal.returns-clause-counted
returns-clause-counted g c = c.block_values.ensures.cost

pub block_values-requires-clause-room : goal.block_values-requires-clause-room
block_values-requires-clause-room g c = c.deref_mut.ensures.len ∙ c.in_ok-values.ensures.len ∙ c.requires.count

pub block_values-requires-clause-point : goal.block_values-requires-clause-point
block_values-requires-clause-point g c = subst g.F.Field.is_element (sym c.prepare-factor.ensures) c.requires.point

pub returns-clause-values : goal.returns-clause-values
returns-clause-values g c =
    let F = g.F.Field in
    let new = c.block_values.new.into in
    let old = c.in_ok-values.values in
    take_at new (drop (length new) old.items) old.len (c.block_values.auto.into ∙ c.deref_mut.ensures.len)
    ∙ c.block_values.ensures.values
    ∙ ap (λ x. map (λ s. value F.coding.ops s x) (columns_of F.coding.ops.nought c.args.blocks.now c.args.laid.now))
    c.prepare-factor.ensures
