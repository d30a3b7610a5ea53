use Rattle.priority_file.proofs.PriorityFound.{searched, is_layer}
use Rattle.priority_file.proofs.priority.Priority.layer_of.Goals as goal

pub unreachable-requires : goal.unreachable-requires
unreachable-requires c =
    let found = searched (record { packets = c.self.inside.packets; layers = c.self.inside.layers.items })
    c.self.invariant c.args.kind c.args.place
    _ _ _ _ _ c.as_slice-layers.ensures.value c.of.ensures c.first_at.ensures c.first_with.ensures c.or.ensures in
    cc (found, c.in-None.is)

pub returns : goal.returns
returns c =
    let found = searched (record { packets = c.self.inside.packets; layers = c.self.inside.layers.items })
    c.self.invariant c.args.kind c.args.place
    _ _ _ _ _ c.as_slice-layers.ensures.value c.of.ensures c.first_at.ensures c.first_with.ensures c.or.ensures in
    let layer = is_layer _ c.self.invariant _ c.self.view_is c.args.kind c.args.place _ _ found c.in-Some.is in
    record { value = layer.value; within = layer.within; listed = layer.listed; unlisted = layer.unlisted }
