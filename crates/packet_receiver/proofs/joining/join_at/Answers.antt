use Rattle.std.proofs.Common.{rules, ◌≡◌, nat_cmp, sym, Some}
use Rattle.std.specs.Map.{lookup}
use Rattle.std.specs.BTreeMap.{is_at}
use Rattle.packet_receiver.proofs.Filling.{joined_one}
use Rattle.packet_receiver.proofs.joining.join_at.Goals as goal

pub returns-in-Some : goal.returns-in-Some
returns-in-Some g c =
    let F = g.F.Field in
    let es = c.args.groups.now.entries in
    let found : lookup (is_at (nat_cmp c.args.group)) es ≡ Some c.in-Some.open.now = sym c.in-Some.ensures.value in
    record {
      joined =
          joined_one F.is_element F.coding es c.args.group c.args.theirs.now c.args.steps.now c.in-Some.open.now
          c.join_open.new.mine _ c.join_open.new.steps
          c.get_mut.ensures.ordered found c.join_open.ensures (search rules);
    }
