use Rattle.std.proofs.Common.{◌+◌, ◌-◌, length, List, sym, subst, arith}
use Rattle.packet_met.specs.Met.{Pair}
use Rattle.command_sample.specs.Arrivals.{arrivals_of}
use Rattle.command_sample.specs.inside.Making.{session_made}
use Rattle.command_sample.specs.inside.Receiving.{HasReceived}
use Rattle.command_sample.proofs.ArrivalSteps.{all_steps_more, all_steps_within, group_more}
use Rattle.command_sample.proofs.receiving.receive_all.Goals as goal

pub returns-in_err-receive_group-clause-cost : goal.returns-in_err-receive_group-clause-cost
returns-in_err-receive_group-clause-cost g c =
    let s = session_made c.args.made.now in
    let n = c.loop-group.group in
    let many = length c.args.made.now.cuts.items in
    omega (
      arith,
      c.loop-group.invariant.cost,
      c.receive_group.ensures.cost (arrivals_of n) c.loop-group.invariant.received,
      all_steps_more s n,
      all_steps_within s (n + 1) (many - (n + 1)) many (omega (arith, c.loop-group-test.true, c.len-group-end.ensures)),
    )

pub loop-group-preserved : goal.loop-group-preserved
loop-group-preserved g c =
    let s = session_made c.args.made.now in
    let n = c.loop-group.group in
    record {
      received =
          subst (λ (l : List Pair). HasReceived s l c.receive_group.new.receiver) (sym (group_more n))
          (c.in_ok-receive_group.ensures.received (arrivals_of n) c.loop-group.invariant.received);
      cost =
          omega (
            arith,
            c.loop-group.invariant.cost,
            c.receive_group.ensures.cost (arrivals_of n) c.loop-group.invariant.received,
            all_steps_more s n,
          );
    }
