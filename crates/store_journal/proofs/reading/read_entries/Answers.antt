use Rattle.std.proofs.Common.{◌≡◌, ℕ, List, length, sym, subst, arith}
use Rattle.pet_base.specs.laws.Through.{each_err_and}
use Rattle.outside_disk.specs.Disk.{IfTold}
use Rattle.outside_disk.specs.laws.DiskLaws.{reads_on, bytes_stay, bytes_stood}
use Rattle.store_journal.specs.inside.Turns.{GoesTo, IsRefusedAt, IsRefused}
use Rattle.store_journal.specs.declared.fault.StartFault.{StartFault}
use Rattle.store_journal.specs.laws.TurnLaws.{one_more, at_refused_one, reached_more}
use Rattle.store_journal.proofs.reading.read_entries.Goals as goal

pub returns-in_err-end-clause-refused : goal.returns-in_err-end-clause-refused
returns-in_err-end-clause-refused g c =
    let i = c.gates.invariant in
    let had =
    bytes_stood
    (λ (bytes : List ℕ). IsRefusedAt g.R.Receive.keep c.gates.gate (g.R.Receive.set c.gates.receiver) bytes
    c.in_err-end.field-0.0) _ _ i.same c.in_err-end.ensures.refused in
    let told = at_refused_one _ _ _ _ _ _ c.in_err-end.field-0.0 i.within c.requires.size i.so_far had in
    each_err_and c.from_residual.result _ _
    (λ f is.
    subst
    (λ (k : StartFault).
    IfTold (g.D.Disk.seen c.args.disk.now)
    (λ d. IsRefused g.R.Receive.keep (g.R.Receive.set c.args.receiver.now) d.bytes k)) (sym is) told)
    c.from_residual.ensures.1

pub gates-preserved : goal.gates-preserved
gates-preserved g c =
    let i = c.gates.invariant in
    let step = rw c.in-Goes.is at c.in_ok-end.ensures.turn in
    let far = rw c.in-Goes.is at c.in_ok-end.ensures.within in
    let goes =
    bytes_stood
    (λ (bytes : List ℕ). GoesTo g.R.Receive.keep c.gates.gate c.in-Goes.next (g.R.Receive.set c.gates.receiver)
    (g.R.Receive.set c.turn_at.new.receiver) bytes) _ _ i.same step in
    record {
      within = far.1;
      size = bytes_stay (λ (bytes : List ℕ). length bytes ≡ c.args.size) _ _ c.turn_at.ensures.same i.size;
      so_far = one_more _ _ _ _ _ _ _ i.so_far goes;
      reached = reached_more _ _ _ _ _ _ _ _ _ _ i.reached (rw c.in-Goes.is at c.in_ok-end.ensures.advances);
      same = reads_on _ _ _ i.same c.turn_at.ensures.same;
      later = omega (arith, i.later, c.turn_at.ensures.later);
    }
