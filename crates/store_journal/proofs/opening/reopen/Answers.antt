use Rattle.std.proofs.Common.{ℕ, List, sym, subst}
use Rattle.pet_base.specs.laws.Through.{each_err_and}
use Rattle.outside_disk.specs.Disk.{IfTold}
use Rattle.outside_disk.specs.laws.DiskLaws.{reads_call, reads_on, bytes_stood}
use Rattle.store_journal.specs.Opening.{IsStartFault}
use Rattle.store_journal.specs.inside.Turns.{AreRead, IsRefused}
use Rattle.store_journal.specs.laws.OpeningLaws.{at_head, at_gate, mend_leaves, mend_opens, read_ok}
use Rattle.store_journal.specs.declared.fault.StartFault.{StartFault}
use Rattle.store_journal.proofs.opening.reopen.Goals as goal

pub returns-in_err-check_head-clause-refused : goal.returns-in_err-check_head-clause-refused
returns-in_err-check_head-clause-refused g c =
    let told = at_head g.R.Receive.keep (g.R.Receive.set c.args.receiver.now) c.args.session.now _ _
    c.in_err-check_head.field-0.0 c.requires.long c.requires.size c.in_err-check_head.ensures.refused in
    each_err_and c.from_residual.result _ _
    (λ f is.
    subst
    (λ (k : StartFault).
    IfTold (g.D.Disk.seen c.args.disk.now)
    (λ d. IsStartFault g.R.Receive.keep (g.R.Receive.set c.args.receiver.now) c.args.session.now d.bytes k))
    (sym is) told)
    c.from_residual.ensures.1

pub returns-in_err-end-clause-refused : goal.returns-in_err-end-clause-refused
returns-in_err-end-clause-refused g c =
    let had =
    bytes_stood
    (λ (bytes : List ℕ). IsRefused g.R.Receive.keep (g.R.Receive.set c.args.receiver.now) bytes
    c.in_err-end.field-0.0) _ _ (reads_call _ _ c.check_head.ensures.same) c.in_err-end.ensures.refused in
    let told = at_gate g.R.Receive.keep (g.R.Receive.set c.args.receiver.now) c.args.session.now _ _
    c.in_err-end.field-0.0 c.requires.long c.requires.size c.in_ok-check_head.ensures.ok had in
    each_err_and c.from_residual-in_err-end.result _ _
    (λ f is.
    subst
    (λ (k : StartFault).
    IfTold (g.D.Disk.seen c.args.disk.now)
    (λ d. IsStartFault g.R.Receive.keep (g.R.Receive.set c.args.receiver.now) c.args.session.now d.bytes k))
    (sym is) told)
    c.from_residual-in_err-end.ensures.1

pub returns-in_err-mend-clause-images : goal.returns-in_err-mend-clause-images
returns-in_err-mend-clause-images g c =
    let first = reads_call _ _ c.check_head.ensures.same in
    let read =
    bytes_stood
    (λ (bytes : List ℕ). AreRead g.R.Receive.keep c.in_ok-end.end (g.R.Receive.set c.args.receiver.now)
    (g.R.Receive.set c.read_entries.new.receiver) bytes) _ _ first c.in_ok-end.ensures.read in
    mend_leaves _ _ _ _ c.in_ok-end.end _ _ _ c.told-session (reads_on _ _ _ first c.read_entries.ensures.same)
    c.in_ok-check_head.ensures.ok read c.mend.ensures.images

pub returns-clause-images : goal.returns-clause-images
returns-clause-images g c =
    let first = reads_call _ _ c.check_head.ensures.same in
    let read =
    bytes_stood
    (λ (bytes : List ℕ). AreRead g.R.Receive.keep c.in_ok-end.end (g.R.Receive.set c.args.receiver.now)
    (g.R.Receive.set c.read_entries.new.receiver) bytes) _ _ first c.in_ok-end.ensures.read in
    mend_leaves _ _ _ _ c.in_ok-end.end _ _ _ c.told-session (reads_on _ _ _ first c.read_entries.ensures.same)
    c.in_ok-check_head.ensures.ok read c.mend.ensures.images

pub returns-clause-open : goal.returns-clause-open
returns-clause-open g c =
    let first = reads_call _ _ c.check_head.ensures.same in
    let read =
    bytes_stood
    (λ (bytes : List ℕ). AreRead g.R.Receive.keep c.in_ok-end.end (g.R.Receive.set c.args.receiver.now)
    (g.R.Receive.set c.read_entries.new.receiver) bytes) _ _ first c.in_ok-end.ensures.read in
    mend_opens _ _ _ _ c.in_ok-end.end _ _ _ c.told-session (reads_on _ _ _ first c.read_entries.ensures.same)
    c.in_ok-check_head.ensures.ok read c.in_ok-mend.ensures.mended

pub returns-clause-read : goal.returns-clause-read
returns-clause-read g c =
    let first = reads_call _ _ c.check_head.ensures.same in
    let read =
    bytes_stood
    (λ (bytes : List ℕ). AreRead g.R.Receive.keep c.in_ok-end.end (g.R.Receive.set c.args.receiver.now)
    (g.R.Receive.set c.read_entries.new.receiver) bytes) _ _ first c.in_ok-end.ensures.read in
    read_ok _ _ _ _ c.in_ok-end.end _ c.told-session c.in_ok-check_head.ensures.ok read
