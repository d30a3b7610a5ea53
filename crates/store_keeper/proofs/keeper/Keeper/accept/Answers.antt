use Rattle.std.proofs.Common.{◌+◌, length, ap, sym, subst, ◌∙◌, arith}
use Rattle.outside_disk.specs.Disk.{IfTold}
use Rattle.packet_verdicts.specs.KeptSet.{KeptSet, kept_in_all}
use Rattle.packet_verdicts.specs.Verdicts.{is_kept}
use Rattle.pet_receive.specs.Arrivals.{kept_set}
use Rattle.store_keeper.specs.Journal.{StandsFor}
use Rattle.store_keeper.specs.Keeper.{EachNow}
use Rattle.store_keeper.specs.laws.KeepLaws.{kept_short, kept_more}
use Rattle.store_keeper.specs.laws.GateLaws.{OpenFor, near, near_more, at_place, now_stands, same_since}
use Rattle.store_keeper.specs.laws.GateLaws.{added_leaves, added_since, added_opens}
use Rattle.store_keeper.proofs.Viewed.{since_seen, images_seen, not_going}
use Rattle.store_keeper.proofs.keeper.Keeper.accept.Goals as goal

pub returns-in_err-verdict-clause-since : goal.returns-in_err-verdict-clause-since
returns-in_err-verdict-clause-since g c =
    since_seen g.D.Disk.seen c.args.datagram.now c.self.inside.receiver c.self.inside.disk c.self.inside.stopped _ _
    c.self.view_is
    (same_since (kept_set c.self.inside.receiver) c.args.datagram.now c.self.inside.gate (g.D.Disk.seen c.self.inside.disk)
    (c.self.invariant.opened c.if-self.false))

pub returns-then-not-is_kept-clause-since : goal.returns-then-not-is_kept-clause-since
returns-then-not-is_kept-clause-since g c =
    since_seen g.D.Disk.seen c.args.datagram.now c.self.inside.receiver c.self.inside.disk c.self.inside.stopped _ _
    c.self.view_is
    (same_since (kept_set c.self.inside.receiver) c.args.datagram.now c.self.inside.gate (g.D.Disk.seen c.self.inside.disk)
    (c.self.invariant.opened c.if-self.false))

pub returns-then-not-is_kept-clause-stands : goal.returns-then-not-is_kept-clause-stands
returns-then-not-is_kept-clause-stands g c =
    let same = c.in_ok-verdict.ensures.unchanged (sym c.is_kept.ensures ∙ c.if-not-is_kept.true) in
    subst (λ (s : KeptSet). IfTold (g.D.Disk.seen c.self.inside.disk) (EachNow (StandsFor s))) (ap kept_set (sym same.0))
    (now_stands (kept_set c.self.inside.receiver) c.self.inside.gate (g.D.Disk.seen c.self.inside.disk)
    (c.self.invariant.opened c.if-self.false))

pub append-requires-clause-short : goal.append-requires-clause-short
append-requires-clause-short g c =
    let kept = ap is_kept (sym c.in_ok-verdict.ensures.verdict) ∙ sym c.is_kept.ensures ∙ c.if-not-is_kept.false in
    kept_short (kept_set c.self.inside.receiver) c.args.datagram.now (λ i. (c.type_inv.datagram i).fits) kept

pub append-requires-clause-room : goal.append-requires-clause-room
append-requires-clause-room g c =
    let kept = ap is_kept (sym c.in_ok-verdict.ensures.verdict) ∙ sym c.is_kept.ensures ∙ c.if-not-is_kept.false in
    let short = kept_short (kept_set c.self.inside.receiver) c.args.datagram.now (λ i. (c.type_inv.datagram i).fits) kept in
    omega (arith, short, c.self.invariant.room_is, c.deref_mut.ensures.len)

pub append-requires-clause-far : goal.append-requires-clause-far
append-requires-clause-far g c =
    omega (arith, near (kept_set c.self.inside.receiver) c.self.inside.gate c.self.invariant.sound c.self.invariant.near)

pub append-requires-clause-place : goal.append-requires-clause-place
append-requires-clause-place g c =
    at_place (kept_set c.self.inside.receiver) c.self.inside.gate (g.D.Disk.seen c.self.inside.disk)
    (c.self.invariant.opened c.if-self.false)

pub overflow_add-self-in-Ok : goal.overflow_add-self-in-Ok
overflow_add-self-in-Ok g c =
    let kept = ap is_kept (sym c.in_ok-verdict.ensures.verdict) ∙ sym c.is_kept.ensures ∙ c.if-not-is_kept.false in
    let short = kept_short (kept_set c.self.inside.receiver) c.args.datagram.now (λ i. (c.type_inv.datagram i).fits) kept in
    omega (
      arith,
      short,
      near (kept_set c.self.inside.receiver) c.self.inside.gate c.self.invariant.sound c.self.invariant.near,
    )

pub invariant_of-self-in-Ok : goal.invariant_of-self-in-Ok
invariant_of-self-in-Ok g c =
    let set = kept_set c.self.inside.receiver in
    let d = c.args.datagram.now in
    let kept = ap is_kept (sym c.in_ok-verdict.ensures.verdict) ∙ sym c.is_kept.ensures ∙ c.if-not-is_kept.false in
    let short = kept_short set d (λ i. (c.type_inv.datagram i).fits) kept in
    record {
      room_is = c.self.invariant.room_is;
      sound = c.accept.ensures.sound;
      near = omega (
        arith,
        near_more set d c.self.inside.gate c.self.invariant.sound kept short c.self.invariant.near,
        ap kept_in_all c.in_ok-verdict.ensures.kept,
      );
      opened = λ going.
          subst (λ (s : KeptSet). IfTold (g.D.Disk.seen c.append.new.disk) (OpenFor s (c.self.inside.gate + (3 + length d))))
          (sym c.in_ok-verdict.ensures.kept)
          (added_opens set d c.self.inside.gate short kept (g.D.Disk.seen c.self.inside.disk)
          (g.D.Disk.seen c.append.new.disk) (c.self.invariant.opened c.if-self.false) c.in-Ok.ensures.kept);
    }

pub invariant_of-self-in-Err : goal.invariant_of-self-in-Err
invariant_of-self-in-Err g c =
    let set = kept_set c.self.inside.receiver in
    let d = c.args.datagram.now in
    let kept = ap is_kept (sym c.in_ok-verdict.ensures.verdict) ∙ sym c.is_kept.ensures ∙ c.if-not-is_kept.false in
    record {
      room_is = c.self.invariant.room_is;
      sound = c.accept.ensures.sound;
      near = omega (
        arith,
        kept_more set d c.self.invariant.sound kept,
        c.self.invariant.near,
        ap kept_in_all c.in_ok-verdict.ensures.kept,
      );
      opened = λ going. not_going going;
    }

pub returns-in-Ok-clause-since : goal.returns-in-Ok-clause-since
returns-in-Ok-clause-since g c =
    let set = kept_set c.self.inside.receiver in
    let d = c.args.datagram.now in
    let kept = ap is_kept (sym c.in_ok-verdict.ensures.verdict) ∙ sym c.is_kept.ensures ∙ c.if-not-is_kept.false in
    let short = kept_short set d (λ i. (c.type_inv.datagram i).fits) kept in
    since_seen g.D.Disk.seen d c.self.inside.receiver c.self.inside.disk c.self.inside.stopped _ _ c.self.view_is
    (added_since set d c.self.inside.gate short kept (g.D.Disk.seen c.self.inside.disk) (g.D.Disk.seen c.append.new.disk)
    (c.self.invariant.opened c.if-self.false) c.append.ensures.images)

pub returns-in-Ok-clause-images : goal.returns-in-Ok-clause-images
returns-in-Ok-clause-images g c =
    let set = kept_set c.self.inside.receiver in
    let d = c.args.datagram.now in
    let kept = ap is_kept (sym c.in_ok-verdict.ensures.verdict) ∙ sym c.is_kept.ensures ∙ c.if-not-is_kept.false in
    let short = kept_short set d (λ i. (c.type_inv.datagram i).fits) kept in
    images_seen g.D.Disk.seen d c.self.inside.receiver c.self.inside.disk c.self.inside.stopped _ _ c.self.view_is
    (added_leaves set d c.self.inside.gate short kept (g.D.Disk.seen c.self.inside.disk) (g.D.Disk.seen c.append.new.disk)
    (c.self.invariant.opened c.if-self.false) c.append.ensures.images)

pub returns-in-Ok-clause-stands : goal.returns-in-Ok-clause-stands
returns-in-Ok-clause-stands g c =
    let set = kept_set c.self.inside.receiver in
    let d = c.args.datagram.now in
    let kept = ap is_kept (sym c.in_ok-verdict.ensures.verdict) ∙ sym c.is_kept.ensures ∙ c.if-not-is_kept.false in
    let short = kept_short set d (λ i. (c.type_inv.datagram i).fits) kept in
    now_stands (kept_set c.accept.new.self) (c.self.inside.gate + (3 + length d)) (g.D.Disk.seen c.append.new.disk)
    (subst (λ (s : KeptSet). IfTold (g.D.Disk.seen c.append.new.disk) (OpenFor s (c.self.inside.gate + (3 + length d))))
    (sym c.in_ok-verdict.ensures.kept)
    (added_opens set d c.self.inside.gate short kept (g.D.Disk.seen c.self.inside.disk)
    (g.D.Disk.seen c.append.new.disk) (c.self.invariant.opened c.if-self.false) c.in-Ok.ensures.kept))

pub returns-in-Err-clause-since : goal.returns-in-Err-clause-since
returns-in-Err-clause-since g c =
    let set = kept_set c.self.inside.receiver in
    let d = c.args.datagram.now in
    let kept = ap is_kept (sym c.in_ok-verdict.ensures.verdict) ∙ sym c.is_kept.ensures ∙ c.if-not-is_kept.false in
    let short = kept_short set d (λ i. (c.type_inv.datagram i).fits) kept in
    since_seen g.D.Disk.seen d c.self.inside.receiver c.self.inside.disk c.self.inside.stopped _ _ c.self.view_is
    (added_since set d c.self.inside.gate short kept (g.D.Disk.seen c.self.inside.disk) (g.D.Disk.seen c.append.new.disk)
    (c.self.invariant.opened c.if-self.false) c.append.ensures.images)

pub returns-in-Err-clause-images : goal.returns-in-Err-clause-images
returns-in-Err-clause-images g c =
    let set = kept_set c.self.inside.receiver in
    let d = c.args.datagram.now in
    let kept = ap is_kept (sym c.in_ok-verdict.ensures.verdict) ∙ sym c.is_kept.ensures ∙ c.if-not-is_kept.false in
    let short = kept_short set d (λ i. (c.type_inv.datagram i).fits) kept in
    images_seen g.D.Disk.seen d c.self.inside.receiver c.self.inside.disk c.self.inside.stopped _ _ c.self.view_is
    (added_leaves set d c.self.inside.gate short kept (g.D.Disk.seen c.self.inside.disk) (g.D.Disk.seen c.append.new.disk)
    (c.self.invariant.opened c.if-self.false) c.append.ensures.images)
