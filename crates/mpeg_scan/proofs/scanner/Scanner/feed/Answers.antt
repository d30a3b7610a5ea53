-- The invariant where the scanner reads on, and the stream cut there.
use Rattle.std.proofs.Common.{◌+◌, ◌++◌, sym, take, subst, arith}
use Rattle.std.proofs.lemmas.List.{append-nil}
use Rattle.std.proofs.lemmas.Result.{err_from_is_err_and}
use Rattle.mpeg_scan.specs.Refusals.{Refuses}
use Rattle.mpeg_scan.specs.Scanning.{HasRead, HasStopped, IsFrontOf, added}
use Rattle.mpeg_scan.proofs.Feeding.{slice_here, slice_further, slice_length, front_at}
use Rattle.mpeg_scan.proofs.Appended.{grown_both, added_both, added_none}
use Rattle.mpeg_scan.proofs.scanner.Scanner.feed.Goals as goal

pub returns-in_err-read-clause-refusal : goal.returns-in_err-read-clause-refusal
returns-in_err-read-clause-refusal c =
    let p = err_from_is_err_and c.from_residual.result c.from_residual.ensures.1 in
    rw (p.1, p.2) (λ ne s g r rest.
    subst (λ S. Refuses (S ++ rest) c.in_err-read.field-0.0) (slice_here s c.args.portion.now c.loop-read.read)
    (c.in_err-read.ensures.refusal ne (s ++ take c.loop-read.read c.args.portion.now)
    (g ++ added c.args.pieces.now.items c.loop-read.pieces.items) (c.loop-read.invariant.front s g r) rest))

pub returns-in_err-read-clause-stopped : goal.returns-in_err-read-clause-stopped
returns-in_err-read-clause-stopped c =
    let p = err_from_is_err_and c.from_residual.result c.from_residual.ensures.1 in
    rw (p.1, p.2) (λ ne s g r.
    let given = g ++ added c.args.pieces.now.items c.loop-read.pieces.items in
    subst (HasStopped (s ++ c.args.portion.now) c.in_err-read.field-0.0)
    (added_both c.args.pieces.now.items c.loop-read.pieces.items c.read_on.new.pieces.items g
    c.loop-read.invariant.grows c.read_on.ensures.grows)
    (subst (λ S. HasStopped S c.in_err-read.field-0.0
    (given ++ added c.loop-read.pieces.items c.read_on.new.pieces.items))
    (slice_here s c.args.portion.now c.loop-read.read)
    (c.in_err-read.ensures.stopped ne (s ++ take c.loop-read.read c.args.portion.now) given
    (c.loop-read.invariant.front s g r))))

pub returns-in_err-read-clause-front : goal.returns-in_err-read-clause-front
returns-in_err-read-clause-front c s g r =
    subst (λ ps. IsFrontOf (s ++ c.args.portion.now) (g ++ added c.args.pieces.now.items ps))
    (sym c.in_err-read.ensures.kept)
    (front_at c.loop-read.self s c.args.portion.now c.loop-read.read
    (g ++ added c.args.pieces.now.items c.loop-read.pieces.items) (c.loop-read.invariant.front s g r))

pub returns-in_err-read-clause-grows : goal.returns-in_err-read-clause-grows
returns-in_err-read-clause-grows c =
    grown_both c.args.pieces.now.items c.loop-read.pieces.items c.read_on.new.pieces.items c.loop-read.invariant.grows
    c.read_on.ensures.grows

pub returns-clause-front : goal.returns-clause-front
returns-clause-front c s g r =
    front_at c.loop-read.self s c.args.portion.now c.loop-read.read
    (g ++ added c.args.pieces.now.items c.loop-read.pieces.items) (c.loop-read.invariant.front s g r)

pub loop-read-init : goal.loop-read-init
loop-read-init c = record {
  within = omega arith;
  grows = sym (added_none c.args.pieces.now.items c.args.pieces.now.items);
  front = λ s g r.
      subst (λ S. HasRead c.args.self.now S (g ++ added c.args.pieces.now.items c.args.pieces.now.items))
      (sym (append-nil s))
      (subst (HasRead c.args.self.now s) (sym (added_none c.args.pieces.now.items g)) r);
}

pub loop-read-preserved : goal.loop-read-preserved
loop-read-preserved c = record {
  within =
      let n = c.in_ok-read.ensures.count.1 in let w = c.loop-read.invariant.within in
      omega (arith, slice_length c.args.portion.now c.loop-read.read);
  grows =
      grown_both c.args.pieces.now.items c.loop-read.pieces.items c.read_on.new.pieces.items
      c.loop-read.invariant.grows c.read_on.ensures.grows;
  front = λ s g r.
      subst (λ G. HasRead c.read_on.new.self (s ++ take (c.loop-read.read + c.in_ok-read.field-0) c.args.portion.now) G)
      (added_both c.args.pieces.now.items c.loop-read.pieces.items c.read_on.new.pieces.items g
      c.loop-read.invariant.grows c.read_on.ensures.grows)
      (subst (λ S. HasRead c.read_on.new.self S
      ((g ++ added c.args.pieces.now.items c.loop-read.pieces.items)
      ++ added c.loop-read.pieces.items c.read_on.new.pieces.items))
      (slice_further s c.args.portion.now c.loop-read.read c.in_ok-read.field-0)
      (c.in_ok-read.ensures.ok (s ++ take c.loop-read.read c.args.portion.now)
      (g ++ added c.args.pieces.now.items c.loop-read.pieces.items) (c.loop-read.invariant.front s g r)));
}
