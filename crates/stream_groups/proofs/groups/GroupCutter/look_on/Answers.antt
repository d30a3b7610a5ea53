-- A piece more, and a fault of what was not looked at.
use Rattle.std.proofs.Common.{◌++◌, sym, ap, ◌∙◌, subst, arith}
use Rattle.std.proofs.lemmas.List.{append-nil}
use Rattle.std.proofs.lemmas.Result.{err_from_is_err_and}
use Rattle.stream_groups.specs.Cutting.{HasLooked, groups_in}
use Rattle.stream_groups.proofs.groups.GroupCutter.look_on.Goals as goal

pub returns-in_err-group-clause-fault : goal.returns-in_err-group-clause-fault
returns-in_err-group-clause-fault c =
    let p = err_from_is_err_and c.from_residual.result c.from_residual.ensures.1 in
    rw (p.1, p.2) (λ ne priority seen pieces given h.
    c.in_err-group.ensures.fault ne priority seen pieces given
    (c.loop-self.invariant.looked priority seen pieces given h))

pub returns-in_err-group-clause-limit : goal.returns-in_err-group-clause-limit
returns-in_err-group-clause-limit c =
    let p = err_from_is_err_and c.from_residual.result c.from_residual.ensures.1 in
    rw (p.1, p.2) (λ ne priority seen pieces given h.
    c.in_err-group.ensures.limit ne priority seen pieces given
    (c.loop-self.invariant.looked priority seen pieces given h))

pub returns-in-Some-clause-looked : goal.returns-in-Some-clause-looked
returns-in-Some-clause-looked c priority seen pieces given h =
    subst (HasLooked c.look.new.self priority seen pieces) (ap (λ group. given ++ groups_in group) c.in-Some.is)
    (c.in_ok-group.ensures.looked priority seen pieces given
    (c.loop-self.invariant.looked priority seen pieces given h))

pub returns-in-Some-clause-idle : goal.returns-in-Some-clause-idle
returns-in-Some-clause-idle c none =
    absurd (omega (arith, c.in_ok-group.ensures.fewer, c.loop-self.invariant.fewer, none))

pub loop-self-preserved : goal.loop-self-preserved
loop-self-preserved c = record {
  looked = λ priority seen pieces given h.
      subst (HasLooked c.look.new.self priority seen pieces)
      (ap (λ group. given ++ groups_in group) c.in_default.is ∙ append-nil given)
      (c.in_ok-group.ensures.looked priority seen pieces given
      (c.loop-self.invariant.looked priority seen pieces given h));
  fewer = omega (arith, c.in_ok-group.ensures.fewer, c.loop-self.invariant.fewer);
  idle = λ none. absurd (omega (arith, c.in_ok-group.ensures.fewer, c.loop-self.invariant.fewer, none));
  scanner = c.look.ensures.rest.0 ∙ c.loop-self.invariant.scanner;
  scan = c.look.ensures.rest.1 ∙ c.loop-self.invariant.scan;
  fault = c.look.ensures.rest.2 ∙ c.loop-self.invariant.fault;
}

pub returns-clause-looked : goal.returns-clause-looked
returns-clause-looked c priority seen pieces given h =
    subst (HasLooked c.loop-self.self priority seen pieces) (sym (append-nil given))
    (c.loop-self.invariant.looked priority seen pieces given h)
