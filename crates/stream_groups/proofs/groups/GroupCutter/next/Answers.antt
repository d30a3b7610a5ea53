-- A group or none, and a refusal.
use Rattle.std.proofs.Common.{◌≡◌, Option, None, Result, Ok, Err, ◌∙◌}
use Rattle.layer_split.specs.declared.fault.SplitFault.{SplitFault}
use Rattle.stream_groups.specs.CutGroups.{CutGroup}
use Rattle.stream_groups.proofs.Reading.{gives, stops}
use Rattle.stream_groups.proofs.groups.GroupCutter.next.Goals as goal

ok_is : (answer : Result (Option CutGroup) SplitFault) (group : Option CutGroup) → answer ≡ Ok group → answer ≡ Ok None
    → group ≡ None
ok_is answer group is none = cc

err_is : (answer : Result (Option CutGroup) SplitFault) (fault : SplitFault) → answer ≡ Err fault → answer ≡ Ok None → ⊥
err_is answer fault is none = cc

pub returns-in-Ok-clause-cut : goal.returns-in-Ok-clause-cut
returns-in-Ok-clause-cut c priority stream given h =
    let rest = c.look_on.ensures.rest in
    gives c.args.self.now c.look_on.new.self c.in-Ok.group priority stream given
    (λ seen pieces. c.in-Ok.ensures.looked priority seen pieces given)
    (λ left. let same = c.look_on.ensures.idle left in (ok_is c.look_on.result c.in-Ok.group c.in-Ok.is same.0, same.1))
    rest.0 rest.1 rest.2 h

pub returns-in_ok-pass_on_fault-in-Err-clause-cut : goal.returns-in_ok-pass_on_fault-in-Err-clause-cut
returns-in_ok-pass_on_fault-in-Err-clause-cut c priority stream given h =
    let told = c.in_ok-pass_on_fault-in-Err.ensures in
    let looked = c.look_on.ensures.rest in
    let stopped = c.stop.ensures.rest in
    stops c.args.self.now c.stop.new.self priority stream given c.in-Err.fault told
    (λ seen pieces. c.in-Err.ensures.fault told priority seen pieces given)
    (λ seen pieces. c.in-Err.ensures.limit told priority seen pieces given)
    (λ left. err_is c.look_on.result c.in-Err.fault c.in-Err.is (c.look_on.ensures.idle left).0)
    c.stop.ensures.kept c.stop.ensures.none_left (stopped.0 ∙ looked.0) (stopped.1 ∙ looked.1) h
