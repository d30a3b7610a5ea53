-- Refused before, or at the end of an accepted stream.
use Rattle.std.proofs.Common.{refl}
use Rattle.std.proofs.lemmas.Result.{IfOk-weaker, IfErr-weaker}
use Rattle.stream_groups.proofs.Reading.{live_of, ends, refused_before, refused_at_end, groups_refused}
use Rattle.stream_groups.proofs.Further.{none_further, any_further}
use Rattle.stream_groups.proofs.groups.GroupCutter.finish.Goals as goal

pub returns-in-Some-clause-refused : goal.returns-in-Some-clause-refused
returns-in-Some-clause-refused c priority stream given h =
    refused_before c.args.self.now priority stream given c.in-Some.scan c.in-Some.is h

pub returns-in-Some-clause-further : goal.returns-in-Some-clause-further
returns-in-Some-clause-further c = none_further c.args.self.now

pub returns-in-Some-fault-clause-refused : goal.returns-in-Some-fault-clause-refused
returns-in-Some-fault-clause-refused c priority stream given h =
    groups_refused c.args.self.now priority stream given c.in-Some-fault.fault c.in_default.is c.in-Some-fault.is
    (λ s pieces read. (c.in-Ok.ensures.ok s pieces read).0) h

pub returns-in-Some-fault-clause-further : goal.returns-in-Some-fault-clause-further
returns-in-Some-fault-clause-further c = none_further c.args.self.now

pub returns-in-None-clause-whole : goal.returns-in-None-clause-whole
returns-in-None-clause-whole c =
    IfOk-weaker c.last_groups.result _ _
    (λ left whole priority stream given h.
    let live = live_of c.args.self.now priority stream given h c.in-None.is c.in_default.is in
    let done = c.in-Ok.ensures.ok stream live.pieces live.read in
    let standing = c.in-Ok.ensures.standing stream live.pieces live.read in
    let all = whole priority stream given (ends c.args.self.now _ priority stream given live c.finish.ensures.grows
    refl refl refl refl done.1 standing.0 standing.1) in
    record { all = all.0; cuttable = (done.0, all.1) })
    c.last_groups.ensures.whole

pub returns-in-None-clause-refused : goal.returns-in-None-clause-refused
returns-in-None-clause-refused c =
    IfErr-weaker c.last_groups.result _ _
    (λ fault refused priority stream given h.
    let live = live_of c.args.self.now priority stream given h c.in-None.is c.in_default.is in
    let done = c.in-Ok.ensures.ok stream live.pieces live.read in
    let standing = c.in-Ok.ensures.standing stream live.pieces live.read in
    refused priority stream given (ends c.args.self.now _ priority stream given live c.finish.ensures.grows refl refl
    refl refl done.1 standing.0 standing.1) done.0)
    c.last_groups.ensures.refused

pub returns-in-None-clause-further : goal.returns-in-None-clause-further
returns-in-None-clause-further c = any_further c.last_groups.result c.args.self.now

pub returns-in-NoMemory-clause-further : goal.returns-in-NoMemory-clause-further
returns-in-NoMemory-clause-further c = none_further c.args.self.now

pub returns-in_default-scan : goal.returns-in_default-scan
returns-in_default-scan c = record {
  whole = tt;
  refused = λ priority stream given h.
      refused_at_end c.args.self.now priority stream given c.in-Err.scan c.in_default.is
      (c.in-Err.ensures.refusal c.in_default-scan.not-NoMemory) h;
  further = none_further c.args.self.now;
}
