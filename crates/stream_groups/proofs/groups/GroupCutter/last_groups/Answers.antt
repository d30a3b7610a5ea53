-- The groups that are left, behind none.
use Rattle.std.proofs.Common.{◌++◌, ◌∙◌, sym, ap, subst}
use Rattle.std.proofs.lemmas.List.{append-nil}
use Rattle.stream_groups.specs.Cutting.{HasEnded}
use Rattle.stream_groups.proofs.groups.GroupCutter.last_groups.Goals as goal

pub returns-in-Ok-clause-whole : goal.returns-in-Ok-clause-whole
returns-in-Ok-clause-whole c priority stream given h =
    c.in-Ok.ensures.whole priority stream given
    (subst (HasEnded c.args.self.now priority stream)
    (sym (ap (λ l. given ++ l) c.new-groups.ensures.items ∙ append-nil given)) h)

pub returns : goal.returns
returns c = record {
  whole = tt;
  refused = λ priority stream given h accepted. (
    accepted,
    c.in_default.not-NoMemory,
    c.in-Err.ensures.fault c.in_default.not-NoMemory priority stream given
        (subst (HasEnded c.args.self.now priority stream)
        (sym (ap (λ l. given ++ l) c.new-groups.ensures.items ∙ append-nil given)) h),
  );
}
