-- The bytes that are held, cut before this byte of the stream.
use Rattle.std.proofs.Common.{◌≡◌, ◌-◌, min, length, refl, ap, ◌∙◌, rules}
use Rattle.stream_groups.proofs.Held.{front_held, rest_held, taken_is}
use Rattle.stream_groups.proofs.groups.GroupCutter.take_group.Goals as goal

pub returns-clause-group : goal.returns-clause-group
returns-clause-group c begins =
    let size : c.len.result ≡ length c.args.self.now.held.items = search rules in
    taken_is c.args.self.now.from c.args.cut c.rebase.new.cut c.replace-bytes.result.items _ (c.rebase.ensures begins)
    (ap (λ v. v.items) c.replace-bytes.ensures.value
    ∙ (c.truncate.ensures.items
    ∙ front_held (c.args.end - c.args.self.now.from) c.len.result c.min-len.result c.args.self.now.held.items
    (c.min-len.ensures ∙ ap (λ n. min n c.len.result) c.saturating_sub.ensures) size))

pub returns-clause-held : goal.returns-clause-held
returns-clause-held c =
    let size : c.len.result ≡ length c.args.self.now.held.items = search rules in (
      ap (λ v. v.items) c.replace-bytes.ensures.after
          ∙ rest_held (c.args.end - c.args.self.now.from) c.len.result c.min-len.result c.args.self.now.held.items
          c.deref.result.now c.in_ok-rest.rest.items c.deref.ensures.value c.in_ok-rest.ensures.items
          (c.min-len.ensures ∙ ap (λ n. min n c.len.result) c.saturating_sub.ensures) size,
      refl,
    )
