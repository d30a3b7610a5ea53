-- One group more, or the first that is too long; and at the end the first that is too wide, or none.
use Rattle.std.proofs.Common.{◌≡◌, ◌<◌, ◌∙◌, [], Some, None, length, sym, ap, subst, arith, rules}
use Rattle.std.proofs.lemmas.Result.{err_from_is_err_and}
use Rattle.stream_session.proofs.OneGroupMore.{stands_none, cut_at, stands_more, stands_long, long_refuses}
use Rattle.stream_session.proofs.OneGroupMore.{StandsAt, few_kept}
use Rattle.stream_session.proofs.group_tables.GroupTables.tables_in.Goals as goal

pub loop-group-init : goal.loop-group-init
loop-group-init c priority cuts h =
    subst (λ ts. StandsAt c.args.format.now priority [] None ts) (sym c.new-tables.ensures.items)
    (stands_none c.args.format.now priority)

pub loop-group-preserved : goal.loop-group-preserved
loop-group-preserved c priority cuts h =
    let kept = c.args.self.now in
    let i = c.loop-group.group in
    let count : c.len-group-end.result ≡ length kept.layers.items = search rules in
    let lt : i < length kept.layers.items = omega (arith, c.loop-group-test.true, count) in
    let few = few_kept kept priority cuts h in
    let least = c.min-number.ensures in
    let at : c.min-number.result ≡ i = omega arith in
    let here = cut_at kept priority cuts i c.as_slice.result.now _ h lt (c.as_slice.ensures ∙ c.index.ensures) in
    stands_more c.args.format.now kept priority cuts i c.as_slice.result.now here c.loop-group.wide
    c.loop-group.tables.items (c.loop-group.invariant priority cuts h) c.table_of-made.result c.min-number.result
    c.take_made.new.tables.items c.take_made.new.wide at
    (c.table_of-made.ensures priority here.cut here.needs here.fit here.is) c.in_ok-take_made.ensures.taken

pub returns-in_err-take_made-clause-refused : goal.returns-in_err-take_made-clause-refused
returns-in_err-take_made-clause-refused c =
    let r = err_from_is_err_and c.from_residual.result c.from_residual.ensures.1 in
    let kept = c.args.self.now in
    let i = c.loop-group.group in
    let count : c.len-group-end.result ≡ length kept.layers.items = search rules in
    let lt : i < length kept.layers.items = omega (arith, c.loop-group-test.true, count) in
    rw (r.1, r.2) (λ ne limit priority cuts h.
    let few = few_kept kept priority cuts h in
    let least = c.min-number.ensures in
    let at : c.min-number.result ≡ i = omega arith in
    let here = cut_at kept priority cuts i c.as_slice.result.now _ h lt (c.as_slice.ensures ∙ c.index.ensures) in
    let fault = c.in_err-take_made.ensures.fault ne in
    long_refuses c.args.format.now limit priority cuts c.min-number.result
    (stands_long c.args.format.now kept priority cuts i c.as_slice.result.now here c.loop-group.wide
    c.loop-group.tables.items (c.loop-group.invariant priority cuts h) c.table_of-made.result c.min-number.result at
    fault.0 (c.table_of-made.ensures priority here.cut here.needs here.fit here.is))
    ∙ sym (ap (λ f. Some f) fault.1))
