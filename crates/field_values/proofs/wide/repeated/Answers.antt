use Rattle.std.proofs.Common.{◌≡◌, ◌++◌, length, take, replicate, ap, ◌∙◌, arith}
use Rattle.std.proofs.lemmas.List.{length-replicate, replicate-append-replicate, take-replicate}
use Rattle.field_values.proofs.wide.repeated.Goals as goal

pub returns-clause-items : goal.returns-clause-items
returns-clause-items g c =
    let all : c.loop-done.done ≡ c.args.count = omega (arith, c.loop-done.invariant.within) in
    c.loop-done.invariant.items ∙ ap (λ n. replicate n c.args.element) all

pub loop-done-preserved : goal.loop-done-preserved
loop-done-preserved g c =
    let more = c.min-more.result in
    let x = c.args.element in
    let copies : c.deref.result.now ≡ replicate c.min.result x = c.deref.ensures.value ∙ c.in_ok-some.ensures.items in
    let part : take more c.deref.result.now ≡ replicate more x =
    ap (take more) copies ∙ take-replicate more c.min.result x (omega (arith, c.in_ok-some.ensures.len)) in
    record {
      items =
          c.in_ok-extend_from_slice.ensures.items ∙ ap (λ l. c.loop-done.row.items ++ l) part
          ∙ ap (λ l. l ++ replicate more x) c.loop-done.invariant.items
          ∙ replicate-append-replicate c.loop-done.done more x;
      len =
          omega (
            arith,
            c.in_ok-extend_from_slice.ensures.len,
            c.loop-done.invariant.len,
            ap length part,
            length-replicate more x,
          );
      within = omega (arith, c.loop-done.invariant.within);
    }
