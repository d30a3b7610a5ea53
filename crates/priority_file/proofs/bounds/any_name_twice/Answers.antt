use Rattle.std.proofs.Common.{◌∙◌, ◌+◌, ◌-◌, length, take, drop, sym, ap, bytes_eq}
use Rattle.std.specs.List.{list_any}
use Rattle.priority_file.proofs.ListWalks.{unlike_later, like_later, none_like}
use Rattle.priority_file.proofs.bounds.any_name_twice.Goals as goal

pub loop-i-preserved : goal.loop-i-preserved
loop-i-preserved c =
    let name = c.as_str.ensures.value ∙ ap (λ l. l.name) c.layer.view_is in
    let later = take (length c.args.layers.now - (c.loop-i.i + 1)) (drop (c.loop-i.i + 1) c.args.layers.now) in
    let unlike = ap (λ n. list_any (λ l. bytes_eq n l.name) later) (sym name) ∙ sym c.any_named.ensures
    ∙ c.if-any_named.false in
    unlike_later (λ l m. bytes_eq l.name m.name) c.args.layers.now c.loop-i.i c.index-layers-i.result
    c.loop-i-test.true c.index-layers-i.is unlike c.loop-i.invariant

pub returns-then-any_named : goal.returns-then-any_named
returns-then-any_named c =
    let name = c.as_str.ensures.value ∙ ap (λ l. l.name) c.layer.view_is in
    let later = take (length c.args.layers.now - (c.loop-i.i + 1)) (drop (c.loop-i.i + 1) c.args.layers.now) in
    let like = ap (λ n. list_any (λ l. bytes_eq n l.name) later) (sym name) ∙ sym c.any_named.ensures
    ∙ c.if-any_named.true in
    like_later (λ l m. bytes_eq l.name m.name) c.args.layers.now c.loop-i.i c.index-layers-i.result c.loop-i-test.true
    c.index-layers-i.is like c.loop-i.invariant

pub returns : goal.returns
returns c =
    none_like (λ l m. bytes_eq l.name m.name) c.args.layers.now c.loop-i.i c.loop-i-test.false c.loop-i.invariant
