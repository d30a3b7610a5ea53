-- One entry more.
use Rattle.std.proofs.Common.{◌≡◌, ◌+◌, ◌*◌, ◌++◌, ◌∷◌, [], ◌∙◌, ◌≤◌, ℕ, List, length, map, slice_index, sym, ap, arith}
use Rattle.std.specs.List.{range_with_len}
use Rattle.std.proofs.lemmas.List.{map-append}
use Rattle.std.proofs.lemmas.List.FromFn.{length-map-range_with_len}
use Rattle.layer_split.specs.RunTable.{named_run}
use Rattle.layer_split.proofs.Totals.{range_push}
use Rattle.layer_split.proofs.run_table.named_runs.Goals as goal

pub loop-i-preserved : goal.loop-i-preserved
loop-i-preserved c =
    let i : ℕ = c.loop-i.i in
    let bytes : List ℕ = c.args.bytes.now in
    let e : 0 + i ≡ i = omega arith in
    c.in_ok-push.ensures.items
    ∙ (ap (λ l. l ++ record { layer = slice_index bytes (4 + 5 * i); len = c.number_at.result } ∷ []) c.loop-i.invariant
    ∙ (ap (λ n. map (named_run bytes) (range_with_len 0 i) ++ record { layer = slice_index bytes (4 + 5 * i); len = n }
    ∷ []) c.number_at.ensures
    ∙ sym (ap (map (named_run bytes)) (range_push 0 i)
    ∙ (map-append (named_run bytes) (range_with_len 0 i) ((0 + i) ∷ [])
    ∙ ap (λ k. map (named_run bytes) (range_with_len 0 i) ++ named_run bytes k ∷ []) e))))

pub returns-clause-few : goal.returns-clause-few
returns-clause-few c =
    let count : length c.loop-i.runs.items ≡ c.loop-i.i =
    ap length c.loop-i.invariant ∙ length-map-range_with_len (named_run c.args.bytes.now) 0 c.loop-i.i in
    let end : c.loop-i.i ≤ c.number_at-i-end.result = c.loop-i.auto.i-end in
    let small = c.number_at-i-end.type_inv in
    omega arith
