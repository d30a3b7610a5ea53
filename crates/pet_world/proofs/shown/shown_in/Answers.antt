use Rattle.std.proofs.Common.{◌≡◌, ◌++◌, ◌+◌, ℕ, Bool, cond, true, false, eqb, List, [], ◌∷◌, map, refl, sym, ap, ◌∙◌}
use Rattle.std.proofs.Common.{arith}
use Rattle.std.specs.Prelude.{filter}
use Rattle.std.specs.Int.{bit_at}
use Rattle.std.specs.List.{range_with_len}
use Rattle.std.proofs.lemmas.List.{map-append}
use Rattle.pet_base.specs.declared.limits.TheConstants.{MAX_LAYERS}
use Rattle.packet_verdicts.specs.laws.LayerSetLaws.{filter_more}
use Rattle.pet_base.specs.declared.event.Shown.{Shown}
use Rattle.pet_world.specs.ReceivedSets.{shown_to}
use Rattle.pet_world.proofs.shown.shown_in.Goals as goal

shown_more : (p : ℕ → Bool) (receiver group n : ℕ) (b : Bool) (old new : List Shown) → b ≡ p n
    → old ≡ shown_to receiver (map (λ layer. (group, layer)) (filter p (range_with_len 0 n)))
    → new ≡ old ++ cond {A = List Shown} b (record { receiver = receiver; group = group; layer = n } ∷ []) []
    → new ≡ shown_to receiver (map (λ layer. (group, layer)) (filter p (range_with_len 0 (n + 1))))
shown_more p receiver group n b old new is so next =
    let pair : ℕ → ℕ × ℕ = λ layer. (group, layer) in
    let named : ℕ × ℕ → Shown = λ q. record { receiver = receiver; group = q.0; layer = q.1 } in
    next ∙ ap (λ (t : List Shown). t
    ++ cond {A = List Shown} b (record { receiver = receiver; group = group; layer = n } ∷ []) []) so
    ∙ ap (λ (t : List Shown). map named (map pair (filter p (range_with_len 0 n))) ++ t)
    (one b ∙ ap (λ (t : Bool). map named (map pair (cond t (n ∷ []) []))) is)
    ∙ sym (map-append named (map pair (filter p (range_with_len 0 n))) (map pair (cond (p n) (n ∷ []) [])))
    ∙ ap (map named) (sym (map-append pair (filter p (range_with_len 0 n)) (cond (p n) (n ∷ []) []))
    ∙ ap (map pair) (sym (filter_more p n)))
  where
    one : (t : Bool)
        → cond {A = List Shown} t (record { receiver = receiver; group = group; layer = n } ∷ []) []
        ≡ shown_to receiver (map (λ layer. (group, layer)) (cond t (n ∷ []) []))
    one true = refl
    one false = refl

pub put_if-requires : goal.put_if-requires
put_if-requires c = omega (arith, c.loop-layer.invariant.few, c.loop-layer.invariant.room, c.loop-layer-test.true)

pub loop-layer-preserved : goal.loop-layer-preserved
loop-layer-preserved c = record {
  items =
      shown_more (λ j. eqb (bit_at c.args.layers.bits j) 1) c.args.receiver c.args.group c.loop-layer.layer
      c.has.result c.loop-layer.shown.items c.put_if.new.shown.items c.has.ensures c.loop-layer.invariant.items
      c.put_if.ensures.items;
  few = omega (arith, c.put_if.ensures.len, c.loop-layer.invariant.few);
  room = omega (arith, c.put_if.ensures.room, c.loop-layer.invariant.room);
}

pub returns : goal.returns
returns c =
    let end : c.loop-layer.layer ≡ MAX_LAYERS = omega (arith, c.loop-layer-test.false, c.loop-layer.auto.layer-end) in
    c.loop-layer.invariant.items
    ∙ ap (λ (n : ℕ). shown_to c.args.receiver
    (map (λ layer. (c.args.group, layer)) (filter (λ j. eqb (bit_at c.args.layers.bits j) 1) (range_with_len 0 n)))) end
