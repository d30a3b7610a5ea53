-- One layer more.
use Rattle.std.proofs.Common.{◌≡◌, ◌+◌, List, [], ◌∷◌, ◌++◌, length, refl, sym, ap, subst, ◌∙◌, arith, inl, inr}
use Rattle.std.proofs.lemmas.Bool.{cases_eq}
use Rattle.std.proofs.lemmas.List.{length_push}
use Rattle.packet_session.specs.Session.{bytes_of_layer}
use Rattle.pet_receive.specs.Arrivals.{kept_set, numbers_of, layers_of}
use Rattle.pet_receive.specs.ShownBytes.{IsShown}
use Rattle.reassemble.specs.declared.leading.ShownLayer.{ShownLayer}
use Rattle.reassemble.proofs.Layers.{bytes_more, map_more}
use Rattle.reassemble.proofs.leading.leading_layers.Goals as goal

pub loop-layer-preserved : goal.loop-layer-preserved
loop-layer-preserved g c =
    let F = g.F.Field in
    let layers : List ShownLayer = c.loop-layer.layers.items in
    let one : ShownLayer = record { bytes = c.in-Some.bytes } in
    let items : c.push.new.self.items ≡ layers ++ one ∷ [] = c.push.ensures.items in
    record {
      many = ap length items ∙ (length_push layers one ∙ ap (λ n. n + 1) c.loop-layer.invariant.many);
      shown =
          λ layer lt.
          elim (cases_eq layer c.loop-layer.layer) [
            | inl here ↦ subst (IsShown (kept_set c.args.receiver.now) c.args.group) (sym here)
                (c.in-Some.ensures.shown.0 refl)
            | inr other ↦ c.loop-layer.invariant.shown layer (omega arith)
          ];
      bytes =
          λ order p kept opened.
          bytes_more F.is_element F.coding p (numbers_of order c.args.group) layers c.push.new.self.items one
          c.loop-layer.layer c.loop-layer.invariant.many items
          (c.loop-layer.invariant.bytes order p kept opened) (c.in-Some.ensures.bytes order p kept opened);
      agreed =
          λ p message opened is agrees.
          map_more (bytes_of_layer F.coding.width (layers_of p) message) layers c.push.new.self.items one
          c.loop-layer.layer items
          (c.loop-layer.invariant.agreed p message opened is agrees)
          (c.in-Some.ensures.agreed p message opened is agrees);
    }
