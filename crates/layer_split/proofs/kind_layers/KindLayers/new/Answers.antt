-- The layers of each kind and place.
use Rattle.std.proofs.Common.{◌≡◌, ◌<◌, ◌∙◌, length, refl, ap, subst}
use Rattle.pet_base.specs.declared.kind.Kind.TheVariants.{Head, I, P, B, D}
use Rattle.priority_file.specs.Priority.{Priorities, layer_of}
use Rattle.priority_file.specs.laws.PriorityLaws.{layer_of-within}
use Rattle.layer_split.specs.declared.kind_layers.KindLayers.{KindLayers}
use Rattle.layer_split.specs.Splitting.{layer_in}
use Rattle.layer_split.proofs.Tabling.{same_layer, table_is}
use Rattle.layer_split.proofs.kind_layers.KindLayers.new.Goals as goal

pub returns : goal.returns
returns c =
    let p : Priorities = c.args.priority.now in
    let kept : KindLayers = record {
      head = c.layer_of.result;
      i = c.layer_of-2.result;
      d = c.layer_of-3.result;
      p = c.layers_of.result;
      b = c.layers_of-2.result;
      count = c.len.result;
    } in
    record {
      layer = λ kind place some. elim kind as (λ k. layer_in kept k place ≡ layer_of p k place) [
        | Head ↦ c.layer_of.ensures.value ∙ same_layer p Head place refl
        | I ↦ c.layer_of-2.ensures.value ∙ same_layer p I place refl
        | P ↦ table_is p P c.layers_of.result place c.layers_of.ensures some
        | B ↦ table_is p B c.layers_of-2.result place c.layers_of-2.ensures some
        | D ↦ c.layer_of-3.ensures.value ∙ same_layer p D place refl
      ];
      count = c.len.ensures.value ∙ ap (λ (q : Priorities). length q.layers) c.priority.view_is;
      few = c.len.ensures.fits;
      within = λ kind place. subst (λ (q : Priorities). layer_of q kind place < length q.layers) c.priority.view_is
          (layer_of-within (record { packets = c.priority.inside.packets; layers = c.priority.inside.layers.items })
          c.priority.invariant kind place);
    }
