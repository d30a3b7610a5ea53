use Rattle.std.proofs.Common.{rules, ◌≡◌, ◌*◌, ◌<◌, ℕ, List, [], ◌∷◌, ◌++◌, length, Some, sym, ap, ap₂, ◌∙◌, arith, subst}
use Rattle.std.proofs.Common.{nat_cmp}
use Rattle.std.specs.Map.{lookup}
use Rattle.std.specs.BTreeMap.{is_at}
use Rattle.std.proofs.lemmas.Option.{same_Some}
use Rattle.packet_frame.specs.View.{view}
use Rattle.packet_set.specs.Packets.{with_packet}
use Rattle.stripe_plan.specs.declared.layer.LayerSize.{LayerSize}
use Rattle.stripe_plan.specs.Layers.{plan_ends}
use Rattle.packet_frame.specs.declared.frame.Header.{Header}
use Rattle.packet_receiver.specs.Arrivals.{GroupState, HoldsAfter, layers_of}
use Rattle.packet_receiver.proofs.Tagged.{kept_tag}
use Rattle.packet_receiver.proofs.keeping.keep_in.Goals as goal

pub keep-requires-clause-payload : goal.keep-requires-clause-payload
keep-requires-clause-payload g c =
    let f = view c.args.frame.now in
    let state = c.in-Some.open.now in
    let found : lookup (is_at (nat_cmp f.group)) c.args.groups.now.entries ≡ Some state = sym c.in-Some.ensures.value in
    let layers : layers_of state.packets ≡ f.layers =
    ap (λ (h : Header). h.table.layers) (c.requires.ready.header state found) in
    let width = g.F.Field.coding.width in
    c.requires.frame.payload
    ∙ ap₂ (λ (n : ℕ) (l : List LayerSize). n * length (plan_ends l)) (sym (c.requires.ready.word state found))
    (sym layers)

pub keep-requires-clause-points : goal.keep-requires-clause-points
keep-requires-clause-points g c =
    let f = view c.args.frame.now in
    let state = c.in-Some.open.now in
    let found : lookup (is_at (nat_cmp f.group)) c.args.groups.now.entries ≡ Some state = sym c.in-Some.ensures.value in
    omega (arith, c.requires.points, ap (λ (h : Header). h.table.packets) (c.requires.ready.header state found))

pub tag_open-requires : goal.tag_open-requires
tag_open-requires g c =
    let f = view c.args.frame.now in
    let state = c.in-Some.open.now in
    let found : lookup (is_at (nat_cmp f.group)) c.args.groups.now.entries ≡ Some state = sym c.in-Some.ensures.value in
    let header = c.requires.ready.header state found in
    let inside : f.number < length state.packets.slots =
    omega (
      arith,
      c.requires.frame.number,
      c.requires.ready.slots state found,
      ap (λ (h : Header). h.table.packets) header,
    ) in
    kept_tag state.packets c.keep.new.self.packets f c.args.tag header inside c.keep.ensures.packets c.requires.tag

pub returns-in-Some-clause-kept : goal.returns-in-Some-clause-kept
returns-in-Some-clause-kept g c state is =
    let F = g.F.Field in
    let found : Some c.in-Some.open.now ≡ Some state = c.in-Some.ensures.value ∙ is in
    let same : c.in-Some.open.now ≡ state = same_Some c.in-Some.open.now state found in (
      c.tag_open.new.group,
      search rules,
      ap (λ (s : GroupState g.row.F-Elem.Denot). s.packets) c.tag_open.ensures ∙ c.keep.ensures.packets
          ∙ ap (λ (s : GroupState g.row.F-Elem.Denot). with_packet s.packets c.args.frame.now.number
          c.args.frame.now.payload.now) same,
      subst (λ (s : GroupState g.row.F-Elem.Denot). (numbers : List ℕ) → HoldsAfter F.is_element F.coding s numbers
          → HoldsAfter F.is_element F.coding c.tag_open.new.group (numbers ++ (c.args.frame.now.number ∷ []))) same
          (subst (λ (t : GroupState g.row.F-Elem.Denot). (numbers : List ℕ)
          → HoldsAfter F.is_element F.coding c.in-Some.open.now numbers
          → HoldsAfter F.is_element F.coding t (numbers ++ (c.args.frame.now.number ∷ [])))
          (sym c.tag_open.ensures) c.keep.ensures.held),
    )
