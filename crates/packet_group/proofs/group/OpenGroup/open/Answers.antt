use Rattle.std.specs.Prelude.{count_by, is_some}
use Rattle.std.proofs.Common.{◌≡◌, ℕ, ◌*◌, ◌<◌, List, [], length, sym, ap, ap₂, ◌∙◌, arith, subst}
use Rattle.std.proofs.lemmas.List.Elements.{All-same, All-nil}
use Rattle.stripe_plan.specs.Layers.{AllNeeded, needs_of}
use Rattle.stripe_plan.proofs.PlanLemmas.{plan_ends_plan}
use Rattle.packet_frame.specs.declared.frame.Header.{Header}
use Rattle.packet_set.specs.laws.SlotCounts.{count_none}
use Rattle.stripe_plan.specs.declared.layer.LayerSize.{LayerSize}
use Rattle.packet_group.specs.OpenGroup.{count_in, layers_of, stripe_lengths}
use Rattle.packet_group.proofs.Filling.{length_filled, filled_bytes}
use Rattle.packet_group.proofs.Holding.{holds_none}
use Rattle.packet_group.proofs.Shown.{some_words, stripe_short}
use Rattle.packet_group.proofs.group.OpenGroup.open.Goals as goal

pub returns-clause-held : goal.returns-clause-held
returns-clause-held g c =
    let F = g.F.Field in
    let layers : c.args.header.now.table.layers ≡ layers_of c.in_ok-packets.packets =
    ap (λ (h : Header). h.table.layers) (sym c.in_ok-packets.ensures.header) in
    let lengths = c.in_ok-progress.ensures.lengths ∙ c.deref.ensures.value ∙ c.in_ok-lengths.ensures
    ∙ ap stripe_lengths layers in
    let needed : AllNeeded (layers_of c.in_ok-packets.packets) =
    subst AllNeeded layers c.packets-2.ensures.bounds.needed in
    holds_none F.is_element F.coding g.met.F.Field.lawful.spellings c.in_ok-packets.packets c.in_ok-progress.progress
    c.in_ok-message.message.items c.args.header.now.table.packets
    (plan_ends_plan (layers_of c.in_ok-packets.packets) needed) c.in_ok-packets.ensures.empty lengths
    c.in_ok-progress.ensures.stands

pub invariant_of-result : goal.invariant_of-result
invariant_of-result g c =
    let layers : c.args.header.now.table.layers ≡ layers_of c.in_ok-packets.packets =
    ap (λ (h : Header). h.table.layers) (sym c.in_ok-packets.ensures.header) in
    let wide : c.WIDTH-2.result ≡ g.F.Field.coding.width = c.WIDTH-2.ensures ∙ sym g.met.F.Field.wide in
    let size : length (needs_of c.args.header.now.table.layers) * c.WIDTH-2.result
    ≡ length (needs_of (layers_of c.in_ok-packets.packets)) * g.F.Field.coding.width =
    ap₂ (λ (l : List LayerSize) (w : ℕ). length (needs_of l) * w) layers wide in
    let none : count_in c.in_ok-packets.packets ≡ 0 =
    ap (count_by is_some) c.in_ok-packets.ensures.empty ∙ count_none (List ℕ) c.args.header.now.table.packets in
    let bytes = c.in_ok-message.message.items in
    let total = length (needs_of (layers_of c.in_ok-packets.packets)) * g.F.Field.coding.width in
    let nothing : bytes ≡ [] = c.in_ok-message.ensures.nothing in
    let long : length bytes ≡ 0 = ap length nothing in
    let needed : AllNeeded (layers_of c.in_ok-packets.packets) =
    subst AllNeeded layers c.packets-2.ensures.bounds.needed in
    record {
      tagged = λ number tag is. let no_tag = sym (c.in_ok-tags.ensures number) ∙ is in absurd (cc);
      given_back = tt;
      room = omega (arith, size, c.in_ok-message.ensures.room);
      message = record {
        whole = length_filled total bytes ∙ omega (arith, long);
        bytes = filled_bytes total bytes (All-same (λ b. b < 256) bytes [] nothing (All-nil (λ b. b < 256)));
      };
      shown =
          λ layer l few j m meets.
          absurd (omega (
            arith,
            few,
            none,
            stripe_short (layers_of c.in_ok-packets.packets) needed layer l j m meets,
            some_words (layers_of c.in_ok-packets.packets) needed j m,
          ));
    }
