use Rattle.std.specs.Prelude.{option_copied, map}
use Rattle.std.specs.List.{flat_map}
use Rattle.std.proofs.Common.{◌≡◌, ℕ, List, Option, ◌∷◌, ◌++◌, sym, ap, ap₂, ◌∙◌}
use Rattle.std.proofs.lemmas.List.{append_assoc}
use Rattle.packet_set.specs.Packets.{Packets}
use Rattle.packet_verdicts.specs.GroupLayers.{shown_by_both}
use Rattle.packet_receiver.specs.inside.Joining.{packets_by, packets_at, shown_at}
use Rattle.packet_receiver.proofs.shown.newly_shown.Goals as goal

-- one group more
step : {X : Type 0} (kept : X → Packets) (mine : List (ℕ × Packets)) (it : List (ℕ × X)) (e : ℕ × X)
    (rest : List (ℕ × X)) (o : Option Packets) (p : Packets) (new old : List (ℕ × ℕ))
    → it ≡ e ∷ rest → o ≡ packets_at mine e.0 → p ≡ kept e.1
    → new ≡ old ++ map (λ layer. (e.0, layer)) (shown_by_both o p)
    → new ++ flat_map (shown_at mine) (packets_by kept rest) ≡ old ++ flat_map (shown_at mine) (packets_by kept it)
step kept mine it e rest o p new old is here packets pushed =
    let later = flat_map (shown_at mine) (packets_by kept rest) in
    let one = ap₂ (λ x y. old ++ map (λ layer. (e.0, layer)) (shown_by_both x y)) here packets in
    ap (λ t. t ++ later) (pushed ∙ one)
    ∙ append_assoc old (shown_at mine (e.0, kept e.1)) later
    ∙ ap (λ t. old ++ flat_map (shown_at mine) (packets_by kept t)) (sym is)

pub loop-group-preserved : goal.loop-group-preserved
loop-group-preserved g c =
    let kept = g.G.HasPackets.kept in
    step kept (packets_by kept c.args.groups.now.entries) c.loop-group.group-iterator
    (c.in-Some.group.now, c.in-Some.other.now) c.next.new.self (option_copied c.packets_in.result) c.packets.result.now
    c.push_shown.new.shown.items c.loop-group.shown.items c.in-Some.ensures.steps c.packets_in.ensures
    c.packets.ensures c.in_ok-push_shown.ensures
    ∙ c.loop-group.invariant
