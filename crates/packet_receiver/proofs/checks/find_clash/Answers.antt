use Rattle.std.specs.Prelude.{option_copied}
use Rattle.std.proofs.Common.{◌≡◌, ℕ, Option, List, ◌∷◌, sym, ap, ◌∙◌}
use Rattle.packet_set.specs.Packets.{Packets}
use Rattle.packet_verdicts.specs.GroupClash.{first_clash_in}
use Rattle.packet_receiver.specs.inside.Joining.{clash_from, clash_or, packets_by, packets_at}
use Rattle.packet_receiver.proofs.Clashes.{clash_next, clash_end}
use Rattle.packet_receiver.proofs.checks.find_clash.Given.{Over}
use Rattle.packet_receiver.proofs.checks.find_clash.Goals as goal
use Rattle.packet_receiver.proofs.checks.find_clash.Goals.{After-clash_in}

-- one group more
step : {X : Type 0} (kept : X → Packets) (told : Option ℕ) (mine : List (ℕ × Packets)) (it : List (ℕ × X)) (e : ℕ × X)
    (rest : List (ℕ × X)) (o : Option Packets) (p : Packets) (r : Option ℕ)
    → it ≡ e ∷ rest → o ≡ packets_at mine e.0 → p ≡ kept e.1 → r ≡ first_clash_in told o p
    → clash_from told mine (packets_by kept it) ≡ clash_or e.0 r (clash_from told mine (packets_by kept rest))
step kept told mine it e rest o p r is here packets found =
    let later = packets_by kept rest in
    ap (λ x. clash_from told mine (packets_by kept x)) is ∙ clash_next mine told (e.0, kept e.1) later
    ∙ ap (λ x. clash_or e.0 x (clash_from told mine later))
    (sym (found ∙ ap (λ x. first_clash_in told x p) here ∙ ap (first_clash_in told (packets_at mine e.0)) packets))

-- the group at hand, by what was found of it
found : (g : Over) (c : After-clash_in g) (x : Option ℕ) → c.clash_in.result ≡ x
    → clash_or c.in-Some.group.now x (clash_from c.args.told (packets_by g.G.HasPackets.kept c.args.groups.now.entries)
    (packets_by g.G.HasPackets.kept c.next.new.self))
    ≡ clash_from c.args.told (packets_by g.G.HasPackets.kept c.args.groups.now.entries)
    (packets_by g.G.HasPackets.kept c.loop-group.group-iterator)
found g c x is =
    let kept = g.G.HasPackets.kept in
    let es = packets_by kept c.args.groups.now.entries in
    sym (step kept c.args.told es c.loop-group.group-iterator (c.in-Some.group.now, c.in-Some.other.now) c.next.new.self
    (option_copied c.packets_in.result) c.packets.result.now c.clash_in.result c.in-Some.ensures.steps
    c.packets_in.ensures c.packets.ensures c.clash_in.ensures
    ∙ ap (λ y. clash_or c.in-Some.group.now y (clash_from c.args.told es (packets_by kept c.next.new.self))) is)

pub loop-group-preserved : goal.loop-group-preserved
loop-group-preserved g c =
    found g (goal.at.loop-group-preserved g c).After-clash_in _ c.in_default.is ∙ c.loop-group.invariant

pub returns-in-Some-clash_in : goal.returns-in-Some-clash_in
returns-in-Some-clash_in g c =
    found g (goal.at.returns-in-Some-clash_in g c).After-clash_in _ c.in-Some-clash_in.is ∙ c.loop-group.invariant

pub returns : goal.returns
returns g c =
    let kept = g.G.HasPackets.kept in
    let es = packets_by kept c.args.groups.now.entries in
    sym (clash_end es c.args.told)
    ∙ ap (λ x. clash_from c.args.told es (packets_by kept x)) (sym c.in-None.ensures.steps.0) ∙ c.loop-group.invariant
