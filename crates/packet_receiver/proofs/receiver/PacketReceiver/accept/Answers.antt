use Rattle.std.specs.Prelude.{IfOk, IfSome, OnErr}
use Rattle.packet_frame.specs.declared.format.Format.{Format}
use Rattle.packet_frame.specs.Refusals.{first_fault_in}
use Rattle.std.proofs.Common.{None, ◌∙◌, ◌≡◌, ℕ, ◌+◌, ◌≤◌, [], ◌∷◌, ◌++◌, Result, Ok, Err, true, false, sym, ap, subst}
use Rattle.packet_frame.specs.Frame.{Fields}
use Rattle.packet_frame.specs.Planned.{planned_fields}
use Rattle.packet_frame.specs.View.{view}
use Rattle.packet_group.specs.Tags.{frame_tag}
use Rattle.pet_interp.specs.Progressive.{step_bound}
use Rattle.packet_verdicts.specs.declared.verdict.Verdict.{Verdict}
use Rattle.packet_verdicts.specs.KeptSet.{IsKeptSetBy, count_kept}
use Rattle.packet_verdicts.specs.Verdicts.{after_in, verdict_in, is_kept, opens}
use Rattle.packet_receiver.specs.Arrivals.{ReceiverState, Order, HasKept, kept_set, stripe_lengths}
use Rattle.packet_verdicts.specs.laws.KeptSetLaws.{verdict_damaged_in, after_other_in}
use Rattle.packet_receiver.proofs.Accepted.{Answers, read_verdict, verdict_answered, after_answered}
use Rattle.packet_receiver.proofs.receiver.PacketReceiver.accept.Given.{Over}
use Rattle.packet_receiver.proofs.receiver.PacketReceiver.accept.Goals as goal
use Rattle.packet_receiver.proofs.receiver.PacketReceiver.accept.Goals.{After-take}

other_of : {X E : Type 0} (r : Result Verdict X) (old new : ReceiverState E) (s t : ℕ)
    → IfOk r (λ v. is_kept v ≡ false → (new ≡ old) × (s ≡ t))
    → IfOk r (λ v. is_kept v ≡ false → kept_set new ≡ kept_set old)
other_of (Ok v) old new s t h = λ e. ap kept_set (h e).0
other_of (Err x) old new s t h = tt

taken : (g : Over) (c : After-take g)
    → Answers g.F.Field.coding.width c.take.result (kept_set c.args.self.now) (kept_set c.take.new.self)
    (view c.in-Ok.frame)
taken g c = record {
  verdict = c.take.ensures.verdict;
  kept = c.take.ensures.kept;
  other =
      other_of c.take.result c.args.self.now c.take.new.self c.take.new.steps c.args.steps.now c.take.ensures.unchanged;
}

-- the format of the receiver
format_is : (g : Over) (c : After-take g) → c.self.inside.format ≡ c.args.self.now.format
format_is g c = ap (λ (v : ReceiverState g.row.F-Elem.Denot). v.format) c.self.view_is

word_is : (g : Over) (c : After-take g) → c.args.self.now.format.word ≡ g.F.Field.coding.width
word_is g c = ap (λ (t : Format). t.word) (sym (format_is g c)) ∙ c.self.invariant.word

fields_are : (g : Over) (c : After-take g)
    → view c.in-Ok.frame ≡ planned_fields c.args.self.now.format c.args.datagram.now
fields_are g c = c.in-Ok.ensures.fields ∙ ap (λ (t : Format). planned_fields t c.args.datagram.now) (format_is g c)

is_read : (g : Over) (c : After-take g) → first_fault_in c.args.self.now.format c.args.datagram.now ≡ None
is_read g c = ap (λ (t : Format). first_fault_in t c.args.datagram.now) (sym (format_is g c)) ∙ c.in-Ok.ensures.refused

pub take-requires-clause-tag : goal.take-requires-clause-tag
take-requires-clause-tag g c =
    subst (λ (f : Fields). IfSome c.read_tag-tag.result (λ bytes. bytes ≡ frame_tag f))
    (sym c.in-Ok.ensures.fields) c.read_tag-tag.ensures

pub returns-in-Ok-clause-verdict : goal.returns-in-Ok-clause-verdict
returns-in-Ok-clause-verdict g c =
    let h = (goal.at.returns-in-Ok-clause-verdict g c).After-take in
    verdict_answered c.args.self.now.format g.F.Field.coding.width (word_is g h) c.take.result
    (kept_set c.args.self.now) (kept_set c.take.new.self) (view c.in-Ok.frame) c.args.datagram.now (fields_are g h)
    (is_read g h) (taken g h)

pub returns-in-Ok-clause-kept : goal.returns-in-Ok-clause-kept
returns-in-Ok-clause-kept g c =
    let h = (goal.at.returns-in-Ok-clause-kept g c).After-take in
    after_answered c.args.self.now.format g.F.Field.coding.width (word_is g h) c.take.result (kept_set c.args.self.now)
    (kept_set c.take.new.self) (view c.in-Ok.frame) c.args.datagram.now (fields_are g h) (is_read g h) (taken g h)

pub returns-in-Ok-clause-memory : goal.returns-in-Ok-clause-memory
returns-in-Ok-clause-memory g c =
    let h = (goal.at.returns-in-Ok-clause-memory g c).After-take in
    let old = kept_set c.args.self.now in
    let bytes = c.args.datagram.now in
    let t = c.args.self.now.format in
    let w = g.F.Field.coding.width in
    let read = read_verdict t w (word_is g h) old bytes (view c.in-Ok.frame) (fields_are g h) (is_read g h) in
    subst (λ (f : Fields). OnErr c.take.result
    ((c.take.new.self ≡ c.args.self.now) × (c.take.new.steps ≡ c.args.steps.now)
    × (is_kept (verdict_in t old bytes) ≡ true) × (opens old f ≡ true))) (fields_are g h)
    (subst (λ v. OnErr c.take.result ((c.take.new.self ≡ c.args.self.now) × (c.take.new.steps ≡ c.args.steps.now)
    × (is_kept v ≡ true) × (opens old (view c.in-Ok.frame) ≡ true))) read c.take.ensures.memory)

pub returns-in-Ok-clause-order : goal.returns-in-Ok-clause-order
returns-in-Ok-clause-order g c =
    let h = (goal.at.returns-in-Ok-clause-order g c).After-take in
    let F = g.F.Field in
    subst (λ (f : Fields). IfOk c.take.result
    (λ v. is_kept v ≡ true → (order : Order) → HasKept F.is_element F.coding c.args.self.now order
    → HasKept F.is_element F.coding c.take.new.self (order ++ ((f.group, f.number) ∷ []))))
    (fields_are g h) c.take.ensures.order

pub returns-in-Ok-clause-cost : goal.returns-in-Ok-clause-cost
returns-in-Ok-clause-cost g c =
    let h = (goal.at.returns-in-Ok-clause-cost g c).After-take in
    let old = kept_set c.args.self.now in
    subst (λ (f : Fields). IfOk c.take.result
    (λ v. is_kept v ≡ true
    → c.take.new.steps ≤ c.args.steps.now + step_bound (count_kept old f.group) (stripe_lengths f.layers)))
    (fields_are g h) c.take.ensures.cost

pub returns-in-Err-clause-verdict : goal.returns-in-Err-clause-verdict
returns-in-Err-clause-verdict g c =
    let same = ap (λ (v : ReceiverState g.row.F-Elem.Denot). verdict_in v.format
    (kept_set c.args.self.now) c.args.datagram.now) c.self.view_is in
    sym (sym same
    ∙ verdict_damaged_in c.self.inside.format
    (kept_set c.args.self.now) c.args.datagram.now c.in-Err.field-0 c.in-Err.ensures.refused)

pub returns-in-Err-clause-kept : goal.returns-in-Err-clause-kept
returns-in-Err-clause-kept g c =
    let old = kept_set c.args.self.now in
    let bytes = c.args.datagram.now in
    let t = c.self.inside.format in
    let same = ap (λ (v : ReceiverState g.row.F-Elem.Denot). after_in v.format old bytes) c.self.view_is in
    sym (sym same
    ∙ after_other_in t old bytes
    (ap is_kept (verdict_damaged_in t old bytes c.in-Err.field-0 c.in-Err.ensures.refused)))

pub returns-in-Err-clause-sound : goal.returns-in-Err-clause-sound
returns-in-Err-clause-sound g c =
    subst (λ (v : ReceiverState g.row.F-Elem.Denot). IsKeptSetBy g.F.Field.coding.width (kept_set v)) c.self.view_is
    c.self.invariant.set
