-- The payloads of no packets, and the steps of some of a group's.
use Rattle.std.proofs.Common.{◌≡◌, ℕ, ◌+◌, ◌*◌, ◌≤◌, [], length, ap, ◌∙◌, arith}
use Rattle.std.proofs.lemmas.Nat.{mul-le}
use Rattle.pet_base.specs.declared.limits.TheConstants.{MAX_PACKETS}
use Rattle.field_elements.specs.Field.{Coding}
use Rattle.stripe_plan.specs.Layers.{plan_ends}
use Rattle.packet_session.specs.Encoding.{Encoding}
use Rattle.packet_rebuild.specs.MadeRange.{IsMadeRange}
use Rattle.packet_rebuild.specs.declared.ranges.MadeRange.{MadeRange}

module _ {E : Type 0} (c : Coding E) (e : Encoding) (made : MadeRange) where
  -- nothing is made
  pub made_none : e.header.table.packets ≤ MAX_PACKETS → made.first ≡ 0 → made.count ≡ 0 → made.payloads.items ≡ []
      → IsMadeRange c e made
  made_none few first count none = record {
    few = few;
    within = omega (arith, first, count);
    payloads = record {
      long =
          ap length none
          ∙ omega (arith, ap (λ n. n * (c.width * length (plan_ends e.header.table.layers))) count);
      each = λ p l. absurd (omega (arith, count));
    };
  }

-- the steps of so many packets are within those of all
pub cost_within : (words n all old now : ℕ) → now ≤ old + n * words → n ≤ all → now ≤ old + all * words
cost_within words n all old now cost within = omega (arith, cost, mul-le n words all words within (omega arith))
