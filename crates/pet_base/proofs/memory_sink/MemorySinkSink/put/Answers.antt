use Rattle.std.proofs.Common.{◌≡◌, ℕ, List, ◌++◌, take, Some, sym, ap, ◌∙◌, arith}
use Rattle.std.proofs.lemmas.Grind.{common_steps}
use Rattle.std.proofs.lemmas.List.{append-nil}
use Rattle.pet_base.specs.laws.Through.{on_any_err}
use Rattle.pet_base.proofs.memory_sink.MemorySinkSink.put.Goals as goal

-- of these bytes none were put
nothing : (old new bytes : List ℕ) → new ≡ old → (k : ℕ) × (Some new ≡ Some (old ++ take k bytes))
nothing old new bytes same = (0, ap (λ (t : List ℕ). Some t) (same ∙ sym (append-nil old)))

pub returns-in_err-met-clause-part : goal.returns-in_err-met-clause-part
returns-in_err-met-clause-part c =
    on_any_err _ (nothing c.args.self.now.bytes.items c.extend_from_slice.new.self.items c.args.bytes.now
    (grind (arith, common_steps)))
