-- What callers may cite of the plan of layers: its starts are a certificate, and its stripes have all the words.
use Rattle.std.proofs.Common.{◌≡◌, ℕ, ◌+◌, ◌-◌, List, [], ◌∷◌, length, map, sum, refl, arith}
use Rattle.std.proofs.lemmas.List.Sums.{sum_by-cons}
use Rattle.stripe_plan.specs.declared.layer.LayerSize.{LayerSize}
use Rattle.stripe_plan.specs.Stripes.{Respects, IsLongest, IsPartition, IsPlan, stripes_of}
use Rattle.stripe_plan.specs.laws.StripeLaws.{part_respects, plan_partition}
use Rattle.stripe_plan.specs.Layers.{needs_of, AllNeeded, plan_ends, plan_stripes, stripes_from}
use Rattle.stripe_plan.proofs.PlanLemmas.{plan_ends_plan}
use Rattle.plan_cert.specs.Certificates.{Apart, AllApart, IsCertificate, starts_of}

-- past the end of a longest stripe no respecting stripe has its first word
longest_apart : (needs : List ℕ) (start end : ℕ) → IsLongest needs start end → Apart needs start end
longest_apart needs start end l a b r low inside low' beyond =
    let whole : Respects needs start b = part_respects needs a b start b r low inside (omega arith) in
    omega (arith, l.longest b whole)

-- the plan's starts are apart
plan_apart : (needs : List ℕ) (start : ℕ) (ends : List ℕ) → IsPlan needs start ends
    → AllApart needs (starts_of start ends)
plan_apart needs start [] p = tt
plan_apart needs start (end ∷ []) p = tt
plan_apart needs start (end ∷ next ∷ ends) p =
    (longest_apart needs start end p.0, plan_apart needs end (next ∷ ends) p.1)

-- the starts of a plan are a certificate
pub starts_certificate : (needs ends : List ℕ) → IsPlan needs 0 ends → IsCertificate needs (starts_of 0 ends)
starts_certificate needs ends p = record {
  ends = ends;
  partition = plan_partition needs 0 ends p;
  starts_are = refl;
  apart = plan_apart needs 0 ends p;
}

-- for callers: those of the plan of layers are
pub plan_certificate : (layers : List LayerSize) → AllNeeded layers
    → IsCertificate (needs_of layers) (starts_of 0 (plan_ends layers))
plan_certificate layers needed = starts_certificate (needs_of layers) (plan_ends layers) (plan_ends_plan layers needed)

-- the stripes of a partition have the words from its start on
partition_sum : (needs : List ℕ) (start : ℕ) (ends : List ℕ) → IsPartition needs start ends
    → start + sum (map (λ stripe. stripe.1) (stripes_of start ends)) ≡ length needs
partition_sum needs start [] p = omega (arith, p)
partition_sum needs start (end ∷ ends) p =
    omega (
      arith,
      p.0.begun,
      partition_sum needs end ends p.1,
      sum_by-cons (λ (n : ℕ). n) (end - start) (map (λ stripe. stripe.1) (stripes_of end ends)),
    )

-- for callers: the stripes of the plan have all the words
pub plan_sum : (layers : List LayerSize) → AllNeeded layers
    → sum (map (λ stripe. stripe.1) (plan_stripes layers)) ≡ length (needs_of layers)
unfolding stripes_from
plan_sum layers needed =
    omega (
      arith,
      partition_sum (needs_of layers) 0 (plan_ends layers)
          (plan_partition (needs_of layers) 0 (plan_ends layers) (plan_ends_plan layers needed)),
    )
