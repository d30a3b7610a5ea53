-- Whether listed stripe lengths are those of a certificate of fewest stripes. This project's own.
use Rattle.std.specs.Prelude.{◌≡◌, ℕ, ◌+◌, ◌*◌, ◌==◌, ◌&&◌, nat_lt, Bool, List, [], ◌∷◌, length, replicate, sum, sum_by}
use Rattle.std.specs.List.{flat_map}
use Rattle.stripe_plan.specs.declared.layer.LayerSize.{LayerSize}
use Rattle.stripe_plan.specs.Layers.{needs_of}
use Rattle.plan_cert.specs.Certificates.{IsCertificate}
use Rattle.text_plan.specs.declared.plan_file.Repeat.{Repeat}

-- the stripe lengths that are listed, each as often as its row says
abbrev pub lengths_in : List Repeat → List ℕ
lengths_in repeats = flat_map (λ r. replicate r.times r.length) repeats

-- the first words of stripes of these lengths, the first of which begins at `at`
abbrev pub starts_by : ℕ → List ℕ → List ℕ
starts_by at [] = []
starts_by at (len ∷ lengths) = at ∷ starts_by (at + len) lengths

-- the stripes have all the words of the layers, and their starts are a certificate
pub record IsLeast (layers : List LayerSize) (repeats : List Repeat) : Type 0 where
  pub sums : sum (lengths_in repeats) ≡ length (needs_of layers)
  pub certificate : IsCertificate (needs_of layers) (starts_by 0 (lengths_in repeats))

-- the words of all the stripes, by the rows
abbrev pub listed_words : List Repeat → ℕ
listed_words repeats = sum_by (λ r. r.times * r.length) repeats

-- the row lists a stripe without words
abbrev pub has_empty : Repeat → Bool
has_empty r = r.length == 0 && nat_lt 0 r.times
