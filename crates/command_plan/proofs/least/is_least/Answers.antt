use Rattle.std.proofs.Common.{true≢false, subst, sym, ◌∙◌}
use Rattle.std.proofs.lemmas.Bool.{false≢true}
use Rattle.stripe_plan.specs.Layers.{needs_of}
use Rattle.plan_cert.specs.Certificates.{IsCertificate}
use Rattle.command_plan.specs.Least.{IsLeast}
use Rattle.command_plan.proofs.Starts.{sum_lengths, empty_refused}
use Rattle.command_plan.proofs.least.is_least.Goals as goal
use Rattle.command_plan.proofs.least.is_least.Goals.{then-not-have_words-via-then-not-have_words}
use Rattle.command_plan.proofs.least.is_least.Goals.{then-not-have_words-via-else-not-have_words+then-lists_empty_stripe}

pub returns-then-not-have_words : goal.returns-then-not-have_words
returns-then-not-have_words c = (λ never. absurd (false≢true never), λ least. absurd (refused c least))
  where
    refused : (c : goal.Joined-then-not-have_words) → IsLeast c.args.table.now.layers c.args.repeats.now → ⊥
    refused c least = elim c.then-not-have_words.branch [
      | then-not-have_words-via-then-not-have_words w ↦ true≢false
          (sym (c.have_words.ensures.1 (sym (sum_lengths c.args.repeats.now) ∙ least.sums ∙ sym c.words.ensures.words))
          ∙ w.if-not-have_words.true)
      | then-not-have_words-via-else-not-have_words+then-lists_empty_stripe w ↦
          empty_refused (needs_of c.args.table.now.layers) c.args.repeats.now
          (sym w.lists_empty_stripe.ensures ∙ w.if-lists_empty_stripe.true) least.sums least.certificate
    ]

pub returns : goal.returns
returns c =
    let needs = needs_of c.args.table.now.layers in
    let repeats = c.args.repeats.now in
    let words = c.have_words.ensures.0 c.if-not-have_words.false in
    let starts = c.deref.ensures.value ∙ c.in_ok-starts.ensures.starts in (
      λ is. record {
        sums = sum_lengths repeats ∙ words ∙ c.words.ensures.words;
        certificate = subst (IsCertificate needs) starts (c.check.ensures.certificate.0 is);
      },
      λ least. c.check.ensures.certificate.1 (subst (IsCertificate needs) (sym starts) least.certificate),
    )
