use Rattle.std.proofs.Common.{◌≡◌, ◌+◌, ◌-◌, suc, [], ◌∷◌, ◌++◌, take, drop, sym, ap, ap₂, ◌∙◌, arith}
use Rattle.std.proofs.lemmas.List.{take_more_set}
use Rattle.pet_poly.specs.Rows.{words}
use Rattle.pet_poly.specs.laws.RowLaws.{words_more}
use Rattle.packet_encoder.proofs.values.read_elements.Goals as goal

pub loop-i-preserved : goal.loop-i-preserved
loop-i-preserved g c =
    let F = g.F.Field in
    let w = F.coding.width in
    let i = c.loop-i.i in
    let at = c.loop-i.at in
    let message = c.args.message.now in
    let wide : c.WIDTH.result ≡ w = c.WIDTH.ensures ∙ sym g.met.F.Field.wide in
    let size : at + c.WIDTH.result - at ≡ w = omega (arith, wide) in
    let next : i + 1 ≡ suc i = omega arith in
    record {
      here = omega (arith, c.loop-i.invariant.here, wide);
      so_far =
          take_more_set c.loop-i.into i c.read.result (omega arith)
          ∙ ap₂ (λ t e. t ++ (e ∷ [])) c.loop-i.invariant.so_far
          (c.read.ensures.value ∙ ap₂ (λ k a. F.coding.spelt (take k (drop a message))) size c.loop-i.invariant.here)
          ∙ sym (words_more F.coding.spelt w i message) ∙ sym (ap (λ n. words F.coding.spelt w n message) next);
    }
