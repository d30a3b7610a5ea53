use Rattle.std.proofs.Common.{◌≡◌, ◌+◌, [], ◌++◌, length, take, sym, ap, subst, ◌∙◌, arith}
use Rattle.field_rows.specs.laws.PlaceLaws.{rows_le}
use Rattle.packet_encoder.proofs.Walk.{taken_on, spelled_more}
use Rattle.packet_encoder.proofs.values.write_elements.Goals as goal

pub loop-i-preserved : goal.loop-i-preserved
loop-i-preserved g c =
    let F = g.F.Field in
    let w = F.coding.width in
    let i = c.loop-i.i in
    let at = c.loop-i.at in
    let into = c.loop-i.into in
    let x = c.index-elements-i.result in
    let word = c.write.new.into in
    let wide : c.WIDTH.result ≡ w = c.WIDTH.ensures ∙ sym g.met.F.Field.wide in
    let is = subst F.is_element (sym c.index-elements-i.is) (c.requires.elements i x c.loop-i-test.true) in
    let long : length word ≡ w = ap length c.write.ensures ∙ g.met.F.Field.lawful.spellings.spelling_width x is in
    let xs = c.args.elements.now in
    let room = rows_le i (length xs) w (omega arith) in
    record {
      here = omega (arith, c.loop-i.invariant.here, wide);
      so_far =
          spelled_more F.coding.spelling xs i x [] (take at into) _ c.loop-i-test.true
          c.index-elements-i.is c.loop-i.invariant.so_far
          (taken_on at _ (at + c.WIDTH.result) into word
          (omega (arith, c.loop-i.invariant.here, c.requires.room, c.loop-i.auto.into, room)) (omega (arith, wide, long))
          ∙ ap (λ t. take at into ++ t) c.write.ensures);
    }
