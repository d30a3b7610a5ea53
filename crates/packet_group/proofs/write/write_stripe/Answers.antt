use Rattle.std.proofs.Common.{◌≡◌, ◌+◌, ◌-◌, ◌*◌, ◌≤◌, ◌++◌, length, take, drop, flat_map, sym, ap, ap₂, subst, ◌∙◌}
use Rattle.std.proofs.Common.{arith, rules}
use Rattle.std.proofs.lemmas.List.{append-nil, length-drop, length-take-le, take-append-drop, take_all}
use Rattle.std.proofs.lemmas.List.Elements.{All-take}
use Rattle.field_rows.specs.laws.PlaceLaws.{rows_le}
use Rattle.packet_group.proofs.Rows.{length-spellings, one_word_more, word_room}
use Rattle.packet_group.proofs.write.write_stripe.Goals as goal

pub overflow_mul-place : goal.overflow_mul-place
overflow_mul-place g c =
    let wide : c.WIDTH.result ≡ g.F.Field.coding.width = c.WIDTH.ensures ∙ sym g.met.F.Field.wide in
    let word = word_room c.args.at c.loop-i.i
    (length c.args.stripe.now) g.F.Field.coding.width c.WIDTH.result c.WIDTH.result (length c.loop-i.message)
    (omega arith) (omega (arith, c.requires.room, c.loop-i.auto.message)) wide wide in
    let room : (c.args.at + c.loop-i.i) * c.WIDTH.result ≤ length c.loop-i.message = omega (arith, word) in
    search rules

pub overflow_add-place-in-loop-i : goal.overflow_add-place-in-loop-i
overflow_add-place-in-loop-i g c =
    let wide : c.WIDTH.result ≡ g.F.Field.coding.width = c.WIDTH.ensures ∙ sym g.met.F.Field.wide in
    let next : c.WIDTH-in-loop-i.result ≡ g.F.Field.coding.width = c.WIDTH-in-loop-i.ensures ∙ sym g.met.F.Field.wide in
    let room = word_room c.args.at c.loop-i.i
    (length c.args.stripe.now) g.F.Field.coding.width c.WIDTH.result c.WIDTH-in-loop-i.result (length c.loop-i.message)
    (omega arith) (omega (arith, c.requires.room, c.loop-i.auto.message)) wide next in
    search rules

pub slice_bounds-write-end : goal.slice_bounds-write-end
slice_bounds-write-end g c =
    let wide : c.WIDTH.result ≡ g.F.Field.coding.width = c.WIDTH.ensures ∙ sym g.met.F.Field.wide in
    let next : c.WIDTH-in-loop-i.result ≡ g.F.Field.coding.width = c.WIDTH-in-loop-i.ensures ∙ sym g.met.F.Field.wide in
    let room = word_room c.args.at c.loop-i.i
    (length c.args.stripe.now) g.F.Field.coding.width c.WIDTH.result c.WIDTH-in-loop-i.result (length c.loop-i.message)
    (omega arith) (omega (arith, c.requires.room, c.loop-i.auto.message)) wide next in
    search rules

pub write-requires : goal.write-requires
write-requires g c =
    let wide : c.WIDTH.result ≡ g.F.Field.coding.width = c.WIDTH.ensures ∙ sym g.met.F.Field.wide in
    let next : c.WIDTH-in-loop-i.result ≡ g.F.Field.coding.width = c.WIDTH-in-loop-i.ensures ∙ sym g.met.F.Field.wide in
    let room = word_room c.args.at c.loop-i.i
    (length c.args.stripe.now) g.F.Field.coding.width c.WIDTH.result c.WIDTH-in-loop-i.result (length c.loop-i.message)
    (omega arith) (omega (arith, c.requires.room, c.loop-i.auto.message)) wide next in
    let start = (c.args.at + c.loop-i.i) * c.WIDTH.result in
    let size = start + c.WIDTH-in-loop-i.result - start in
    record {
      element =
          subst g.F.Field.is_element (sym c.index-stripe-i.is)
          (c.requires.elements c.loop-i.i c.index-stripe-i.result c.loop-i-test.true);
      room =
          length-take-le size (drop start c.loop-i.message) (omega (arith, length-drop start c.loop-i.message))
          ∙ omega (arith, next);
    }

pub loop-i-init : goal.loop-i-init
loop-i-init g c =
    let w = g.F.Field.coding.width in
    let old = c.args.message.now in
    let none : c.args.at + 0 ≡ c.args.at = omega arith in
    sym (ap₂ (λ a n. a ++ drop (n * w) old) (append-nil (take (c.args.at * w) old)) none
    ∙ take-append-drop (c.args.at * w) old)

pub loop-i-preserved : goal.loop-i-preserved
loop-i-preserved g c =
    let F = g.F.Field in
    let w = F.coding.width in
    let i = c.loop-i.i in
    let at = c.args.at in
    let stripe = c.args.stripe.now in
    let wide : c.WIDTH.result ≡ w = c.WIDTH.ensures ∙ sym g.met.F.Field.wide in
    let start = (at + i) * c.WIDTH.result in
    let few : i ≤ length stripe = omega arith in
    let size : length (flat_map F.coding.spelling (take i stripe)) ≡ i * w =
    length-spellings F.is_element w F.coding.spelt F.coding.spelling g.met.F.Field.lawful.spellings (take i stripe)
    (All-take F.is_element i stripe c.requires.elements)
    ∙ ap (λ n. n * w) (length-take-le i stripe few) in
    one_word_more F.coding.spelling stripe i c.index-stripe-i.result w at start
    (start + c.WIDTH-in-loop-i.result - start) c.args.message.now c.loop-i.message c.write.new.into
    c.loop-i-test.true c.index-stripe-i.is c.write.ensures
    (omega (arith, rows_le at (at + length stripe) w (omega arith), c.requires.room)) size (ap (λ n. (at + i) * n) wide)
    (omega (arith, c.WIDTH-in-loop-i.ensures, g.met.F.Field.wide)) c.loop-i.invariant

pub returns : goal.returns
returns g c =
    let w = g.F.Field.coding.width in
    let stripe = c.args.stripe.now in
    let old = c.args.message.now in
    let all : c.loop-i.i ≡ length stripe = omega arith in
    c.loop-i.invariant
    ∙ ap₂ (λ t n. take (c.args.at * w) old ++ flat_map g.F.Field.coding.spelling t ++ drop ((c.args.at + n) * w) old)
    (take_all c.loop-i.i stripe (omega arith)) all
