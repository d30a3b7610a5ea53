use Rattle.std.proofs.Common.{◌≡◌, ◌+◌, ◌*◌, ◌≤◌, ◌++◌, length, refl, sym, ap, ap₂, ◌∙◌, arith, rules}
use Rattle.std.proofs.lemmas.List.{append-nil}
use Rattle.stripe_plan.specs.Layers.{plan_stripes}
use Rattle.packet_frame.specs.declared.frame.Header.{Header}
use Rattle.packet_session.specs.Encoding.{values_at}
use Rattle.packet_session.specs.Encoding.{frames_text_in}
use Rattle.packet_encoder.proofs.Ranges.{row_at, row_room, text_more, ranges_more}
use Rattle.packet_encoder.proofs.encoder.PacketEncoder.frames.Goals as goal

pub slice_bounds-frame-end : goal.slice_bounds-frame-end
slice_bounds-frame-end g c =
    let e = c.args.self.now.encoding in
    let p = c.loop-p.p in
    let values = c.args.values.now in
    let wide = c.stripes-wide.ensures.listed
    ∙ ap (λ (h : Header). length (plan_stripes h.table.layers)) c.header.ensures.value in
    let room : c.loop-p.at + c.stripes-wide.result ≤ length values =
    omega (
      arith,
      row_room (length (plan_stripes e.header.table.layers)) c.args.count p c.loop-p.at
          (λ q. values_at g.F.Field.coding e (c.args.first + q)) values c.requires.rows (omega arith)
          (c.loop-p.invariant.place ∙ ap (λ n. p * n) wide),
      wide,
    ) in
    search rules

pub frame-requires-clause-values : goal.frame-requires-clause-values
frame-requires-clause-values g c =
    let e = c.args.self.now.encoding in
    let p = c.loop-p.p in
    let wide = c.stripes-wide.ensures.listed
    ∙ ap (λ (h : Header). length (plan_stripes h.table.layers)) c.header.ensures.value in
    row_at g.F.Field.coding e (length (plan_stripes e.header.table.layers)) c.args.count c.args.first p c.loop-p.at
    (c.args.first + p) c.args.values.now c.requires.rows (omega arith)
    (c.loop-p.invariant.place ∙ ap (λ n. p * n) wide) refl c.stripes-wide.result wide

pub loop-p-preserved : goal.loop-p-preserved
loop-p-preserved g c =
    let F = g.F.Field in
    let e = c.args.self.now.encoding in
    let p = c.loop-p.p in
    record {
      place = omega (arith, c.loop-p.invariant.place);
      so_far =
          text_more c.args.self.now.format F.coding e c.args.first p
          (c.args.first + p) refl c.reserve.new.self.items c.loop-p.into.items c.frame.new.into.items
          c.loop-p.invariant.so_far c.in_default.ensures.ok;
      ranges =
          ranges_more c.args.self.now.format F.coding e c.args.first p
          (c.args.first + p) refl c.in_default.ensures.ranges c.loop-p.invariant.ranges;
    }

pub overflow_add-end : goal.overflow_add-end
overflow_add-end g c =
    let e = c.args.self.now.encoding in
    let p = c.loop-p.p in
    let values = c.args.values.now in
    let wide = c.stripes-wide.ensures.listed
    ∙ ap (λ (h : Header). length (plan_stripes h.table.layers)) c.header.ensures.value in
    let room : c.loop-p.at + c.stripes-wide.result ≤ length values =
    omega (
      arith,
      row_room (length (plan_stripes e.header.table.layers)) c.args.count p c.loop-p.at
          (λ q. values_at g.F.Field.coding e (c.args.first + q)) values c.requires.rows (omega arith)
          (c.loop-p.invariant.place ∙ ap (λ n. p * n) wide),
      wide,
    ) in
    search rules

pub offset_bounds-values-at : goal.offset_bounds-values-at
offset_bounds-values-at g c =
    let e = c.args.self.now.encoding in
    let p = c.loop-p.p in
    let values = c.args.values.now in
    let wide = c.stripes-wide.ensures.listed
    ∙ ap (λ (h : Header). length (plan_stripes h.table.layers)) c.header.ensures.value in
    let room : c.loop-p.at + c.stripes-wide.result ≤ length values =
    omega (
      arith,
      row_room (length (plan_stripes e.header.table.layers)) c.args.count p c.loop-p.at
          (λ q. values_at g.F.Field.coding e (c.args.first + q)) values c.requires.rows (omega arith)
          (c.loop-p.invariant.place ∙ ap (λ n. p * n) wide),
      wide,
    ) in
    search rules

pub frame-requires-clause-number : goal.frame-requires-clause-number
frame-requires-clause-number g c = omega (arith, c.requires.within)

pub loop-p-init : goal.loop-p-init
loop-p-init g c =
    record {
      place = omega arith;
      so_far = sym (append-nil c.reserve.new.self.items);
      ranges = λ k low high. absurd (omega arith);
    }

pub returns-clause-ok : goal.returns-clause-ok
returns-clause-ok g c =
    let all : c.loop-p.p ≡ c.args.count = omega arith in
    c.loop-p.invariant.so_far
    ∙ ap₂ (λ t n. t ++ frames_text_in c.args.self.now.format g.F.Field.coding c.args.self.now.encoding c.args.first n)
    c.reserve.ensures.items all

pub returns-clause-ranges : goal.returns-clause-ranges
returns-clause-ranges g c = λ k low high. c.loop-p.invariant.ranges k low (omega arith)
