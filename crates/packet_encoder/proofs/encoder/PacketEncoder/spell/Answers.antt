use Rattle.std.proofs.Common.{◌≡◌, ◌+◌, ◌*◌, ◌≤◌, length, refl, ap, subst, ◌∙◌, arith, rules}
use Rattle.stripe_plan.specs.Layers.{plan_ends, plan_stripes}
use Rattle.packet_frame.specs.declared.frame.Header.{Header}
use Rattle.packet_session.specs.Encoding.{frame_of, values_at}
use Rattle.packet_encoder.specs.Payloads.{HasPayloads}
use Rattle.packet_encoder.proofs.Payloads.{rows_none, rows_more}
use Rattle.packet_encoder.proofs.Ranges.{row_at, row_room}
use Rattle.packet_encoder.proofs.encoder.PacketEncoder.spell.Goals as goal

pub slice_bounds-payload-end : goal.slice_bounds-payload-end
slice_bounds-payload-end g c =
    let e = c.args.self.now.encoding in
    let p = c.loop-p.p in
    let values = c.args.values.now in
    let wide = c.stripes-wide.ensures.listed
    ∙ ap (λ (h : Header). length (plan_stripes h.table.layers)) c.header.ensures.value in
    let room : c.loop-p.at + c.stripes-wide.result ≤ length values =
    omega (
      arith,
      row_room (length (plan_stripes e.header.table.layers)) c.args.count p c.loop-p.at
          (λ q. values_at g.F.Field.coding e (c.args.first + q)) values c.requires.rows (omega arith)
          (c.loop-p.invariant.place ∙ ap (λ n. p * n) wide),
      wide,
    ) in
    search rules

pub overflow_add-end : goal.overflow_add-end
overflow_add-end g c =
    let e = c.args.self.now.encoding in
    let p = c.loop-p.p in
    let values = c.args.values.now in
    let wide = c.stripes-wide.ensures.listed
    ∙ ap (λ (h : Header). length (plan_stripes h.table.layers)) c.header.ensures.value in
    let room : c.loop-p.at + c.stripes-wide.result ≤ length values =
    omega (
      arith,
      row_room (length (plan_stripes e.header.table.layers)) c.args.count p c.loop-p.at
          (λ q. values_at g.F.Field.coding e (c.args.first + q)) values c.requires.rows (omega arith)
          (c.loop-p.invariant.place ∙ ap (λ n. p * n) wide),
      wide,
    ) in
    search rules

pub offset_bounds-values-at : goal.offset_bounds-values-at
offset_bounds-values-at g c =
    let e = c.args.self.now.encoding in
    let p = c.loop-p.p in
    let values = c.args.values.now in
    let wide = c.stripes-wide.ensures.listed
    ∙ ap (λ (h : Header). length (plan_stripes h.table.layers)) c.header.ensures.value in
    let room : c.loop-p.at + c.stripes-wide.result ≤ length values =
    omega (
      arith,
      row_room (length (plan_stripes e.header.table.layers)) c.args.count p c.loop-p.at
          (λ q. values_at g.F.Field.coding e (c.args.first + q)) values c.requires.rows (omega arith)
          (c.loop-p.invariant.place ∙ ap (λ n. p * n) wide),
      wide,
    ) in
    search rules

pub payload-requires-clause-values : goal.payload-requires-clause-values
payload-requires-clause-values g c =
    let e = c.args.self.now.encoding in
    let p = c.loop-p.p in
    let wide = c.stripes-wide.ensures.listed
    ∙ ap (λ (h : Header). length (plan_stripes h.table.layers)) c.header.ensures.value in
    row_at g.F.Field.coding e (length (plan_stripes e.header.table.layers)) c.args.count c.args.first p c.loop-p.at
    (c.args.first + p) c.args.values.now c.requires.rows (omega arith)
    (c.loop-p.invariant.place ∙ ap (λ n. p * n) wide) refl c.stripes-wide.result wide

pub payload-requires-clause-number : goal.payload-requires-clause-number
payload-requires-clause-number g c = omega (arith, c.requires.within)

pub loop-p-init : goal.loop-p-init
loop-p-init g c =
    let F = g.F.Field in
    let e = c.args.self.now.encoding in
    record {
      place = omega arith;
      so_far =
          rows_none (F.coding.width * length (plan_ends e.header.table.layers))
          (λ p. (frame_of F.coding e (c.args.first + p)).payload) c.reserve.new.self.items
          (c.reserve.ensures.items ∙ c.clear.ensures.items);
    }

pub loop-p-preserved : goal.loop-p-preserved
loop-p-preserved g c =
    let F = g.F.Field in
    let e = c.args.self.now.encoding in
    let p = c.loop-p.p in
    record {
      place = omega (arith, c.loop-p.invariant.place);
      so_far =
          rows_more (F.coding.width * length (plan_ends e.header.table.layers)) p
          (λ q. (frame_of F.coding e (c.args.first + q)).payload) c.loop-p.into.items
          (frame_of F.coding e (c.args.first + p)).payload c.payload.new.into.items
          c.loop-p.invariant.so_far c.in_ok-payload.ensures.payload refl c.in_ok-payload.ensures.long;
    }

pub returns : goal.returns
returns g c =
    let all : c.loop-p.p ≡ c.args.count = omega arith in
    record {
      payloads =
          subst (λ n. HasPayloads g.F.Field.coding c.args.self.now.encoding c.args.first n c.loop-p.into.items) all
          c.loop-p.invariant.so_far;
    }
