-- The leading layers have the lengths that the group's table tells, and what is put together of them is the video.
use Rattle.std.proofs.Common.{◌≡◌, ℕ, ◌<◌, true, false, List, [], ◌++◌, length, get_or, refl, sym, ap, ◌∙◌, arith}
use Rattle.std.proofs.lemmas.List.{length-map}
use Rattle.std.proofs.lemmas.List.FromFn.{get_or-map-range_with_len}
use Rattle.packet_frame.specs.declared.frame.Header.{Header}
use Rattle.packet_set.specs.Packets.{Packets}
use Rattle.layer_split.specs.RunTable.{fits}
use Rattle.packet_session.specs.Session.{bytes_of_layer}
use Rattle.pet_receive.specs.Arrivals.{kept_set, numbers_of, layers_of}
use Rattle.packet_verdicts.specs.KeptSet.{open_group}
use Rattle.reassemble.specs.declared.leading.ShownLayer.{ShownLayer}
use Rattle.reassemble.specs.Leading.{lengths_in}
use Rattle.reassemble.specs.inside.Taking.{bytes_each, first_of}
use Rattle.reassemble.specs.Video.{group_video}
use Rattle.reassemble.proofs.Layers.{opened, lent, lengths_read, fits_so, shown_in, shown_length, on_ok}
use Rattle.reassemble.proofs.video.assemble.Goals as goal

pub leading_layers-layers-requires : goal.leading_layers-layers-requires
leading_layers-layers-requires g c = record {
  few =
      λ p is.
      let h = lent
      (open_group (kept_set c.args.receiver.now) c.args.group) c.in-Some.header.now p c.in-Some.ensures is in
      let same : c.layers.result.now ≡ layers_of p = c.layers.ensures.value ∙ ap (λ (x : Header). x.table.layers) h in
      omega (arith, ap length same, ap length c.layers.ensures.value, c.layers.ensures.bounds.few_layers);
}

pub put_together-requires-clause-sized : goal.put_together-requires-clause-sized
put_together-requires-clause-sized g c layer within =
    let F = g.F.Field in
    let set = kept_set c.args.receiver.now in
    let o = opened (open_group set c.args.group) c.in-Some.header.now c.in-Some.ensures in
    let p : Packets = o.0 in
    let items : List ShownLayer = c.leading_layers-layers.result.items in
    let shown : c.as_slice.result.now ≡ items = c.as_slice.ensures.value in
    let many : length (bytes_each items) ≡ length items = length-map items (λ (e : ShownLayer). e.bytes.now) in
    let lt : layer < length items = omega (arith, within, ap length shown) in
    let bytes = c.leading_layers-layers.ensures.bytes c.groups-groups.ensures.stands.0 p c.groups-groups.ensures.stands.1 o.1 layer (omega arith) in
    let known = (shown_in set c.args.group layer p o.1 (c.leading_layers-layers.ensures.leading.shown layer lt)).0 in
    let long = shown_length F.is_element F.coding p (numbers_of c.groups-groups.ensures.stands.0 c.args.group) layer
    (get_or (bytes_each items) layer []) c.requires.width known bytes in
    let lengths = lengths_read (open_group set c.args.group) c.in-Some.header.now p c.layers.result.now
    c.as_slice-2.result.now c.in-Some.ensures o.1 c.layers.ensures.value
    (c.as_slice-2.ensures.value ∙ c.lengths_of-lengths.ensures) in
    ap (λ (l : List ShownLayer). length (get_or (bytes_each l) layer [])) shown
    ∙ (long ∙ ap (λ l. get_or l layer 0) (sym lengths))

pub returns-clause-bad_table : goal.returns-clause-bad_table
returns-clause-bad_table g c e order p kept is =
    let F = g.F.Field in
    let set = kept_set c.args.receiver.now in
    let items : List ShownLayer = c.leading_layers-layers.result.items in
    let many : length (bytes_each items) ≡ length items = length-map items (λ (e : ShownLayer). e.bytes.now) in
    let some : 0 < length items = grind (arith, c.is_empty.ensures, c.if-is_empty.false) in
    let lengths = lengths_read (open_group set c.args.group) c.in-Some.header.now p c.layers.result.now
    c.as_slice-2.result.now c.in-Some.ensures is c.layers.ensures.value
    (c.as_slice-2.ensures.value ∙ c.lengths_of-lengths.ensures) in
    record {
      first = first_of (bytes_each items);
      bytes = c.leading_layers-layers.ensures.bytes order p kept is 0 (omega arith);
      unfit =
          fits_so items c.as_slice.result.now c.as_slice-2.result.now p false c.as_slice.ensures.value lengths
          (c.put_together.ensures.bad_table e);
    }

pub returns-clause-bad_message : goal.returns-clause-bad_message
returns-clause-bad_message g c e p message is message_is agrees =
    let F = g.F.Field in
    let set = kept_set c.args.receiver.now in
    let items : List ShownLayer = c.leading_layers-layers.result.items in
    let many : length (bytes_each items) ≡ length items = length-map items (λ (e : ShownLayer). e.bytes.now) in
    let some : 0 < length items = grind (arith, c.is_empty.ensures, c.if-is_empty.false) in
    let lengths = lengths_read (open_group set c.args.group) c.in-Some.header.now p c.layers.result.now
    c.as_slice-2.result.now c.in-Some.ensures is c.layers.ensures.value
    (c.as_slice-2.ensures.value ∙ c.lengths_of-lengths.ensures) in
    let f : ℕ → List ℕ = bytes_of_layer F.coding.width (layers_of p) message in
    let first : first_of (bytes_each items) ≡ f 0 =
    ap first_of (c.leading_layers-layers.ensures.agreed p message is message_is agrees)
    ∙ get_or-map-range_with_len f 0 (length items) 0 0 [] some refl in
    ap (λ b. fits b (lengths_in p)) (sym first)
    ∙ fits_so items c.as_slice.result.now c.as_slice-2.result.now p false c.as_slice.ensures.value lengths
    (c.put_together.ensures.bad_table e)

pub returns-clause-video : goal.returns-clause-video
returns-clause-video g c =
    let set = kept_set c.args.receiver.now in
    let items : List ShownLayer = c.leading_layers-layers.result.items in
    let shown : c.as_slice.result.now ≡ items = c.as_slice.ensures.value in
    on_ok c.put_together.result c.put_together.ensures.many c.put_together.ensures.fits c.put_together.ensures.video
    (λ k many fit video order p kept is.
    let lengths = lengths_read (open_group set c.args.group) c.in-Some.header.now p c.layers.result.now
    c.as_slice-2.result.now c.in-Some.ensures is c.layers.ensures.value
    (c.as_slice-2.ensures.value ∙ c.lengths_of-lengths.ensures) in
    record {
      layers = bytes_each items;
      many = length-map items (λ (e : ShownLayer). e.bytes.now) ∙ sym (many ∙ ap length shown);
      bytes = c.leading_layers-layers.ensures.bytes order p kept is;
      fits_them = fits_so items c.as_slice.result.now c.as_slice-2.result.now p true shown lengths fit;
      appended = video ∙ ap (λ (l : List ShownLayer). c.args.into.now.items ++ group_video (bytes_each l)) shown;
    })
