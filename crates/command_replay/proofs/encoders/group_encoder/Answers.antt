use Rattle.std.proofs.Common.{◌≡◌, ℕ, ◌+◌, ◌*◌, ◌≤◌, ◌++◌, ◌∙◌, List, All, length, ap, sym, subst, rules, arith}
use Rattle.std.specs.Prelude.{IfOk, Result, Ok, Err}
use Rattle.std.proofs.lemmas.Option.{get_or_from_slice_get}
use Rattle.stripe_plan.specs.Sizes.{Sizes}
use Rattle.stripe_plan.specs.Layers.{needs_of}
use Rattle.layer_split.specs.declared.cut.Run.{Run}
use Rattle.layer_split.specs.Layers.{message}
use Rattle.packet_frame.specs.declared.frame.Header.{Header}
use Rattle.packet_session.specs.Encoding.{Encoding}
use Rattle.stream_session.specs.Tables.{table_of}
use Rattle.stream_session.specs.laws.MessageLaws.{message_words}
use Rattle.command_replay.specs.inside.Held.{IsEncoderAt, held_session}
use Rattle.command_replay.proofs.HeldSession.{tables_few}
use Rattle.command_replay.proofs.HeldGroups.{placed, whole_cut, table_there, group_below, encoder_is}
use Rattle.command_replay.proofs.encoders.group_encoder.Goals as goal

ok_same : {A E : Type 0} (x y : A) (r : Result A E) → r ≡ Ok x → r ≡ Ok y → x ≡ y
ok_same x y r p q = cc

abbrev head : List ℕ → ℕ → ℕ → Sizes → Header
head session groups group table = record { session = session; groups = groups; group = group; table = table }

-- an encoder of this header and this message
made : {X : Type 0} (r : Result Encoding X) (header : Header) (bytes : List ℕ) (P : Encoding → Type 0)
    → IfOk r (λ e. e.header ≡ header) → IfOk r (λ e. e.message ≡ bytes)
    → ((e : Encoding) → e.header ≡ header → e.message ≡ bytes → P e) → IfOk r P
made (Ok e) header bytes P h m is = is e h m
made (Err x) header bytes P h m is = tt

pub message-requires-clause-inside : goal.message-requires-clause-inside
message-requires-clause-inside c =
    let whole = c.args.whole.now in
    subst (λ (s : List ℕ). All (λ (run : Run). run.at + run.len ≤ length s) c.args.cut.now.runs)
    (sym c.deref.ensures.value)
    (whole_cut whole.source.priority whole.bytes.items c.args.group c.args.cut.now c.requires.there).inside

pub message-requires-clause-lengths : goal.message-requires-clause-lengths
message-requires-clause-lengths c =
    let whole = c.args.whole.now in
    (whole_cut whole.source.priority whole.bytes.items c.args.group c.args.cut.now c.requires.there).lengths

pub overflow_cast-header : goal.overflow_cast-header
overflow_cast-header c =
    let few = tables_few c.args.whole.now c.requires.held in
    let many : c.len.result ≡ length c.args.whole.now.source.tables.items = search rules in
    omega (arith, few, many)

pub overflow_cast-header-2 : goal.overflow_cast-header-2
overflow_cast-header-2 c =
    let few = tables_few c.args.whole.now c.requires.held in
    let below = group_below c.args.whole.now c.requires.held c.args.group c.args.cut.now c.requires.there in
    omega (arith, few, below)

pub index-requires : goal.index-requires
index-requires c =
    let below = group_below c.args.whole.now c.requires.held c.args.group c.args.cut.now c.requires.there in
    search rules

pub new-requires-clause-groups : goal.new-requires-clause-groups
new-requires-clause-groups c =
    let few = tables_few c.args.whole.now c.requires.held in
    let many : c.len.result ≡ length c.args.whole.now.source.tables.items = search rules in
    omega (arith, few, many)

pub new-requires-clause-group : goal.new-requires-clause-group
new-requires-clause-group c =
    let below = group_below c.args.whole.now c.requires.held c.args.group c.args.cut.now c.requires.there in
    let many : c.len.result ≡ length c.args.whole.now.source.tables.items = search rules in
    omega (arith, below, many)

pub new-requires-clause-message : goal.new-requires-clause-message
new-requires-clause-message c =
    let whole = c.args.whole.now in
    let cut = c.args.cut.now in
    let fits = whole_cut whole.source.priority whole.bytes.items c.args.group cut c.requires.there in
    let bytes : c.deref-2.result.now ≡ message whole.bytes.items cut.runs (length cut.lengths) =
    c.deref-2.ensures.value ∙ c.in_ok-message.ensures.ok
    ∙ ap (λ (l : List ℕ). l ++ message c.deref.result.now cut.runs (length cut.lengths)) c.new-bytes.ensures.items
    ∙ ap (λ (b : List ℕ). message b cut.runs (length cut.lengths)) c.deref.ensures.value in
    let table : c.in_ok-clone.field-0 ≡ table_of whole.source.priority cut =
    ok_same c.in_ok-clone.field-0 c.index.result.now c.clone.result c.in_ok-clone.was c.clone.ensures ∙ c.index.ensures
    ∙ get_or_from_slice_get whole.source.tables.items c.args.group (table_of whole.source.priority cut) _
    (table_there whole c.requires.held c.args.group cut c.requires.there) in
    ap length bytes ∙ message_words whole.source.priority (placed whole.bytes.items cut) fits
    ∙ ap (λ (t : Sizes). length (needs_of t.layers) * 2) (sym table)

pub returns : goal.returns
returns c =
    let whole = c.args.whole.now in
    let cut = c.args.cut.now in
    let fits = whole_cut whole.source.priority whole.bytes.items c.args.group cut c.requires.there in
    let bytes : c.deref-2.result.now ≡ message whole.bytes.items cut.runs (length cut.lengths) =
    c.deref-2.ensures.value ∙ c.in_ok-message.ensures.ok
    ∙ ap (λ (l : List ℕ). l ++ message c.deref.result.now cut.runs (length cut.lengths)) c.new-bytes.ensures.items
    ∙ ap (λ (b : List ℕ). message b cut.runs (length cut.lengths)) c.deref.ensures.value in
    let table : c.in_ok-clone.field-0 ≡ table_of whole.source.priority cut =
    ok_same c.in_ok-clone.field-0 c.index.result.now c.clone.result c.in_ok-clone.was c.clone.ensures ∙ c.index.ensures
    ∙ get_or_from_slice_get whole.source.tables.items c.args.group (table_of whole.source.priority cut) _
    (table_there whole c.requires.held c.args.group cut c.requires.there) in
    let many : c.len.result ≡ length whole.source.tables.items = search rules in
    record {
      encoder =
          made c.new.result (head whole.source.number c.len.result c.args.group c.in_ok-clone.field-0)
          c.deref-2.result.now (IsEncoderAt (held_session whole) c.args.group) c.new.ensures.header
          c.new.ensures.message
          (λ e h m. encoder_is whole c.requires.held c.args.group cut c.requires.there e c.in_ok-clone.field-0
          c.len.result table many h
          (m ∙ bytes ∙ ap (λ k. message whole.bytes.items cut.runs k) fits.count));
    }
