-- The groups of what was made: each cut and each table is that of a group of the session.
use Rattle.std.proofs.Common.{◌≡◌, ℕ, zero, suc, ◌+◌, ◌*◌, ◌<◌, ◌≤◌, true, List, length, map, Option, None, Some, All, Result, Ok, Err, refl, sym}
use Rattle.std.proofs.Common.{ap, ap₂, subst, ◌∙◌, arith}
use Rattle.std.specs.Prelude.{slice_get, option_map, IfOk}
use Rattle.std.proofs.lemmas.List.{length-map}
use Rattle.std.proofs.lemmas.List.Elements.{All-nil, All-cons, All-get_or}
use Rattle.std.proofs.lemmas.Option.{none-some, same_Some, slice_get-map, slice_get_within, get_or_from_slice_get}
use Rattle.pet_base.specs.declared.faults.NoMemory.{NoMemory}
use Rattle.pet_base.specs.declared.limits.TheConstants.{MAX_SESSION}
use Rattle.stripe_plan.specs.Layers.{needs_of}
use Rattle.stripe_plan.specs.Sizes.{Sizes}
use Rattle.priority_file.specs.Priority.{Priorities}
use Rattle.layer_split.specs.declared.cut.Run.{Run}
use Rattle.layer_split.specs.Layers.{Cut, cut_of, lengths_of, message}
use Rattle.layer_split.specs.RunTable.{fits as fits_run_table}
use Rattle.stripe_plan.specs.declared.layer.LayerSize.{LayerSize}
use Rattle.reassemble.specs.laws.MessageLayers.{message_fits}
use Rattle.packet_frame.specs.declared.frame.Header.{Header}
use Rattle.packet_session.specs.Encoding.{Encoding}
use Rattle.packet_session.specs.Session.{SessionGroup, IsSession, Fits, bytes_of_layer}
use Rattle.packet_met.specs.laws.CountsAreMet.{group_at}
use Rattle.stream_sample.specs.laws.SampleLaws.{sample_bytes, sample_length}
use Rattle.stream_session.specs.Accepted.{IsAcceptedSession, group_of, session_of}
use Rattle.stream_session.specs.Tables.{table_of, tables_of}
use Rattle.stream_session.specs.laws.SessionOfLaws.{is_session, session_fits}
use Rattle.command_sample.specs.declared.made.Made.{Made}
use Rattle.command_sample.specs.inside.Making.{IsMade, session_made}
use Rattle.command_sample.specs.SamplePriority.{sample_priority}
use Rattle.command_sample.specs.laws.SamplePriorityLaws.{priorities_are, sample_rules}
use Rattle.command_sample.specs.laws.SessionLaws.{cut_from, cuts_are, cuts_on, groups_are, groups_with, sample_is_session}
use Rattle.command_sample.specs.laws.SessionLaws.{groups_many, layer_by, sample_layers}
use Rattle.command_sample.specs.laws.GroupLaws.{groups_on}
use Rattle.command_sample.specs.inside.Receiving.{IsSource}
use Rattle.command_sample.proofs.WholeVideo.{runs_named}

-- the cut is that of a group that lies in the stream
pub record IsCutOf (stream : List ℕ) (cut : Cut) : Type 0 where
  pub from : ℕ
  pub is : cut ≡ cut_from from
  pub inside : from + 71961 ≤ length stream

cuts_so : (stream : List ℕ) (from groups : ℕ) → from + groups * 71961 ≤ length stream
    → All (IsCutOf stream) (cuts_on from groups)
cuts_so stream from zero room = All-nil (IsCutOf stream)
cuts_so stream from (suc groups) room =
    All-cons (IsCutOf stream) (cut_from from) (cuts_on (from + 71961) groups)
    (record { from = from; is = refl; inside = omega arith }) (cuts_so stream (from + 71961) groups (omega arith))

module _ (made : Made) (is : IsMade made) where
  abbrev stream : List ℕ
  stream = made.stream.items

  pub accepted : IsAcceptedSession sample_priority stream
  accepted = subst (IsAcceptedSession sample_priority) (sym is.stream_is) (sample_is_session is.seed is.before is.few)

  pub session : IsSession 2 (session_made made)
  session =
      is_session sample_priority stream
      (subst (All (λ b. b < 256)) (sym is.stream_is) (sample_bytes is.seed (suc is.before))) accepted

  pub fits : Fits (session_made made) MAX_SESSION
  fits = session_fits sample_priority stream accepted

  cuts_here : made.cuts.items ≡ cuts_on 0 (suc is.before)
  cuts_here =
      is.cuts
      ∙ ap (λ (l : List ℕ). Rattle.stream_session.specs.Tables.cuts_of_stream
      (Rattle.priority_file.specs.Refusals.priorities_of sample_priority) l) is.stream_is
      ∙ cuts_are is.seed is.before

  pub groups_here : (session_made made).groups ≡ groups_with stream made.cuts.items
  groups_here =
      ap (λ (l : List ℕ). (session_of sample_priority l).groups) is.stream_is ∙ groups_are is.seed is.before
      ∙ ap₂ (λ (l : List ℕ) (cuts : List Cut). groups_with l cuts) (sym is.stream_is) (sym cuts_here)

  pub as_many : length (session_made made).groups ≡ length made.cuts.items
  as_many =
      ap (λ (gs : List SessionGroup). length gs) groups_here
      ∙ length-map made.cuts.items (group_of sample_rules stream)

  pub tables_here : made.plan.tables.items ≡ tables_of sample_rules made.cuts.items
  tables_here =
      is.tables ∙ ap₂ (λ (p : Priorities) (cuts : List Cut). tables_of p cuts) priorities_are (sym is.cuts)

  pub as_many_tables : length made.plan.tables.items ≡ length made.cuts.items
  as_many_tables =
      ap (λ (ts : List Sizes). length ts) tables_here ∙ length-map made.cuts.items (table_of sample_rules)

  module _ (group : ℕ) (cut : Cut) (at : slice_get made.cuts.items group ≡ Some cut) where
    cut_so : IsCutOf stream cut
    cut_so =
        let all : All (IsCutOf stream) made.cuts.items =
        subst (All (IsCutOf stream)) (sym cuts_here)
        (cuts_so stream 0 (suc is.before)
        (omega (arith, ap (λ (l : List ℕ). length l) is.stream_is, sample_length is.seed (suc is.before)))) in
        subst (IsCutOf stream) (get_or_from_slice_get made.cuts.items group cut cut at)
        (All-get_or (IsCutOf stream) made.cuts.items group cut (slice_get_within made.cuts.items group cut at) all)

    pub runs_inside : All (λ (run : Run). run.at + run.len ≤ length stream) cut.runs
    runs_inside =
        subst (λ (x : Cut). All (λ (run : Run). run.at + run.len ≤ length stream) x.runs) (sym cut_so.is)
        (runs_named stream cut_so.from cut_so.inside).inside

    three : length cut.lengths ≡ 3
    three = ap (λ (x : Cut). length x.lengths) cut_so.is

    pub lengths_so : cut.lengths ≡ lengths_of cut.runs (length cut.lengths)
    lengths_so =
        subst (λ (x : Cut). x.lengths ≡ lengths_of x.runs (length x.lengths)) (sym cut_so.is) refl

    abbrev own : List ℕ → SessionGroup
    own bytes = record { packets = 100; layers = sample_layers; message = bytes }

    pub source_is : (bytes : List ℕ) → bytes ≡ message stream cut.runs (length cut.lengths)
        → slice_get (session_made made).groups group ≡ Some (own bytes)
    source_is bytes bytes_are =
        ap (λ (gs : List SessionGroup). slice_get gs group) groups_here
        ∙ slice_get-map (group_of sample_rules stream) made.cuts.items group
        ∙ ap (option_map (group_of sample_rules stream)) at
        ∙ ap (λ (x : Cut). Some (record {
          packets = 100;
          layers = Rattle.stream_session.specs.Tables.sizes_of sample_rules x;
          message = message stream cut.runs 3;
        })) cut_so.is
        ∙ ap (λ (m : List ℕ). Some (own m))
        (ap (λ (n : ℕ). message stream cut.runs n) (sym three) ∙ sym bytes_are)

    pub table_is : (table : Sizes) → slice_get made.plan.tables.items group ≡ Some table
        → table ≡ record { packets = 100; layers = sample_layers }
    table_is table there =
        same_Some table (record { packets = 100; layers = sample_layers })
        (sym there ∙ ap (λ (ts : List Sizes). slice_get ts group) tables_here
        ∙ slice_get-map (table_of sample_rules) made.cuts.items group ∙ ap (option_map (table_of sample_rules)) at
        ∙ ap (λ (x : Cut). Some (table_of sample_rules x)) cut_so.is)

    pub message_whole : (bytes : List ℕ) → bytes ≡ message stream cut.runs (length cut.lengths)
        → length bytes ≡ length (needs_of sample_layers) * 2
    message_whole bytes bytes_are =
        (group_at (session_made made).groups group (own bytes) (source_is bytes bytes_are) session.groups).message.whole

    module _ (r : Result Encoding NoMemory) (header : Header) (bytes : List ℕ)
        (header_is : IfOk r (λ e. e.header ≡ header)) (message_is : IfOk r (λ e. e.message ≡ bytes))
        (there : slice_get made.plan.tables.items group ≡ Some header.table) where
      pub packets_so : IfOk r (λ e. e.header.table.packets ≡ 100)
      packets_so = by r header_is
        where
          by : (r : Result Encoding NoMemory) → IfOk r (λ e. e.header ≡ header)
              → IfOk r (λ e. e.header.table.packets ≡ 100)
          by (Err e) is_so = tt
          by (Ok e) is_so =
              ap (λ (h : Header). h.table.packets) is_so ∙ ap (λ (t : Sizes). t.packets) (table_is header.table there)

      pub source_so : header.session ≡ made.plan.number → header.groups ≡ length made.cuts.items → header.group ≡ group
          → bytes ≡ message stream cut.runs (length cut.lengths) → IfOk r (λ e. IsSource (session_made made) e)
      source_so number groups group_is bytes_are = by r header_is message_is
        where
          by : (r : Result Encoding NoMemory) → IfOk r (λ e. e.header ≡ header) → IfOk r (λ e. e.message ≡ bytes)
              → IfOk r (λ e. IsSource (session_made made) e)
          by (Err e) is_so says = tt
          by (Ok e) is_so says = record {
            session = session;
            fits = fits;
            group = record {
              number = ap (λ (h : Header). h.session) is_so ∙ number ∙ is.number;
              groups = ap (λ (h : Header). h.groups) is_so ∙ groups ∙ sym as_many;
              source =
                  ap (λ (h : Header). slice_get (session_made made).groups h.group) is_so
                  ∙ ap (slice_get (session_made made).groups) group_is ∙ source_is bytes bytes_are
                  ∙ ap₂ (λ (t : Sizes) (m : List ℕ). Some (record {
                    packets = t.packets;
                    layers = t.layers;
                    message = m;
                  })) (sym (ap (λ (h : Header). h.table) is_so ∙ table_is header.table there)) (sym says);
            };
          }

  -- the message of a group has a run table that fits
  pub group_message_fits : (group : ℕ) (g : SessionGroup) → slice_get (session_made made).groups group ≡ Some g
      → fits_run_table (bytes_of_layer 2 g.layers g.message 0) (map (λ (l : LayerSize). l.length) g.layers) ≡ true
  group_message_fits group g there = by (slice_get made.cuts.items group) refl
    where
      by : (o : Option Cut) → slice_get made.cuts.items group ≡ o
          → fits_run_table (bytes_of_layer 2 g.layers g.message 0) (map (λ (l : LayerSize). l.length) g.layers) ≡ true
      by None none =
          absurd (none-some g (sym (ap (λ (gs : List SessionGroup). slice_get gs group) groups_here
          ∙ slice_get-map (group_of sample_rules stream) made.cuts.items group
          ∙ ap (option_map (group_of sample_rules stream)) none) ∙ there))
      by (Some cut) at =
          let so : IsCutOf stream cut = cut_so group cut at in
          let m : List ℕ = message stream cut.runs (length cut.lengths) in
          let same : g ≡ own group cut at m =
          same_Some g (own group cut at m) (sym there ∙ source_is group cut at m refl) in
          subst (λ (x : SessionGroup). fits_run_table (bytes_of_layer 2 x.layers x.message 0)
          (map (λ (l : LayerSize). l.length) x.layers) ≡ true) (sym same)
          (subst (λ (x : Cut). fits_run_table (bytes_of_layer 2 sample_layers (message stream x.runs (length x.lengths)) 0)
          (map (λ (l : LayerSize). l.length) sample_layers) ≡ true) (sym so.is)
          (message_fits stream (cut_from so.from).runs 3 sample_layers (runs_named stream so.from so.inside) refl
          (omega arith)))

  pub cuts_few : length made.cuts.items ≤ 100
  cuts_few =
      omega (
        arith,
        is.few,
        ap (λ (cuts : List Cut). length cuts) cuts_here,
        length-map (groups_on 0 (suc is.before)) (cut_of layer_by 3),
        groups_many 0 (suc is.before),
      )

  pub cuts_some : 0 < length made.cuts.items
  cuts_some =
      omega (
        arith,
        ap (λ (cuts : List Cut). length cuts) cuts_here,
        length-map (groups_on 0 (suc is.before)) (cut_of layer_by 3),
        groups_many 0 (suc is.before),
      )

abbrev from_ok : {A E : Type 0} → A → Result A E → A
from_ok d (Ok x) = x
from_ok d (Err e) = d

pub same_ok : {A E : Type 0} (x y : A) → ◌≡◌ {A = Result A E} (Ok x) (Ok y) → x ≡ y
same_ok x y e = ap (from_ok x) e
