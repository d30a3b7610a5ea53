-- One run more.
use Rattle.std.proofs.Common.{◌≡◌, ℕ, ◌+◌, ◌<◌, ◌≤◌, ◌*◌, ◌++◌, List, [], length, get_or, refl, sym, ap, ◌∙◌, arith}
use Rattle.std.proofs.lemmas.List.{append-nil, length-map, length-set, get_or-map}
use Rattle.layer_split.specs.declared.run_table.NamedRun.{NamedRun}
use Rattle.layer_split.specs.RunTable.{run_count, named_run, named_runs}
use Rattle.reassemble.specs.declared.leading.ShownLayer.{ShownLayer}
use Rattle.reassemble.specs.inside.Taking.{bytes_each, first_of, taken_of}
use Rattle.reassemble.specs.Video.{start_of}
use Rattle.reassemble.proofs.Runs.{IsRunOf, run_at, runs_count, run_end, into_past, into_more, taken_past, taken_set}
use Rattle.reassemble.proofs.Runs.{taken_first, video_is, video_to, run_inside, run_is}
use Rattle.reassemble.proofs.video.append_runs.Goals as goal

-- what is read past the last run, and past the last layer
abbrev no_run : NamedRun
no_run = record { layer = 0; len = 0 }

abbrev no_layer : ShownLayer
no_layer = record { bytes = record { ref_ptr = (0, 0); now = [] } }

abbrev first_in : List ShownLayer → List ℕ
first_in layers = first_of (bytes_each layers)

-- a run that is read is the one that the table names
run_named : (layers : List ShownLayer) (runs : List NamedRun) (i : ℕ) → runs ≡ named_runs (first_in layers)
    → i < length runs
    → (i < run_count (first_in layers)) × (get_or runs i no_run ≡ named_run (first_in layers) i)
run_named layers runs i are lt =
    let inside : i < run_count (first_in layers) = omega (arith, lt, ap length are, runs_count (first_in layers)) in
    (inside, ap (λ (l : List NamedRun). get_or l i no_run) are ∙ run_at (first_in layers) i no_run inside)

-- and so is what is read of its layer, where this is one of the layers
run_of : (layers : List ShownLayer) (runs : List NamedRun) (taken : List ℕ) (i at : ℕ)
    → runs ≡ named_runs (first_in layers) → i < length runs → at ≡ (get_or runs i no_run).layer → at < length layers
    → ((layer : ℕ) → layer < length layers → get_or taken layer 0 ≡ taken_of (first_in layers) i layer)
    → IsRunOf (bytes_each layers) i at (get_or taken at 0) (get_or runs i no_run).len
    (get_or layers at no_layer).bytes.now
run_of layers runs taken i at are lt at_is within taken_is =
    let named = run_named layers runs i are lt in
    record {
      inside = named.0;
      layer_is = at_is ∙ ap (λ (r : NamedRun). r.layer) named.1;
      from_is = taken_is at within;
      len_is = ap (λ (r : NamedRun). r.len) named.1;
      bytes_are = get_or-map (λ (e : ShownLayer). e.bytes.now) layers at no_layer [] within;
    }

pub loop-run-init : goal.loop-run-init
loop-run-init c =
    let first : List ℕ = first_in c.args.layers.now in
    let count : length c.args.runs.now ≡ run_count first = ap length c.requires.named ∙ runs_count first in
    record {
      into = sym (append-nil c.args.into.now.items);
      taken =
          taken_first first (4 + 5 * length c.args.runs.now) 31 (length c.args.layers.now) (ap (λ n. 4 + 5 * n) count);
      size = refl;
    }

pub loop-run-preserved-then-layer-layers : goal.loop-run-preserved-then-layer-layers
loop-run-preserved-then-layer-layers c =
    let layers : List (List ℕ) = bytes_each c.args.layers.now in
    let i : ℕ = c.loop-run.run-index in
    let many : length layers ≡ length c.args.layers.now =
    length-map c.args.layers.now (λ (e : ShownLayer). e.bytes.now) in
    let named = run_named c.args.layers.now c.args.runs.now i c.requires.named c.loop-run-test.true in
    let layer : c.from-layer.result ≡ (named_run (first_of layers) i).layer =
    c.from-layer.ensures ∙ ap (λ (r : NamedRun). r.layer) named.1 in
    let past : length c.args.layers.now ≤ (named_run (first_of layers) i).layer =
    omega (arith, c.if-layer-layers.true, layer) in
    record {
      into = into_past layers c.args.into.now.items c.loop-run.into.items i c.loop-run.invariant.into (omega arith);
      taken =
          taken_past (first_of layers) c.loop-run.taken
          (length c.args.layers.now) i named.0 past c.loop-run.invariant.taken;
      size = c.loop-run.invariant.size;
    }

pub append_run-requires : goal.append_run-requires
append_run-requires c =
    let layers : List (List ℕ) = bytes_each c.args.layers.now in
    let many : length layers ≡ length c.args.layers.now =
    length-map c.args.layers.now (λ (e : ShownLayer). e.bytes.now) in
    let run =
    run_of c.args.layers.now c.args.runs.now c.loop-run.taken c.loop-run.run-index c.from-layer.result c.requires.named
    c.loop-run-test.true c.from-layer.ensures c.if-layer-layers.false c.loop-run.invariant.taken in
    run_inside layers c.loop-run.run-index c.from-layer.result _ _ _ c.requires.room run
    (omega (arith, c.if-layer-layers.false, many))

pub loop-run-preserved : goal.loop-run-preserved
loop-run-preserved c =
    let layers : List (List ℕ) = bytes_each c.args.layers.now in
    let i : ℕ = c.loop-run.run-index in
    let at : ℕ = c.from-layer.result in
    let run =
    run_of c.args.layers.now c.args.runs.now c.loop-run.taken i at c.requires.named c.loop-run-test.true
    c.from-layer.ensures c.if-layer-layers.false c.loop-run.invariant.taken in
    let is = run_is layers i at _ _ _ run in
    let end : c.in_ok-taken.field-0 ≡ start_of (first_of layers) i + (named_run (first_of layers) i).len =
    c.in_ok-taken.ensures.end ∙ run_end layers i at _ _ _ run in
    record {
      into =
          into_more layers c.args.into.now.items c.loop-run.into.items c.append_run.new.into.items i
          c.loop-run.invariant.into (c.in_ok-taken.ensures.bytes ∙ ap (λ l. c.loop-run.into.items ++ l) is);
      taken =
          taken_set (first_of layers) c.loop-run.taken (length c.args.layers.now) i at c.in_ok-taken.field-0 run.inside
          (omega (arith, c.if-layer-layers.false, c.requires.few, c.loop-run.invariant.size)) run.layer_is end
          c.loop-run.invariant.taken;
      size = length-set c.loop-run.taken at c.in_ok-taken.field-0 ∙ c.loop-run.invariant.size;
    }

pub returns-clause-video : goal.returns-clause-video
returns-clause-video c =
    let layers : List (List ℕ) = bytes_each c.args.layers.now in
    let first : List ℕ = first_of layers in
    let count : length c.args.runs.now ≡ run_count first = ap length c.requires.named ∙ runs_count first in
    let many : length layers ≡ length c.args.layers.now =
    length-map c.args.layers.now (λ (e : ShownLayer). e.bytes.now) in
    let end : c.loop-run.run-index ≡ run_count first =
    omega (arith, c.loop-run-test.false, count, c.loop-run.auto.run-index-end) in
    c.loop-run.invariant.into
    ∙ ap (λ l. c.args.into.now.items ++ l)
    (ap (video_to layers) end ∙ sym (video_is layers (omega (arith, c.requires.some, many))))
