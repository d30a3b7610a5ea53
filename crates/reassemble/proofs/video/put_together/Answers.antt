-- Each run of a table that fits lies in its layer.
use Rattle.std.proofs.Common.{◌≡◌, ℕ, List, [], length, get_or, true, false, sym, ap, ◌∙◌, arith}
use Rattle.std.proofs.lemmas.List.{length-map, get_or-map}
use Rattle.std.proofs.lemmas.Option.{MatchOption-at_some}
use Rattle.layer_split.specs.RunTable.{fits, named_runs}
use Rattle.reassemble.specs.declared.leading.ShownLayer.{ShownLayer}
use Rattle.reassemble.specs.inside.Taking.{bytes_each, first_of}
use Rattle.reassemble.proofs.Runs.{have_room}
use Rattle.reassemble.proofs.video.put_together.Goals as goal

pub append_video-requires : goal.append_video-requires
append_video-requires c =
    let none : ShownLayer = record { bytes = record { ref_ptr = (0, 0); now = [] } } in
    let layers : List (List ℕ) = bytes_each c.args.layers.now in
    let bytes : List ℕ = (get_or c.args.layers.now 0 none).bytes.now in
    let many : length layers ≡ length c.args.layers.now =
    length-map c.args.layers.now (λ (e : ShownLayer). e.bytes.now) in
    let first : first_of layers
    ≡ bytes = get_or-map (λ (e : ShownLayer). e.bytes.now) c.args.layers.now 0 none [] c.requires.some in
    let fit = MatchOption-at_some (fits bytes c.args.lengths.now ≡ false)
    (λ runs. (fits bytes c.args.lengths.now ≡ true) × (runs.items ≡ named_runs bytes)) c.in-Some.runs c.in-Some.is
    c.in_ok-runs.ensures in
    record {
      some = c.requires.some;
      few = c.requires.few;
      named = c.as_slice.ensures.value ∙ (fit.1 ∙ ap named_runs (sym first));
      room =
          have_room layers c.args.lengths.now (ap (λ f. fits f c.args.lengths.now) first ∙ fit.0)
          (λ layer lt. c.requires.sized layer (omega (arith, lt, many)));
    }
