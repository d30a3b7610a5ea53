-- For callers: frames of a format, by the table whose words their plan cuts.
use Rattle.std.proofs.Common.{◌≡◌, ℕ, ◌*◌, ◌/◌, ◌<◌, ◌≤◌, Bool, true, false, All, List, [], ◌∷◌, map, length, None}
use Rattle.std.proofs.Common.{refl, subst, ap, sym, ◌∙◌, arith}
use Rattle.std.specs.Prelude.{if◌then◌else◌}
use Rattle.pet_base.specs.declared.limits.TheConstants.{MAX_GROUPS}
use Rattle.stripe_plan.specs.declared.bounds.Bounds.{Bounds}
use Rattle.stripe_plan.specs.declared.bounds.TheConstants.{BYTE_BOUNDS}
use Rattle.stripe_plan.specs.declared.layer.LayerSize.{LayerSize}
use Rattle.stripe_plan.specs.Layers.{plan_ends}
use Rattle.stripe_plan.specs.Sizes.{ArePlanBounds, IsByteTable, IsTableIn, planned, twofold}
use Rattle.stripe_plan.specs.laws.ByteLaws.{is_planned}
use Rattle.packet_frame.specs.declared.format.Format.{Format}
use Rattle.packet_frame.specs.Format.{IsFormat}
use Rattle.packet_frame.specs.Frame.{Fields, IsFrameIn, IsFrameBy, text_in}
use Rattle.packet_frame.specs.Planned.{halved, unplanned, by_plan, by_text, planned_fields, planned_text, IsPlanTableIn}
use Rattle.packet_frame.specs.Planned.{IsPlannedFrame}
use Rattle.packet_frame.specs.Refusals.{fields_in, first_fault_in}
use Rattle.packet_frame.specs.laws.Again.{is_read}
use Rattle.packet_frame.specs.laws.Laws.{reads_frames_in, reads_texts_in}

-- by its plan's table a frame of a format is one of today, but for the bytes that a stripe has
pub by_plan_is : (t : Format) (f : Fields) → ArePlanBounds t.bounds → IsFrameIn t f → IsFrameBy t.word (by_plan t f)
by_plan_is t f are is = record {
  session = is.session;
  some_groups = is.some_groups;
  few_groups = is.few_groups;
  group = is.group;
  number = is.number;
  table = is_planned t.bounds f.packets f.layers are is.table;
  payload = is.payload;
}

-- so is what is read of bytes
pub planned_is : (t : Format) → IsFormat t → ArePlanBounds t.bounds → (bytes : List ℕ) → first_fault_in t bytes ≡ None
    → IsFrameBy t.word (planned_fields t bytes)
planned_is t format are bytes fine = by_plan_is t _ are (reads_frames_in t format bytes fine)

-- the text of a frame is read as that frame
pub planned_again : (t : Format) → IsFormat t → (f : Fields) → IsPlannedFrame t f
    → (first_fault_in t (planned_text t f) ≡ None) × (planned_fields t (planned_text t f) ≡ f)
planned_again t format f is =
    let p = is_read t format (by_text t f) is.frame in
    (p.0, ap (by_plan t) p.1 ∙ is.whole)

-- fields in their ranges, over a plan's table of the format, are a frame
pub planned_frame : (t : Format) (f : Fields) → IsPlanTableIn t.bounds f.packets f.layers → length f.session ≡ 8
    → 0 < f.groups → f.groups ≤ MAX_GROUPS → f.group < f.groups → f.number < f.packets
    → length f.payload ≡ t.word * length (plan_ends f.layers) → IsPlannedFrame t f
planned_frame t f table session some few group number payload = record {
  frame = record {
    session = session;
    some_groups = some;
    few_groups = few;
    group = group;
    number = number;
    table = table.table;
    payload = payload ∙ ap (λ (l : List LayerSize). t.word * length (plan_ends l)) (sym table.whole);
  };
  whole = λ i. record f { layers = table.whole i };
}

-- half of twice the lengths are the lengths
pub halved_twofold : (layers : List LayerSize) → map halved (map twofold layers) ≡ layers
halved_twofold [] = refl
halved_twofold (layer ∷ layers) =
    let half : 2 * layer.length / 2 ≡ layer.length = omega arith in
    λ i. record { length = half i; need = layer.need } ∷ halved_twofold layers i

-- so the layers that a frame tells come back from those whose words its plan cuts
pub planned_back : (b : Bounds) (layers : List LayerSize) → unplanned b (planned b layers) ≡ layers
planned_back b layers = by_flag b.doubled
  where
    cut : Bool → List LayerSize
    cut flag = if flag then map twofold layers else layers

    by_flag : (flag : Bool) → (if flag then map halved (cut flag) else cut flag) ≡ layers
    by_flag true = halved_twofold layers
    by_flag false = refl

-- and so do the fields
pub text_back : (t : Format) (f : Fields) → by_text t (by_plan t f) ≡ f
text_back t f = λ i. record f { layers = planned_back t.bounds f.layers i }

-- what is read is a frame of the format by its plan's table, and the bytes are its text
pub planned_reads : (t : Format) → IsFormat t → (bytes : List ℕ) → first_fault_in t bytes ≡ None
    → IsPlannedFrame t (planned_fields t bytes)
planned_reads t format bytes fine =
    let back = text_back t (fields_in t bytes) in
    record {
      frame = subst (IsFrameIn t) (sym back) (reads_frames_in t format bytes fine);
      whole = ap (by_plan t) back;
    }

pub planned_spelled : (t : Format) → IsFormat t → (bytes : List ℕ) → All (λ byte. byte < 256) bytes
    → first_fault_in t bytes ≡ None → bytes ≡ planned_text t (planned_fields t bytes)
planned_spelled t format bytes fits fine =
    reads_texts_in t format bytes fits fine ∙ ap (text_in t) (sym (text_back t (fields_in t bytes)))

-- and the plan of a table of the byte profile is a plan's table of its format
pub byte_plan : (packets : ℕ) (layers : List LayerSize) → IsByteTable packets layers
    → IsPlanTableIn BYTE_BOUNDS packets (map twofold layers)
byte_plan packets layers t = record {
  table = subst (IsTableIn BYTE_BOUNDS packets) (sym (halved_twofold layers)) t;
  whole = ap (map twofold) (halved_twofold layers);
}
