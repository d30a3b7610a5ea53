-- A frame by its plan's table, which is that of the layers whose words the plan cuts: where a word has two bytes the
-- table that the frame tells, and in the byte profile the one of twice the lengths. From the one to the other, and
-- back. This project's own.
use Rattle.std.specs.Prelude.{◌≡◌, ℕ, ◌/◌, List, map, if◌then◌else◌}
use Rattle.stripe_plan.specs.declared.bounds.Bounds.{Bounds}
use Rattle.stripe_plan.specs.declared.layer.LayerSize.{LayerSize}
use Rattle.stripe_plan.specs.Sizes.{IsTableIn, planned}
use Rattle.packet_frame.specs.declared.format.Format.{Format}
use Rattle.packet_frame.specs.Frame.{Fields, IsFrameIn, text_in}
use Rattle.packet_frame.specs.Refusals.{fields_in}

-- the fields that a frame tells, by its plan's table
abbrev pub by_plan : Format → Fields → Fields
by_plan t f = record f { layers = planned t.bounds f.layers }

-- what bytes hold, so
abbrev pub planned_fields : Format → List ℕ → Fields
planned_fields t bytes = by_plan t (fields_in t bytes)

-- a layer of half the length
abbrev pub halved : LayerSize → LayerSize
halved layer = record { length = layer.length / 2; need = layer.need }

-- the layers that a frame tells, by those whose words its plan cuts
abbrev pub unplanned : Bounds → List LayerSize → List LayerSize
unplanned b layers = if b.doubled then map halved layers else layers

-- the fields that a frame tells, by those over its plan's table
abbrev pub by_text : Format → Fields → Fields
by_text t f = record f { layers = unplanned t.bounds f.layers }

-- the bytes of a frame over its plan's table
abbrev pub planned_text : Format → Fields → List ℕ
planned_text t f = text_in t (by_text t f)

-- these packets and layers are the plan's table of a table of the format
pub record IsPlanTableIn (b : Bounds) (packets : ℕ) (layers : List LayerSize) : Type 0 where
  pub table : IsTableIn b packets (unplanned b layers)
  pub whole : planned b (unplanned b layers) ≡ layers

-- these fields are a frame of the format over its plan's table
pub record IsPlannedFrame (t : Format) (f : Fields) : Type 0 where
  pub frame : IsFrameIn t (by_text t f)
  pub whole : by_plan t (by_text t f) ≡ f
