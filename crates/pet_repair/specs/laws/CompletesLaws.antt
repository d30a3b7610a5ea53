-- When the arrival of a datagram makes its group complete, by the layers that its verdict shows.
use Rattle.std.proofs.Common.{◌≡◌, ◌≢◌, ℕ, ◌+◌, ◌^◌, ◌<◌, ◌≤◌, Bool, true, false, cond, List, [], ◌∷◌, length, Contains, Option, None, Some, refl, sym, ap, subst, ◌∙◌, arith, inl, inr, leb}
use Rattle.std.specs.Prelude.{not, ◌&&◌, is_some, is_none, option_map, unwrap_or, sum_by}
use Rattle.std.proofs.Common.{pow_pos}
use Rattle.std.proofs.lemmas.Bool.{cases_lt, le-leb, leb-true}
use Rattle.std.proofs.lemmas.List.Sums.{sum_by-cons}
use Rattle.stripe_plan.specs.declared.layer.LayerSize.{LayerSize}
use Rattle.stripe_plan.specs.Sizes.{Sizes}
use Rattle.stripe_plan.specs.Layers.{count_of, words_before, plan_stripes}
use Rattle.packet_frame.specs.Frame.{Fields, IsFrame}
use Rattle.packet_frame.specs.Refusals.{fields_of}
use Rattle.packet_frame.specs.declared.frame.Header.{Header}
use Rattle.packet_frame.specs.laws.Laws.{reads_frames}
use Rattle.packet_set.specs.Packets.{Packets, count_in, layers_of}
use Rattle.packet_verdicts.specs.declared.verdict.Verdict.TheVariants.{Kept}
use Rattle.packet_verdicts.specs.declared.verdict.LayerSet.{LayerSet}
use Rattle.packet_verdicts.specs.KeptSet.{KeptSet, IsKeptSet, open_group, group_with, count_kept}
use Rattle.packet_verdicts.specs.Verdicts.{verdict_of, is_kept, after, newly_shown, layer_set}
use Rattle.packet_verdicts.specs.laws.KeptSetLaws.{IsKeepable, keepable, verdict_read, after_kept, open_here, header_with, count_with}
use Rattle.packet_verdicts.specs.laws.LayerSetLaws.{newly_shown-is}
use Rattle.packet_met.specs.laws.KeptDatagram.{kept_frame}
use Rattle.packet_met.specs.laws.CountsAreMet.{some_count}
use Rattle.packet_rebuild.specs.declared.fault.RepairFault.TheVariants.{NotShown}
use Rattle.packet_rebuild.specs.Repairs.{is_hidden, first_hidden, fault_in, repair_fault}
use Rattle.pet_repair.specs.Arrival.{kept_itself, completes}
use Rattle.packet_rebuild.specs.laws.RangeLaws.{none_passes, all_fail}

-- ---- a verdict that is not Kept

pub not_completed : (set : KeptSet) (d : List ℕ) → is_kept (verdict_of set d) ≡ false → completes set d ≡ false
unfolding completes
not_completed set d out = ap (λ (b : Bool). b && (is_none (repair_fault (after set d) (fields_of d).group) && is_some (repair_fault set (fields_of d).group))) out

pub nothing_itself : (set : KeptSet) (d : List ℕ) → is_kept (verdict_of set d) ≡ false → kept_itself set d ≡ []
nothing_itself set d out = ap (λ (b : Bool). cond b (d ∷ []) []) out

pub alone_itself : (set : KeptSet) (d : List ℕ) → is_kept (verdict_of set d) ≡ true → kept_itself set d ≡ d ∷ []
alone_itself set d kept = ap (λ (b : Bool). cond b (d ∷ []) []) kept

-- ---- which layers are hidden

not_hidden : (p : Packets) (layer : ℕ) → is_hidden p layer ≡ false → count_of (layers_of p) layer ≤ count_in p
not_hidden p layer e = leb-true (count_of (layers_of p) layer) (count_in p) (by (leb (count_of (layers_of p) layer) (count_in p)) e)
  where
    by : (b : Bool) → not b ≡ false → b ≡ true
    by true e = refl
    by false e = absurd cc

pub none_hidden : (p : Packets) → first_hidden p ≡ None → (layer : ℕ) → layer < length (layers_of p) → count_of (layers_of p) layer ≤ count_in p
none_hidden p none layer lt =
    let z : layer ≡ 0 + layer = omega arith in
    not_hidden p layer (ap (is_hidden p) z ∙ none_passes (is_hidden p) 0 (length (layers_of p)) none layer lt)

pub hide_none : (p : Packets) → ((layer : ℕ) → layer < length (layers_of p) → count_of (layers_of p) layer ≤ count_in p) → first_hidden p ≡ None
hide_none p each =
    all_fail (is_hidden p) 0 (length (layers_of p))
    (λ layer lt. let z : 0 + layer ≡ layer = omega arith in ap (is_hidden p) z ∙ ap not (le-leb (count_of (layers_of p) layer) (count_in p) (each layer lt)))

fault_none : (o : Option ℕ) → is_none (option_map NotShown o) ≡ true → o ≡ None
fault_none None e = refl
fault_none (Some n) e = absurd cc

no_fault : (o : Option ℕ) → o ≡ None → is_some (option_map NotShown o) ≡ false
no_fault o e = ap (λ (t : Option ℕ). is_some (option_map NotShown t)) e

-- a layer has a count of one at least
some_needed : (layers : List LayerSize) (layer : ℕ) → 0 < count_of layers layer
some_needed layers layer = some_count (words_before layers layer) (words_before layers (layer + 1)) (plan_stripes layers)

no_bits : (xs : List ℕ) → sum_by (λ j. 2 ^ j) xs ≡ 0 → xs ≡ []
no_bits [] e = refl
no_bits (j ∷ xs) e = absurd (omega (arith, e, sum_by-cons (λ (j : ℕ). 2 ^ j) j xs, pow_pos j))

record Taken (set : KeptSet) (d : List ℕ) (shown : LayerSet) : Type 0 where
  frame : IsFrame (fields_of d)
  able : IsKeepable set (fields_of d)
  bits : shown.bits ≡ sum_by (λ j. 2 ^ j) (newly_shown set (fields_of d))
  opened : open_group (after set d) (fields_of d).group ≡ Some (group_with set (fields_of d))
  kept : is_kept (verdict_of set d) ≡ true

same_set : (a b : LayerSet) → Kept a ≡ Kept b → a ≡ b
same_set a b e = cc

module _ (set : KeptSet) (d : List ℕ) (shown : LayerSet) (sound : IsKeptSet set) (is : Kept shown ≡ verdict_of set d) where
  abbrev f : Fields
  f = fields_of d

  taken : Taken set d shown
  taken =
      let kept : is_kept (verdict_of set d) ≡ true = ap is_kept (sym is) in
      let whole = kept_frame set d kept in
      let verdict = verdict_read set d whole in
      let able = keepable set f (ap is_kept (sym verdict) ∙ kept) in
      record {
        frame = reads_frames d whole;
        able = able;
        bits = ap (λ (x : LayerSet). x.bits) (same_set shown (layer_set (newly_shown set f)) (is ∙ verdict ∙ able.verdict));
        opened = ap (λ (x : KeptSet). open_group x f.group) (after_kept set d kept) ∙ open_here set f;
        kept = kept;
      }

  layers_now : layers_of (group_with set f) ≡ f.layers
  layers_now = ap (λ (h : Header). h.table.layers) (header_with set sound f taken.frame taken.able)

  layers_before : (p : Packets) → open_group set f.group ≡ Some p → layers_of p ≡ f.layers
  layers_before p opened = ap (λ (t : Sizes). t.layers) (taken.able.table p opened)

  before_is : (p : Packets) → open_group set f.group ≡ Some p → count_kept set f.group ≡ count_in p
  before_is p opened = ap (λ (o : Option Packets). unwrap_or (option_map count_in o) 0) opened

  -- a layer is newly shown, so it was hidden
  hidden_before : shown.bits ≢ 0 → is_some (repair_fault set f.group) ≡ true
  unfolding repair_fault
  hidden_before some = by (open_group set f.group) refl
    where
      new_one : (xs : List ℕ) → newly_shown set f ≡ xs → (j : ℕ) × Contains (newly_shown set f) j
      new_one [] e = absurd (some (taken.bits ∙ ap (sum_by (λ j. 2 ^ j)) e))
      new_one (j ∷ xs) e = (j, subst (λ (t : List ℕ). Contains t j) (sym e) (0, omega arith, refl))

      by : (o : Option Packets) → open_group set f.group ≡ o → is_some (fault_in o) ≡ true
      by None e = refl
      by (Some p) e = at (first_hidden p) refl
        where
          at : (o : Option ℕ) → first_hidden p ≡ o → is_some (option_map NotShown o) ≡ true
          at (Some n) g = refl
          at None g =
              let one = new_one (newly_shown set f) refl in
              let new = (newly_shown-is f.layers (count_kept set f.group) (count_kept set f.group + 1) one.0).0 one.1 in
              let same = layers_before p e in
              let low = none_hidden p g one.0 (omega (arith, new.layer, ap length same)) in
              absurd (omega (arith, low, new.above, before_is p e, ap (λ (l : List LayerSize). count_of l one.0) same))

  -- none is newly shown, so it was whole already, or is not now
  none_new : shown.bits ≡ 0 → newly_shown set f ≡ []
  none_new none = no_bits (newly_shown set f) (sym taken.bits ∙ none)

  whole_before : shown.bits ≡ 0 → is_none (repair_fault (after set d) f.group) ≡ true → is_some (repair_fault set f.group) ≡ false
  unfolding repair_fault
  whole_before none whole = by (open_group set f.group) refl
    where
      now_shown : first_hidden (group_with set f) ≡ None
      now_shown = fault_none (first_hidden (group_with set f)) (sym (ap (λ (o : Option Packets). is_none (fault_in o)) taken.opened) ∙ whole)

      reached : (j : ℕ) → j < length f.layers → count_of f.layers j ≤ count_kept set f.group
      reached j lt =
          let now = none_hidden (group_with set f) now_shown j (omega (arith, lt, ap length layers_now)) in
          let counts = ap (λ (l : List LayerSize). count_of l j) layers_now in
          let more = count_with set sound f taken.frame taken.able in
          elim (cases_lt (count_kept set f.group) (count_of f.layers j)) [
            | inr le ↦ le
            | inl lt_count ↦
                let new = (newly_shown-is f.layers (count_kept set f.group) (count_kept set f.group + 1) j).1 (record { layer = lt; above = lt_count; reached = omega (arith, now, counts, more) }) in
                let no = subst (λ (t : List ℕ). Contains t j) (none_new none) new in
                absurd (omega (arith, no.1))
          ]

      by : (o : Option Packets) → open_group set f.group ≡ o → is_some (fault_in o) ≡ false
      by None e =
          let nothing : count_kept set f.group ≡ 0 = ap (λ (o : Option Packets). unwrap_or (option_map count_in o) 0) e in
          absurd (omega (arith, nothing, reached 0 (omega (arith, taken.frame.table.some_layers)), some_needed f.layers 0))
      by (Some p) e =
          let same = layers_before p e in
          no_fault (first_hidden p)
          (hide_none p (λ j lt. omega (arith, reached j (omega (arith, lt, ap length same)), before_is p e, ap (λ (l : List LayerSize). count_of l j) same)))

  pub completed_not : shown.bits ≡ 0 → completes set d ≡ false
  unfolding completes
  completed_not none =
      ap (λ (b : Bool). b && (is_none (repair_fault (after set d) f.group) && is_some (repair_fault set f.group))) taken.kept
      ∙ by (is_none (repair_fault (after set d) f.group)) refl
    where
      by : (b : Bool) → is_none (repair_fault (after set d) f.group) ≡ b → (b && is_some (repair_fault set f.group)) ≡ false
      by true e = whole_before none e
      by false e = refl

  pub completed_where : shown.bits ≢ 0 → completes set d ≡ is_none (repair_fault (after set d) f.group)
  unfolding completes
  completed_where some =
      ap (λ (b : Bool). b && (is_none (repair_fault (after set d) f.group) && is_some (repair_fault set f.group))) taken.kept
      ∙ ap (λ (b : Bool). is_none (repair_fault (after set d) f.group) && b) (hidden_before some) ∙ and_true (is_none (repair_fault (after set d) f.group))
    where
      and_true : (b : Bool) → (b && true) ≡ b
      and_true true = refl
      and_true false = refl
