-- A frame is added in two writes: what each of them leaves, and what both do.
use Rattle.std.proofs.Common.{◌≡◌, inl, ℕ, ◌+◌, List, [], ◌∷◌, ◌++◌, length, refl, ap, subst, ◌∙◌, length-append}
use Rattle.std.proofs.Common.{arith}
use Rattle.std.specs.Prelude.{Result, OnOk}
use Rattle.outside_disk.specs.Disk.{Told, DiskSeen, Between, Torn, WrittenThrough, LeavesStep}
use Rattle.outside_disk.specs.Disk.{with_bytes}
use Rattle.outside_disk.specs.laws.DiskLaws.{only_then, only_weaker, between_then, between_both, between_weaker}
use Rattle.outside_disk.specs.laws.DiskLaws.{ok_then}
use Rattle.store_journal.specs.Text.{open_entry, entries_text, staged, front_text}
use Rattle.store_journal.specs.AtRest.{MayAdd, Adds}
use Rattle.store_journal.specs.inside.Adding.{MayStage, Stages, MayOpen, Opens}
use Rattle.store_journal.specs.laws.TextLaws.{entries_push}
use Rattle.store_journal.specs.laws.CrashLaws.{torn_behind, torn_gate, any_gate, written_behind, written_gate}
use Rattle.store_journal.specs.laws.CrashLaws.{opened_is}

zero_one : (n : ℕ) → n ≡ 0 → n ≡ 1 → ⊥
zero_one n e f = omega arith

front_more : (session : List ℕ) (frames : List (List ℕ)) (frame : List ℕ)
    → length (front_text session (frames ++ frame ∷ [])) ≡ length (front_text session frames) + 3 + length frame
front_more session frames frame =
    omega (
      arith,
      length-append session (entries_text frames),
      length-append session (entries_text (frames ++ frame ∷ [])),
      ap length (entries_push frames frame),
      length-append (entries_text frames) (open_entry frame),
    )

-- the write behind the gate
stage_leaves : (gate : ℕ) (bytes : List ℕ) (old mid : Told) → LeavesStep (Torn (gate + 1) (length bytes)) old mid
    → MayStage gate bytes old mid
stage_leaves gate bytes old mid leaves session frames frame is rest =
    only_weaker _ _ old mid
    (λ c torn.
    inl
    (torn_behind session frames (gate + 1) (length bytes) 0 c (zero_one 0 refl) (ap (λ (k : ℕ). k + 1) rest.place)
    (subst (λ (b : List ℕ). Torn (gate + 1) (length bytes) b c) rest.text torn))) (leaves rest.synced)

stage_is : (gate : ℕ) (bytes : List ℕ) (old mid : Told) → WrittenThrough (gate + 1) bytes old mid
    → Stages gate bytes old mid
stage_is gate bytes old mid written session frames frame is rest = record {
  text = written.bytes ∙ ap (λ (b : List ℕ). with_bytes (gate + 1) bytes b) rest.text
      ∙ ap (λ (p : List ℕ). with_bytes (gate + 1) p (front_text session frames ++ 0 ∷ [])) is
      ∙ written_behind session frames (gate + 1) 0 (staged frame) (ap (λ (k : ℕ). k + 1) rest.place);
  place = rest.place;
  synced = written.synced;
}

-- the write that opens the gate
opening_leaves : (gate : ℕ) (mid new : Told) → LeavesStep (Torn gate 1) mid new → MayOpen gate mid new
opening_leaves gate mid new leaves session frames frame is =
    only_weaker _ _ mid new
    (λ c torn. let g =
    torn_gate session frames gate 0 (staged frame) c is.place
    (subst (λ (b : List ℕ). Torn gate 1 b c) is.text torn) in any_gate session frames frame g.0 c g.1)
    (leaves is.synced)

opening_is : (gate : ℕ) (mid new : Told) → WrittenThrough gate (1 ∷ []) mid new → Opens gate mid new
opening_is gate mid new written session frames frame is = record {
  text = written.bytes ∙ ap (λ (b : List ℕ). with_bytes gate (1 ∷ []) b) is.text
      ∙ written_gate session frames gate 0 1 (staged frame) is.place ∙ opened_is session frames frame;
  place = omega (arith, is.place, front_more session frames frame);
  synced = written.synced;
}

-- the same, told or not
pub put_leaves : (gate : ℕ) (bytes : List ℕ) (a b : DiskSeen)
    → Between (LeavesStep (Torn (gate + 1) (length bytes))) a b → Between (MayStage gate bytes) a b
put_leaves gate bytes a b leaves = between_weaker _ _ (stage_leaves gate bytes) a b leaves

pub put_is : {T E : Type 0} (gate : ℕ) (bytes : List ℕ) (a b : DiskSeen) (r : Result T E)
    → OnOk r (Between (WrittenThrough (gate + 1) bytes) a b) → OnOk r (Between (Stages gate bytes) a b)
put_is gate bytes a b r written = ok_then _ _ (between_weaker _ _ (stage_is gate bytes) a b) r written

pub open_leaves : (gate : ℕ) (a b : DiskSeen) → Between (LeavesStep (Torn gate 1)) a b → Between (MayOpen gate) a b
open_leaves gate a b leaves = between_weaker _ _ (opening_leaves gate) a b leaves

pub open_is : {T E : Type 0} (gate : ℕ) (a b : DiskSeen) (r : Result T E)
    → OnOk r (Between (WrittenThrough gate (1 ∷ [])) a b) → OnOk r (Between (Opens gate) a b)
open_is gate a b r written = ok_then _ _ (between_weaker _ _ (opening_is gate) a b) r written

-- both
pub first_leaves : (gate : ℕ) (bytes frame : List ℕ) (a b : DiskSeen) → bytes ≡ staged frame
    → Between (MayStage gate bytes) a b → Between (MayAdd gate frame) a b
first_leaves gate bytes frame a b is may =
    between_weaker _ _ (λ old mid stages session frames rest. stages session frames frame is rest) a b may

pub both_leave : (gate : ℕ) (bytes frame : List ℕ) (a b c : DiskSeen) → bytes ≡ staged frame
    → Between (MayStage gate bytes) a b → Between (Stages gate bytes) a b → Between (MayOpen gate) b c
    → Between (MayAdd gate frame) a c
both_leave gate bytes frame a b c is may stages opens =
    between_then _ _ _
    (λ old mid new first last session frames rest.
    only_then _ old mid new (first.0 session frames frame is rest)
    (last session frames frame (first.1 session frames frame is rest)))
    a b c (between_both _ _ a b may stages) opens

pub both_add : {T E : Type 0} (gate : ℕ) (bytes frame : List ℕ) (a b c : DiskSeen) (r : Result T E)
    → bytes ≡ staged frame → Between (Stages gate bytes) a b → OnOk r (Between (Opens gate) b c)
    → OnOk r (Between (Adds gate frame) a c)
both_add gate bytes frame a b c r is stages opens =
    ok_then _ _ (λ opened. between_then _ _ _
    (λ old mid new first last session frames rest.
    last session frames frame (first session frames frame is rest))
    a b c stages opened) r opens
