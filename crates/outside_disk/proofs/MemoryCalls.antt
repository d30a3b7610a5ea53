-- What a call that was done, or was not, does to what is seen of a file in memory.
use Rattle.std.proofs.Common.{◌≡◌, ℕ, List, ◌++◌, [], ◌∷◌, ap, length, sym, ◌∙◌, subst}
use Rattle.std.specs.Prelude.{Vec}
use Rattle.std.specs.declared.alloc.Global.{Global}
use Rattle.outside_disk.specs.Disk.{DiskSeen, Tells, Between, IfTold, Leaves, LeavesNoMore}
use Rattle.outside_disk.specs.Disk.{LeavesAny, LeavesTorn, LeavesCut, Torn, Cut, IsSynced, image}
use Rattle.outside_disk.specs.Events.{content, next, sync_or}
use Rattle.outside_disk.specs.Memory.{told_at, memory_bytes, memory_synced, memory_seen, KeepsFile, Does}
use Rattle.outside_disk.specs.laws.MemoryLaws.{leaves_same, torn_none, cut_none, torn_more, cut_more, torn_any}
use Rattle.outside_disk.specs.laws.MemoryLaws.{cut_any, is_synced, no_more_synced, synced_one}
use Rattle.outside_disk.specs.declared.event.Event.{Event}
use Rattle.outside_disk.specs.declared.event.Event.TheVariants.{Wrote, Synced}
use Rattle.outside_disk.specs.declared.event.Event.TheVariants.{Cut as WasCut}
use Rattle.outside_disk.specs.declared.memory.MemoryDisk.{MemoryDisk}

seen_kept : (old new : MemoryDisk) → KeepsFile old new → memory_seen new ≡ memory_seen old
seen_kept old new k = λ i. Tells (told_at (content (k.first i) (k.current i)) (k.first i).items (k.events i))

-- a call that was counted before keeps the file too
pub kept_from : (old mid new : MemoryDisk) → mid.first ≡ old.first → mid.current ≡ old.current
    → mid.synced ≡ old.synced → mid.events.items ≡ old.events.items → KeepsFile mid new → KeepsFile old new
kept_from old mid new first current synced events k = record {
  first = k.first ∙ first;
  current = k.current ∙ current;
  synced = k.synced ∙ synced;
  events = k.events ∙ events;
}

seen_done : (event : Event) (old new : MemoryDisk) → Does event old new
    → memory_seen new ≡ Tells (told_at (memory_bytes new) old.first.items (old.events.items ++ event ∷ []))
seen_done event old new d = λ i. Tells (told_at (memory_bytes new) (d.first i).items (d.events i))

pub same_leaves : (old : MemoryDisk) → Between Leaves (memory_seen old) (memory_seen old)
same_leaves old = leaves_same old.first.items (memory_bytes old) old.events.items

pub same_no_more : (old : MemoryDisk) → Between LeavesNoMore (memory_seen old) (memory_seen old)
same_no_more old = (leaves_same old.first.items (memory_bytes old) old.events.items).no_more

pub same_torn : (at n : ℕ) (old : MemoryDisk) → Between (LeavesTorn at n) (memory_seen old) (memory_seen old)
same_torn at n old = torn_none old.first.items at n (memory_bytes old) old.events.items

pub same_cut : (n : ℕ) (old : MemoryDisk) → Between (LeavesCut n) (memory_seen old) (memory_seen old)
same_cut n old = cut_none old.first.items n (memory_bytes old) old.events.items

pub kept_leaves : (old new : MemoryDisk) → KeepsFile old new → Between Leaves (memory_seen old) (memory_seen new)
kept_leaves old new k = subst (λ (s : DiskSeen). Between Leaves (memory_seen old) s) (sym (seen_kept old new k))
    (same_leaves old)

pub kept_no_more : (old new : MemoryDisk) → KeepsFile old new
    → Between LeavesNoMore (memory_seen old) (memory_seen new)
kept_no_more old new k = subst (λ (s : DiskSeen). Between LeavesNoMore (memory_seen old) s) (sym (seen_kept old new k))
    (same_no_more old)

pub kept_torn : (at n : ℕ) (old new : MemoryDisk) → KeepsFile old new
    → Between (LeavesTorn at n) (memory_seen old) (memory_seen new)
kept_torn at n old new k = subst (λ (s : DiskSeen). Between (LeavesTorn at n) (memory_seen old) s)
    (sym (seen_kept old new k)) (same_torn at n old)

pub kept_cut : (n : ℕ) (old new : MemoryDisk) → KeepsFile old new
    → Between (LeavesCut n) (memory_seen old) (memory_seen new)
kept_cut n old new k = subst (λ (s : DiskSeen). Between (LeavesCut n) (memory_seen old) s) (sym (seen_kept old new k))
    (same_cut n old)

-- a call that was counted before did the same
pub does_from : (event : Event) (old mid new : MemoryDisk) → mid.first ≡ old.first → mid.current ≡ old.current
    → mid.synced ≡ old.synced → mid.events.items ≡ old.events.items → Does event mid new → Does event old new
does_from event old mid new first current synced events d = record {
  first = d.first ∙ first;
  events = d.events ∙ ap (λ (l : List Event). l ++ event ∷ []) events;
  bytes = d.bytes ∙ (λ i. next (content (first i) (current i)) event);
  synced = d.synced ∙ (λ i. sync_or (content (first i) (current i)) (content (first i) (synced i)) event);
}

pub done_torn : (at n : ℕ) (part : Vec ℕ Global) (old new : MemoryDisk) → length part.items ≡ n
    → Does (Wrote at part) old new → Between (LeavesTorn at n) (memory_seen old) (memory_seen new)
done_torn at n part old new is d =
    subst (λ (s : DiskSeen). Between (LeavesTorn at n) (memory_seen old) s)
    (sym (seen_done (Wrote at part) old new d))
    (torn_more old.first.items at n part (memory_bytes old) (memory_bytes new) old.events.items is)

pub done_cut : (n : ℕ) (old new : MemoryDisk) → Does (WasCut n) old new
    → Between (LeavesCut n) (memory_seen old) (memory_seen new)
done_cut n old new d =
    subst (λ (s : DiskSeen). Between (LeavesCut n) (memory_seen old) s) (sym (seen_done (WasCut n) old new d))
    (cut_more old.first.items n (memory_bytes old) (memory_bytes new) old.events.items)

pub done_torn_any : (at n : ℕ) (part : Vec ℕ Global) (old new : MemoryDisk) → length part.items ≡ n
    → Does (Wrote at part) old new → Between (LeavesAny (Torn at n)) (memory_seen old) (memory_seen new)
done_torn_any at n part old new is d =
    subst (λ (s : DiskSeen). Between (LeavesAny (Torn at n)) (memory_seen old) s)
    (sym (seen_done (Wrote at part) old new d))
    (torn_any old.first.items at n part (memory_bytes old) (memory_bytes new) old.events.items is)

pub done_cut_any : (n : ℕ) (old new : MemoryDisk) → Does (WasCut n) old new
    → Between (LeavesAny (Cut n)) (memory_seen old) (memory_seen new)
done_cut_any n old new d =
    subst (λ (s : DiskSeen). Between (LeavesAny (Cut n)) (memory_seen old) s) (sym (seen_done (WasCut n) old new d))
    (cut_any old.first.items n (memory_bytes old) (memory_bytes new) old.events.items)

-- as `seen_done`, where it reads as before
seen_synced : (old new : MemoryDisk) → Does Synced old new
    → memory_seen new ≡ Tells (told_at (memory_bytes old) old.first.items (old.events.items ++ Synced ∷ []))
seen_synced old new d = λ i. Tells (told_at (d.bytes i) (d.first i).items (d.events i))

pub done_synced : (old new : MemoryDisk) → Does Synced old new → IfTold (memory_seen new) IsSynced
done_synced old new d =
    subst (λ (s : DiskSeen). IfTold s IsSynced) (sym (seen_synced old new d))
    (is_synced old.first.items (memory_bytes old) old.events.items old.same)

pub done_no_more : (old new : MemoryDisk) → Does Synced old new
    → Between LeavesNoMore (memory_seen old) (memory_seen new)
done_no_more old new d =
    subst (λ (s : DiskSeen). Between LeavesNoMore (memory_seen old) s) (sym (seen_synced old new d))
    (no_more_synced old.first.items (memory_bytes old) old.events.items old.asked old.same)

pub synced_left : (m : MemoryDisk) → IfTold (memory_seen m) (λ disk. image disk (memory_synced m))
synced_left m = synced_one m.first.items (memory_bytes m) (memory_synced m) m.events.items m.kept
