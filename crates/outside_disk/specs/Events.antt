-- What a file in memory reads as after some calls, and what a crash may leave of it. This project's own model.
use Rattle.std.specs.Prelude.{ℕ, zero, suc, ◌≡◌, ◌⊎◌, Bool, true, ◌&&◌, nat_le, List, [], ◌∷◌, length, take, Option}
use Rattle.std.specs.Prelude.{None, Some, Vec}
use Rattle.std.specs.declared.alloc.Global.{Global}
use Rattle.outside_disk.specs.Disk.{Torn, Cut, with_bytes}
use Rattle.outside_disk.specs.declared.event.Event.{Event}
use Rattle.outside_disk.specs.declared.event.Event.TheVariants.{Wrote, Synced}
use Rattle.outside_disk.specs.declared.event.Event.TheVariants.{Cut as WasCut}

-- what it reads as after a call, and after all
abbrev pub next : List ℕ → Event → List ℕ
next bytes (Wrote at part) = with_bytes at part.items bytes
next bytes (WasCut n) = take n bytes
next bytes Synced = bytes

abbrev pub replay : List ℕ → List Event → List ℕ
replay bytes [] = bytes
replay bytes (event ∷ events) = replay (next bytes event) events

-- what it read as at the last sync, or at first
abbrev pub sync_or : List ℕ → List ℕ → Event → List ℕ
sync_or bytes synced (Wrote at part) = synced
sync_or bytes synced (WasCut n) = synced
sync_or bytes synced Synced = bytes

abbrev pub last_synced : List ℕ → List ℕ → List Event → List ℕ
last_synced bytes synced [] = synced
last_synced bytes synced (event ∷ events) = last_synced (next bytes event) (sync_or bytes synced event) events

-- Each write was asked for at a place that is not above the length.
abbrev pub is_asked : List ℕ → Event → Bool
is_asked bytes (Wrote at part) = nat_le at (length bytes)
is_asked bytes (WasCut n) = true
is_asked bytes Synced = true

abbrev pub are_asked : List ℕ → List Event → Bool
are_asked bytes [] = true
are_asked bytes (event ∷ events) = is_asked bytes event && are_asked (next bytes event) events

-- the images after a call, by those before it and what the file read as
abbrev pub after : List ℕ → (List ℕ → Type 0) → Event → List ℕ → Type 0
after bytes images (Wrote at part) c = (d : List ℕ) × images d × Torn at (length part.items) d c
after bytes images (WasCut n) c = (d : List ℕ) × images d × Cut n d c
after bytes images Synced c = c ≡ bytes

-- the images after all calls
abbrev pub after_all : List ℕ → (List ℕ → Type 0) → List Event → List ℕ → Type 0
after_all bytes images [] c = images c
after_all bytes images (event ∷ events) c = after_all (next bytes event) (after bytes images event) events c

-- the images of all moments since one, of which there is one before each call and one at the end
abbrev pub since : List ℕ → (List ℕ → Type 0) → List Event → ℕ → List ℕ → Type 0
since bytes images [] zero c = images c
since bytes images [] (suc t) c = ⊥
since bytes images (event ∷ events) zero c = images c
    ⊎ since (next bytes event) (after bytes images event) events zero c
since bytes images (event ∷ events) (suc t) c = since (next bytes event) (after bytes images event) events t c

-- a content, where it is another than the first
abbrev pub content : Vec ℕ Global → Option (Vec ℕ Global) → List ℕ
content first None = first.items
content first (Some v) = v.items
