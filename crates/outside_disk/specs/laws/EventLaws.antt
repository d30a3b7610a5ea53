-- What one call more makes of a file in memory.
use Rattle.std.proofs.Common.{◌≡◌, ◌⊎◌, inl, inr, ⊎_elim, ℕ, zero, suc, ◌+◌, ◌≤◌, Bool, true, false, List, [], ◌∷◌}
use Rattle.std.proofs.Common.{◌++◌, length, take, drop, refl, sym, ap, ◌∙◌, append_assoc, length-append, length-take}
use Rattle.std.proofs.Common.{length-drop, arith}
use Rattle.std.specs.Prelude.{◌&&◌, nat_le}
use Rattle.std.proofs.lemmas.Bool.Decides.{nat_tests}
use Rattle.std.proofs.lemmas.List.{take_at, drop_at, length-take-le, take-take}
use Rattle.outside_disk.specs.Disk.{Torn, Cut, with_bytes}
use Rattle.outside_disk.specs.Events.{next, replay, sync_or, last_synced, is_asked, are_asked, after, after_all}
use Rattle.outside_disk.specs.Events.{since}
use Rattle.outside_disk.specs.declared.event.Event.{Event}
use Rattle.outside_disk.specs.declared.event.Event.TheVariants.{Wrote, Synced}
use Rattle.outside_disk.specs.declared.event.Event.TheVariants.{Cut as WasCut}

abbrev Images : Type 1
Images = List ℕ → Type 0

pub now_to : (b : List ℕ) (I : Images) (es : List Event) (c : List ℕ) → since b I es (length es) c
    → after_all b I es c
now_to b I [] c here = here
now_to b I (e ∷ es) c here = now_to (next b e) (after b I e) es c here

pub now_from : (b : List ℕ) (I : Images) (es : List Event) (c : List ℕ) → after_all b I es c
    → since b I es (length es) c
now_from b I [] c here = here
now_from b I (e ∷ es) c here = now_from (next b e) (after b I e) es c here

pub push_to : (b : List ℕ) (I : Images) (es : List Event) (e : Event) (c : List ℕ) → after_all b I (es ++ e ∷ []) c
    → after (replay b es) (after_all b I es) e c
push_to b I [] e c here = here
push_to b I (f ∷ es) e c here = push_to (next b f) (after b I f) es e c here

pub push_from : (b : List ℕ) (I : Images) (es : List Event) (e : Event) (c : List ℕ)
    → after (replay b es) (after_all b I es) e c → after_all b I (es ++ e ∷ []) c
push_from b I [] e c here = here
push_from b I (f ∷ es) e c here = push_from (next b f) (after b I f) es e c here

pub since_to : (b : List ℕ) (I : Images) (es : List Event) (e : Event) (t : ℕ) (c : List ℕ) → t ≤ length es
    → since b I (es ++ e ∷ []) t c → since b I es t c ⊎ after_all b I (es ++ e ∷ []) c
since_to b I [] e zero c le (inl here) = inl here
since_to b I [] e zero c le (inr there) = inr there
since_to b I [] e (suc t) c le there = absurd (omega arith)
since_to b I (f ∷ es) e zero c le (inl here) = inl (inl here)
since_to b I (f ∷ es) e zero c le (inr there) =
    ⊎_elim (λ was. inl (inr was)) (λ now. inr now) (since_to (next b f) (after b I f) es e zero c (omega arith) there)
since_to b I (f ∷ es) e (suc t) c le there = since_to (next b f) (after b I f) es e t c (omega arith) there

pub since_was : (b : List ℕ) (I : Images) (es : List Event) (e : Event) (t : ℕ) (c : List ℕ) → t ≤ length es
    → since b I es t c → since b I (es ++ e ∷ []) t c
since_was b I [] e zero c le was = inl was
since_was b I [] e (suc t) c le was = absurd was
since_was b I (f ∷ es) e zero c le (inl here) = inl here
since_was b I (f ∷ es) e zero c le (inr was) = inr (since_was (next b f) (after b I f) es e zero c (omega arith) was)
since_was b I (f ∷ es) e (suc t) c le was = since_was (next b f) (after b I f) es e t c (omega arith) was

pub since_now : (b : List ℕ) (I : Images) (es : List Event) (t : ℕ) (c : List ℕ) → t ≤ length es → after_all b I es c
    → since b I es t c
since_now b I [] zero c le now = now
since_now b I [] (suc t) c le now = absurd (omega arith)
since_now b I (f ∷ es) zero c le now = inr (since_now (next b f) (after b I f) es zero c (omega arith) now)
since_now b I (f ∷ es) (suc t) c le now = since_now (next b f) (after b I f) es t c (omega arith) now

-- what was written is one that a crash may leave of the write
pub written_torn : (at : ℕ) (part b : List ℕ) → at ≤ length b → Torn at (length part) b (with_bytes at part b)
written_torn at part b le =
    let front : length (take at b) ≡ at = length-take-le at b le in
    let whole : with_bytes at part b ≡ take at b ++ (part ++ drop (at + length part) b) =
    append_assoc (take at b) part (drop (at + length part) b) in
    let size : length (with_bytes at part b) ≡ at + length part + length (drop (at + length part) b) =
    omega (
      arith,
      ap length whole,
      front,
      length-append (take at b) (part ++ drop (at + length part) b),
      length-append
          part (drop (at + length part) b),
    ) in
    record {
      before = ap (λ (l : List ℕ). take at l) whole
          ∙ take_at (take at b) (part ++ drop (at + length part) b) at front;
      after = drop_at (take at b ++ part) (drop (at + length part) b) (at + length part)
          (omega (arith, front, length-append (take at b) part));
      no_shorter = omega (arith, size, length-drop (at + length part) b);
      no_longer = omega (arith, size, length-drop (at + length part) b);
    }

pub cut_torn : (n : ℕ) (b : List ℕ) → Cut n b (take n b)
cut_torn n b = record { before = take-take n n b (omega arith); no_longer = omega (arith, length-take n b) }

pub torn_same : (at n : ℕ) (d : List ℕ) → Torn at n d d
torn_same at n d = record { before = refl; after = refl; no_shorter = omega arith; no_longer = omega arith }

pub cut_same : (n : ℕ) (d : List ℕ) → Cut n d d
cut_same n d = record { before = refl; no_longer = omega arith }

both : (x y : Bool) → x && y ≡ true → (x ≡ true) × (y ≡ true)
both true true e = (refl, refl)
both true false e = absurd (cc)
both false y e = absurd (cc)

step_reads : (b : List ℕ) (I : Images) (e : Event) → is_asked b e ≡ true → I b → after b I e (next b e)
step_reads b I (Wrote at part) asked here = (b, here, written_torn at part.items b (grind (arith, nat_tests)))
step_reads b I (WasCut n) asked here = (b, here, cut_torn n b)
step_reads b I Synced asked here = refl

-- what it reads as is one of its images
pub reads_image : (b : List ℕ) (I : Images) (es : List Event) → are_asked b es ≡ true → I b
    → after_all b I es (replay b es)
reads_image b I [] asked here = here
reads_image b I (e ∷ es) asked here =
    let parts = both (is_asked b e) (are_asked (next b e) es) asked in
    reads_image (next b e) (after b I e) es parts.1 (step_reads b I e parts.0 here)

step_synced : (b s : List ℕ) (I : Images) (e : Event) → I s → after b I e (sync_or b s e)
step_synced b s I (Wrote at part) here = (s, here, torn_same at (length part.items) s)
step_synced b s I (WasCut n) here = (s, here, cut_same n s)
step_synced b s I Synced here = refl

-- what it read as at the last sync is one of its images
pub synced_image : (b s : List ℕ) (I : Images) (es : List Event) → I s → after_all b I es (last_synced b s es)
synced_image b s I [] here = here
synced_image b s I (e ∷ es) here = synced_image (next b e) (sync_or b s e) (after b I e) es (step_synced b s I e here)

-- one call more
pub replay_push : (b : List ℕ) (es : List Event) (e : Event) → replay b (es ++ e ∷ []) ≡ next (replay b es) e
replay_push b [] e = refl
replay_push b (f ∷ es) e = replay_push (next b f) es e

pub synced_push : (b s : List ℕ) (es : List Event) (e : Event)
    → last_synced b s (es ++ e ∷ []) ≡ sync_or (replay b es) (last_synced b s es) e
synced_push b s [] e = refl
synced_push b s (f ∷ es) e = synced_push (next b f) (sync_or b s f) es e

and_true : (x y : Bool) → x ≡ true → y ≡ true → x && y ≡ true
and_true true true p q = refl
and_true true false p q = q
and_true false y p q = p

pub asked_push : (b : List ℕ) (es : List Event) (e : Event) → are_asked b es ≡ true → is_asked (replay b es) e ≡ true
    → are_asked b (es ++ e ∷ []) ≡ true
asked_push b [] e asked last = and_true (is_asked b e) true last refl
asked_push b (f ∷ es) e asked last =
    let parts = both (is_asked b f) (are_asked (next b f) es) asked in
    and_true (is_asked b f) (are_asked (next b f) (es ++ e ∷ [])) parts.0 (asked_push (next b f) es e parts.1 last)

-- the same, by equations
pub replay_to : (b : List ℕ) (es es2 : List Event) (e : Event) (old new : List ℕ) → es2 ≡ es ++ e ∷ []
    → old ≡ replay b es → new ≡ next old e → new ≡ replay b es2
replay_to b es es2 e old new more was is = is ∙ ap (λ (l : List ℕ). next l e) was ∙ sym (replay_push b es e)
    ∙ ap (λ (l : List Event). replay b l) (sym more)

pub synced_to : (b : List ℕ) (es es2 : List Event) (e : Event) (bytes old new : List ℕ) → es2 ≡ es ++ e ∷ []
    → bytes ≡ replay b es → old ≡ last_synced b b es → new ≡ sync_or bytes old e → new ≡ last_synced b b es2
synced_to b es es2 e bytes old new more was kept is =
    is ∙ ap (λ (l : List ℕ). sync_or l old e) was ∙ ap (λ (l : List ℕ). sync_or (replay b es) l e) kept
    ∙ sym (synced_push b b es e) ∙ ap (λ (l : List Event). last_synced b b l) (sym more)

pub asked_to : (b : List ℕ) (es es2 : List Event) (e : Event) (bytes : List ℕ) → es2 ≡ es ++ e ∷ []
    → bytes ≡ replay b es → are_asked b es ≡ true → is_asked bytes e ≡ true → are_asked b es2 ≡ true
asked_to b es es2 e bytes more was asked last =
    ap (λ (l : List Event). are_asked b l) more
    ∙ asked_push b es e asked (ap (λ (l : List ℕ). is_asked l e) (sym was) ∙ last)

pub within_test : (at : ℕ) (bytes : List ℕ) → at ≤ length bytes → nat_le at (length bytes) ≡ true
within_test at bytes le = grind (arith, nat_tests)
