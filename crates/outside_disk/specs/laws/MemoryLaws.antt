-- What the calls of a file in memory do to what is seen of it.
use Rattle.std.proofs.Common.{◌≡◌, inl, inr, ⊎_elim, ℕ, true, List, [], ◌∷◌, ◌++◌, length, refl, sym, subst, ◌∙◌}
use Rattle.std.proofs.Common.{length-append, arith}
use Rattle.std.specs.Prelude.{Vec}
use Rattle.std.specs.declared.alloc.Global.{Global}
use Rattle.outside_disk.specs.Disk.{Torn, Cut, Passes, Leaves, LeavesNoMore, LeavesAny, LeavesTorn, LeavesCut, IsSound}
use Rattle.outside_disk.specs.Disk.{IsSynced, image}
use Rattle.outside_disk.specs.Events.{replay, last_synced, are_asked, after_all, since}
use Rattle.outside_disk.specs.Memory.{told_at}
use Rattle.outside_disk.specs.laws.EventLaws.{now_to, now_from, push_to, push_from, since_to, since_was, since_now, torn_same}
use Rattle.outside_disk.specs.laws.EventLaws.{cut_same, reads_image, synced_image}
use Rattle.outside_disk.specs.declared.event.Event.{Event}
use Rattle.outside_disk.specs.declared.event.Event.TheVariants.{Wrote, Synced}
use Rattle.outside_disk.specs.declared.event.Event.TheVariants.{Cut as WasCut}

module _ (first : List ℕ) where
  abbrev only_first : List ℕ → Type 0
  only_first = λ d. d ≡ first

  pub passes_more : (bytes bytes2 : List ℕ) (es : List Event) (e : Event)
      → Passes (told_at bytes first es) (told_at bytes2 first (es ++ e ∷ []))
  passes_more bytes bytes2 es e = record {
    later = omega (arith, length-append es (e ∷ []));
    since = λ t c le here. ⊎_elim (λ was. inl was) (λ now. inr (now_from first only_first (es ++ e ∷ []) c now))
        (since_to first only_first es e t c le here);
    kept = λ t c le was. since_was first only_first es e t c le was;
  }

  pub passes_same : (bytes : List ℕ) (es : List Event) → Passes (told_at bytes first es) (told_at bytes first es)
  passes_same bytes es = record {
    later = omega arith;
    since = λ t c le here. inl here;
    kept = λ t c le was. was;
  }

  pub leaves_same : (bytes : List ℕ) (es : List Event) → Leaves (told_at bytes first es) (told_at bytes first es)
  leaves_same bytes es = record {
    no_more = record { bytes = refl; time = passes_same bytes es; from = λ c now. now };
    all = λ c was. was;
  }

  pub torn_none : (at n : ℕ) (bytes : List ℕ) (es : List Event)
      → LeavesTorn at n (told_at bytes first es) (told_at bytes first es)
  torn_none at n bytes es = record {
    time = passes_same bytes es;
    from = λ c now. (c, now, torn_same at n c);
    all = λ d was. (d, was, torn_same at n d);
  }

  pub cut_none : (n : ℕ) (bytes : List ℕ) (es : List Event)
      → LeavesCut n (told_at bytes first es) (told_at bytes first es)
  cut_none n bytes es = record {
    time = passes_same bytes es;
    from = λ c now. (c, now, cut_same n c);
    all = λ d was. (d, was, cut_same n d);
  }

  -- a crash may leave any bytes in what was written, or of what was cut off
  pub torn_any : (at n : ℕ) (part : Vec ℕ Global) (bytes bytes2 : List ℕ) (es : List Event) → length part.items ≡ n
      → LeavesAny (Torn at n) (told_at bytes first es) (told_at bytes2 first (es ++ Wrote at part ∷ []))
  torn_any at n part bytes bytes2 es is = λ d c was step.
      now_from first only_first (es ++ Wrote at part ∷ []) c
      (push_from first only_first es (Wrote at part) c
      (d, now_to first only_first es d was, subst (λ (k : ℕ). Torn at k d c) (sym is) step))

  pub cut_any : (n : ℕ) (bytes bytes2 : List ℕ) (es : List Event)
      → LeavesAny (Cut n) (told_at bytes first es) (told_at bytes2 first (es ++ WasCut n ∷ []))
  cut_any n bytes bytes2 es = λ d c was step.
      now_from first only_first (es ++ WasCut n ∷ []) c
      (push_from first only_first es (WasCut n) c (d, now_to first only_first es d was, step))

  pub torn_more : (at n : ℕ) (part : Vec ℕ Global) (bytes bytes2 : List ℕ) (es : List Event) → length part.items ≡ n
      → LeavesTorn at n (told_at bytes first es) (told_at bytes2 first (es ++ Wrote at part ∷ []))
  torn_more at n part bytes bytes2 es is = record {
    time = passes_more bytes bytes2 es (Wrote at part);
    from = λ c now. let step =
        push_to first only_first es (Wrote at part) c (now_to first only_first (es ++ Wrote at part ∷ []) c now) in
        (step.0, now_from first only_first es step.0 step.1, subst (λ (k : ℕ). Torn at k step.0 c) is step.2);
    all = λ d was. (d, torn_any at n part bytes bytes2 es is d d was (torn_same at n d), torn_same at n d);
  }

  pub cut_more : (n : ℕ) (bytes bytes2 : List ℕ) (es : List Event)
      → LeavesCut n (told_at bytes first es) (told_at bytes2 first (es ++ WasCut n ∷ []))
  cut_more n bytes bytes2 es = record {
    time = passes_more bytes bytes2 es (WasCut n);
    from = λ c now. let step =
        push_to first only_first es (WasCut n) c (now_to first only_first (es ++ WasCut n ∷ []) c now) in
        (step.0, now_from first only_first es step.0 step.1, step.2);
    all = λ d was. (d, cut_any n bytes bytes2 es d d was (cut_same n d), cut_same n d);
  }

  -- what it reads as is one of its images
  pub reads_one : (bytes : List ℕ) (es : List Event) → are_asked first es ≡ true → bytes ≡ replay first es
      → image (told_at bytes first es) bytes
  reads_one bytes es asked is =
      now_from first only_first es bytes
      (subst (λ (c : List ℕ). after_all first only_first es c) (sym is) (reads_image first only_first es asked refl))

  pub is_sound : (bytes : List ℕ) (es : List Event) → are_asked first es ≡ true → bytes ≡ replay first es
      → IsSound (told_at bytes first es)
  is_sound bytes es asked is = record {
    reads = reads_one bytes es asked is;
    counts = λ t c le now. since_now first only_first es t c le (now_to first only_first es c now);
  }

  -- and so is what it read as at the last sync
  pub synced_one : (bytes synced : List ℕ) (es : List Event) → synced ≡ last_synced first first es
      → image (told_at bytes first es) synced
  synced_one bytes synced es is =
      now_from first only_first es synced
      (subst (λ (c : List ℕ). after_all first only_first es c) (sym is) (synced_image first first only_first es refl))

  synced_now : (bytes c : List ℕ) (es : List Event) → bytes ≡ replay first es
      → image (told_at bytes first (es ++ Synced ∷ [])) c → c ≡ bytes
  synced_now bytes c es is now =
      push_to first only_first es Synced c (now_to first only_first (es ++ Synced ∷ []) c now) ∙ sym is

  pub is_synced : (bytes : List ℕ) (es : List Event) → bytes ≡ replay first es
      → IsSynced (told_at bytes first (es ++ Synced ∷ []))
  is_synced bytes es is = λ c now. synced_now bytes c es is now

  -- where nothing was done, its first bytes are the only image
  pub first_only : (bytes : List ℕ) (es : List Event) → es ≡ [] → bytes ≡ first → IsSynced (told_at bytes first es)
  first_only bytes es none is = λ c now.
      subst (λ (l : List Event). since first only_first l (length l) c) none now ∙ sym is

  pub no_more_synced : (bytes : List ℕ) (es : List Event) → are_asked first es ≡ true → bytes ≡ replay first es
      → LeavesNoMore (told_at bytes first es) (told_at bytes first (es ++ Synced ∷ []))
  no_more_synced bytes es asked is = record {
    bytes = refl;
    time = passes_more bytes bytes es Synced;
    from = λ c now. subst (λ (d : List ℕ). image (told_at bytes first es) d) (sym (synced_now bytes c es is now))
        (reads_one bytes es asked is);
  }
