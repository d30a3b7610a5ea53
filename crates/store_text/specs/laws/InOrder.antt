-- The frames of a kept set, in their order, may be read one after the other, and lead from nothing to the set.
use Rattle.std.proofs.Common.{◌≡◌, ℕ, ◌+◌, ◌-◌, ◌*◌, ◌<◌, ◌≤◌, suc, cond, true, false, not, ◌&&◌, ◌||◌, ◌==◌, nat_lt}
use Rattle.std.proofs.Common.{Less, List, [], ◌∷◌, ◌++◌, length, set, replicate, get_or, All, Option, None, Some}
use Rattle.std.proofs.Common.{nat_cmp, append-nil, append_assoc, refl, sym, ap, subst, ◌∙◌, arith, sum_by, flat_map}
use Rattle.std.specs.Prelude.{is_some}
use Rattle.std.specs.List.{list_any}
use Rattle.std.specs.Map.{keys_of}
use Rattle.std.specs.List.Sorted.{IsStrictlySortedBy}
use Rattle.std.proofs.lemmas.Bool.{lt-ltb}
use Rattle.std.proofs.lemmas.List.{set-append_right, length_push, length-replicate, replicate_more}
use Rattle.std.proofs.lemmas.List.{replicate-append-replicate}
use Rattle.std.proofs.lemmas.List.Elements.{All-from_recursion, All-nil}
use Rattle.std.proofs.lemmas.List.Folds.{list_any-append}
use Rattle.std.proofs.lemmas.List.Sums.{sum_by-append, sum_by-cons}
use Rattle.std.proofs.lemmas.Map.Keys.{sorted_tail}
use Rattle.packet_frame.specs.Frame.{Fields, IsFrame, IsFrameIn}
use Rattle.packet_frame.specs.View.{fields_with}
use Rattle.packet_frame.specs.declared.frame.Header.{Header}
use Rattle.packet_set.specs.Packets.{Packets, count_held}
use Rattle.stripe_plan.specs.Sizes.{length_by}
use Rattle.packet_verdicts.specs.KeptSet.{KeptSet, IsKeptSet, IsKeptGroup, empty_set, open_group}
use Rattle.packet_verdicts.specs.Union.{frames_in_group, frames_in}
use Rattle.packet_verdicts.specs.laws.EntryLaws.{all_found, cmp_says_less}
use Rattle.packet_verdicts.specs.laws.FramesInOrder.{frames_from, group_from}
use Rattle.packet_verdicts.specs.laws.LastEntry.{below_end}
use Rattle.store_text.specs.declared.format.StoreForm.{StoreForm}
use Rattle.store_text.specs.Form.{IsStoreForm}
use Rattle.store_text.specs.Refusals.{Last, is_above, cost_in_form, costs_in}
use Rattle.store_text.specs.laws.Leading.{Leads}
use Rattle.store_text.specs.laws.NextFault.{both_false, same_itself, IsNextGroup, before, opened, above_in, none_opens}
use Rattle.store_text.specs.laws.NextFault.{keep_opens, none_goes_on, keep_goes_on}

abbrev Slots : Type 0
Slots = List (Option (List ℕ))

-- the frames of these slots are frames
abbrev AreFrames : Header → ℕ → Slots → Type 0
AreFrames h n slots =
    (i : ℕ) (payload : List ℕ) → get_or slots i None ≡ Some payload → IsFrame (fields_with h (n + i) payload)

frames_later : (h : Header) (n : ℕ) (slot : Option (List ℕ)) (rest : Slots) → AreFrames h n (slot ∷ rest)
    → AreFrames h (n + 1) rest
frames_later h n slot rest frames i payload e =
    let next : n + suc i ≡ (n + 1) + i = omega arith in
    subst (λ k. IsFrame (fields_with h k payload)) next (frames (suc i) payload e)

frame_here : (h : Header) (n : ℕ) (payload : List ℕ) (rest : Slots) → AreFrames h n (Some payload ∷ rest)
    → IsFrame (fields_with h n payload)
frame_here h n payload rest frames =
    let here : n + 0 ≡ n = omega arith in
    subst (λ k. IsFrame (fields_with h k payload)) here (frames 0 payload refl)

-- a slot behind so many is set
set_behind : (front rest : Slots) (n : ℕ) (payload : List ℕ) → length front ≡ n
    → set (front ++ (None ∷ rest)) n (Some payload) ≡ (front ++ (Some payload ∷ [])) ++ rest
set_behind front rest n payload long =
    let none : n - n ≡ 0 = omega arith in
    set-append_right front (None ∷ rest) n n (Some payload) long (omega arith)
    ∙ ap (λ k. front ++ set (None ∷ rest) k (Some payload)) none
    ∙ sym (append_assoc front (Some payload ∷ []) rest)

-- the frames of today are frames of the form
abbrev pub AreAllFrames : StoreForm → Type 0
AreAllFrames t = (f : Fields) → IsFrame f → IsFrameIn t.frames f

module _ (t : StoreForm) (form : IsStoreForm t) (are : AreAllFrames t) (session : List ℕ) (limit : ℕ)
    (gs : List (ℕ × Packets)) (h : Header) (next : IsNextGroup t session limit gs h) where
  -- the set with so many slots of the group
  abbrev so_far : Slots → KeptSet
  so_far slots = opened t form session limit gs h next slots

  -- the rest of a group that is open
  leads_open : (rest front : Slots) (n number : ℕ) (todo : List Fields) (target : KeptSet) → length front ≡ n
      → number < n → AreFrames h n rest
      → ((m : ℕ) → Leads t (so_far (front ++ rest)) (Some (h.group, m)) todo target)
      → Leads t (so_far (front ++ replicate (length rest) None)) (Some (h.group, number))
      (frames_from h n rest ++ todo) target
  leads_open [] front n number todo target long lt frames then = then number
  leads_open (None ∷ rest) front n number todo target long lt frames then =
      let one : Slots = None ∷ [] in
      subst (λ s. Leads t (so_far s) (Some (h.group, number)) (frames_from h (n + 1) rest ++ todo) target)
      (append_assoc front one (replicate (length rest) None))
      (leads_open rest (front ++ one) (n + 1) number todo target (omega (arith, long, length_push front None))
      (omega (arith, lt)) (frames_later h n None rest frames)
      (λ m. subst (λ s. Leads t (so_far s) (Some (h.group, m)) todo target) (sym (append_assoc front one rest))
      (then m)))
  leads_open (Some payload ∷ rest) front n number todo target long lt frames then =
      let one : Slots = Some payload ∷ [] in
      let empty : Slots = replicate (length rest) None in
      let slots = front ++ (None ∷ empty) in (
        are (fields_with h n payload) (frame_here h n payload rest frames),
        none_goes_on t form session limit gs h next slots (Some (h.group, number)) n payload
            (above_in h.group number n lt),
        subst (λ s. Leads t s (Some (h.group, n)) (frames_from h (n + 1) rest ++ todo) target)
            (sym (keep_goes_on t form session limit gs h next slots n payload
            ∙ ap so_far (set_behind front empty n payload long)))
            (leads_open rest (front ++ one) (n + 1) n todo target
            (omega (arith, long, length_push front (Some payload))) (omega arith)
            (frames_later h n (Some payload) rest frames)
            (λ m. subst (λ s. Leads t (so_far s) (Some (h.group, m)) todo target) (sym (append_assoc front one rest))
            (then m))),
      )

  -- a group, up to the first of its frames, and from there on
  leads_new : (rest : Slots) (n : ℕ) (last : Last) (todo : List Fields) (target : KeptSet)
      → n + length rest ≡ h.table.packets → 0 < count_held rest → AreFrames h n rest
      → ((f : Fields) → h.group ≤ f.group → is_above last f ≡ true)
      → ((m : ℕ) → Leads t (so_far (replicate n None ++ rest)) (Some (h.group, m)) todo target)
      → Leads t (before t form session limit gs h next) last (frames_from h n rest ++ todo) target
  leads_new [] n last todo target many some frames above then = absurd (omega (arith, some))
  leads_new (None ∷ rest) n last todo target many some frames above then =
      let one : Slots = None ∷ [] in
      let longer : replicate n None ++ (None ∷ rest) ≡ replicate (n + 1) None ++ rest =
      sym (append_assoc (replicate n None) one rest) ∙ ap (λ (t : Slots). t ++ rest) (replicate_more n None) in
      leads_new rest (n + 1) last todo target (omega (arith, many))
      (omega (arith, some, sum_by-cons (λ (x : Option (List ℕ)). cond (is_some x) 1 0) None rest))
      (frames_later h n None rest frames) above
      (λ m. subst (λ s. Leads t (so_far s) (Some (h.group, m)) todo target) longer (then m))
  leads_new (Some payload ∷ rest) n last todo target many some frames above then =
      let one : Slots = Some payload ∷ [] in
      let empty : Slots = replicate (length rest) None in
      let front : Slots = replicate n None in
      let f = fields_with h n payload in
      let long : n + suc (length rest) ≡ h.table.packets = omega (arith, many) in
      let all : replicate h.table.packets None ≡ front ++ (None ∷ empty) =
      sym (replicate-append-replicate n (suc (length rest)) None ∙ ap (λ k. replicate k None) long) in (
        are (fields_with h n payload) (frame_here h n payload rest frames),
        none_opens t form session limit gs h next last n payload (above f (omega arith)),
        subst (λ s. Leads t s (Some (h.group, n)) (frames_from h (n + 1) rest ++ todo) target)
            (sym (keep_opens t form session limit gs h next n payload
            ∙ ap (λ (s : Slots). so_far (set s n (Some payload))) all
            ∙ ap so_far (set_behind front empty n payload (length-replicate n None))))
            (leads_open rest (front ++ one) (n + 1) n todo target
            (omega (arith, length-replicate {A = Option (List ℕ)} n None, length_push front (Some payload)))
            (omega arith) (frames_later h n (Some payload) rest frames)
            (λ m. subst (λ s. Leads t (so_far s) (Some (h.group, m)) todo target) (sym (append_assoc front one rest))
            (then m))),
      )

-- ---- group by group

-- each of these groups is kept of the session, and tells so many groups
abbrev AreKept : List ℕ → ℕ → List (ℕ × Packets) → Type 0
AreKept session count es = All (λ e. IsKeptGroup session e.0 e.1 × (e.1.header.groups ≡ count)) es

same_tells : (count : ℕ) (es : List (ℕ × Packets)) (e : ℕ × Packets)
    → list_any (λ d. not (d.1.header.groups == count)) es ≡ false → e.1.header.groups ≡ count
    → list_any (λ d. not (d.1.header.groups == count)) (es ++ (e ∷ [])) ≡ false
same_tells count es e none same =
    list_any-append (λ (d : ℕ × Packets). not (d.1.header.groups == count)) es (e ∷ [])
    ∙ both_false (list_any (λ (d : ℕ × Packets). not (d.1.header.groups == count)) es)
    (not (e.1.header.groups == count) || false) none
    (both_false (not (e.1.header.groups == count)) false (ap (λ n. not (n == count)) same ∙ same_itself count) refl)

later_keys : (k : ℕ) (ks : List ℕ) → IsStrictlySortedBy nat_cmp (k ∷ ks) → All (λ x. k + 1 ≤ x) ks
unfolding IsStrictlySortedBy
later_keys k ks s = λ i d lt. let at = cmp_says_less k (get_or ks i d)
    (All-from_recursion (λ y. nat_cmp k y ≡ Less) ks s.0 i d lt) in omega (arith, at)

after_group : (group most number : ℕ) (f : Fields) → group ≡ most → most + 1 ≤ f.group
    → is_above (Some (group, number)) f ≡ true
after_group group most number f same le =
    let lt : group < f.group = omega (arith, same, le) in
    ap (λ b. b || ((group == f.group) && nat_lt number f.number)) (lt-ltb group f.group lt)

module _ (t : StoreForm) (form : IsStoreForm t) (are : AreAllFrames t) (session : List ℕ) (limit count : ℕ) where
  abbrev holding : List (ℕ × Packets) → KeptSet
  holding gs = record { session = session; limit = limit; groups = gs }

  leads_groups : (es gs : List (ℕ × Packets)) (low : ℕ) (last : Last) → AreKept session count es
      → IsStrictlySortedBy nat_cmp (keys_of es) → All (λ k. low ≤ k) (keys_of es)
      → All (λ k. k < low) (keys_of gs) → list_any (λ e. not (e.1.header.groups == count)) gs ≡ false
      → sum_by (λ e. cost_in_form t e.1) gs + sum_by (λ e. cost_in_form t e.1) es ≤ limit
      → ((f : Fields) → low ≤ f.group → is_above last f ≡ true)
      → Leads t (holding gs) last (flat_map (λ e. frames_in_group e.1) es) (holding (gs ++ es))
  leads_groups [] gs low last kept rising from below same room above = ap holding (sym (append-nil gs))
  leads_groups (e ∷ es) gs low last kept rising from below same room above =
      let h = e.1.header in
      let group = (kept 0 e (omega arith)).0 in
      let tells = (kept 0 e (omega arith)).1 in
      let number : h.group ≡ e.0 = group.same_group in
      let first : low ≤ e.0 = from 0 low (omega arith) in
      let costs = sum_by-cons (λ (d : ℕ × Packets). cost_in_form t d.1) e es in
      let next : IsNextGroup t session limit gs h = record {
        below = λ i d lt. let at = below i d lt in omega (arith, at, first, number);
        same_session = group.same_session;
        same_count =
            subst (λ n. list_any (λ (d : ℕ × Packets). not (d.1.header.groups == n)) gs ≡ false) (sym tells) same;
        room =
            omega (
              arith,
              room,
              costs,
              ap (λ (w : ℕ). h.table.packets * length_by w t.frames.bounds.bare h.table.layers) group.word_is,
            );
      } in
      let rest = flat_map (λ (d : ℕ × Packets). frames_in_group d.1) es in
      let own : Packets = record { header = h; word = 2; slots = e.1.slots } in
      let here : (h.group, own)
      ≡ e = λ i. (number i, record { header = h; word = sym group.word_is i; slots = e.1.slots }) in
      let one : List (ℕ × Packets) = e ∷ [] in
      let more = sum_by-append (λ (d : ℕ × Packets). cost_in_form t d.1) gs one in
      let last_cost = sum_by-cons (λ (d : ℕ × Packets). cost_in_form t d.1) e [] in
      let later : (m : ℕ) → Leads t (holding (gs ++ one)) (Some (h.group, m)) rest (holding ((gs ++ one) ++ es)) =
      λ m. leads_groups es (gs ++ one) (e.0 + 1) (Some (h.group, m)) (λ i d lt. kept (suc i) d (omega (arith, lt)))
      (sorted_tail nat_cmp e.0 (keys_of es) rising) (later_keys e.0 (keys_of es) rising)
      (below_end gs low e.0 e.1 below first) (same_tells count gs e same tells)
      (omega (arith, room, costs, more, last_cost)) (λ f le. after_group h.group e.0 m f number le) in
      let frames : AreFrames h 0 e.1.slots = λ i payload there. let same : i ≡ 0 + i = omega arith in
      subst (λ k. IsFrame (fields_with h k payload)) same (group.frames i payload there) in
      subst (λ (fs : List Fields). Leads t (holding gs) last (fs ++ rest) (holding (gs ++ (e ∷ es))))
      (sym (group_from e.1))
      (leads_new t form are session limit gs h next e.1.slots 0 last rest (holding (gs ++ (e ∷ es)))
      (omega (arith, group.slots)) group.some frames
      (λ f le. above f (omega (arith, le, first, number)))
      (λ m. subst (λ d. Leads t (holding (gs ++ (d ∷ []))) (Some (h.group, m)) rest (holding (gs ++ (e ∷ es))))
      (sym here)
      (subst (λ (l : List (ℕ × Packets)). Leads t (holding (gs ++ one)) (Some (h.group, m)) rest (holding l))
      (append_assoc gs one es) (later m))))

-- each group of a kept set tells as many groups as its first
kept_of : (set : KeptSet) → IsKeptSet set → (first : ℕ × Packets) (es : List (ℕ × Packets)) → set.groups ≡ first ∷ es
    → AreKept set.session first.1.header.groups (first ∷ es)
kept_of set sound first es is =
    let found : All (λ e. open_group set e.0 ≡ Some e.1) (first ∷ es) =
    subst (All (λ e. open_group set e.0 ≡ Some e.1)) is (all_found set.groups sound.rising) in
    λ i d lt.
    let at = found i d lt in (
      sound.groups (get_or (first ∷ es) i d).0 (get_or (first ∷ es) i d).1 at,
      sound.one_count (get_or (first ∷ es) i d).0 first.0 (get_or (first ∷ es) i d).1 first.1 at
          (found 0 first (omega arith)),
    )

abbrev in_groups : List (ℕ × Packets) → List Fields
in_groups es = flat_map (λ e. frames_in_group e.1) es

module _ (t : StoreForm) (form : IsStoreForm t) (are : AreAllFrames t) where
  lead_by : (set : KeptSet) → IsKeptSet set → (limit : ℕ) → costs_in t set ≤ limit → (es : List (ℕ × Packets))
      → set.groups ≡ es
      → Leads t (empty_set set.session limit) None (in_groups es)
      (record { session = set.session; limit = limit; groups = es })
  lead_by set sound limit fits [] is = refl
  lead_by set sound limit fits (first ∷ es) is =
      let rising : IsStrictlySortedBy nat_cmp (keys_of (first ∷ es)) =
      subst (λ g. IsStrictlySortedBy nat_cmp (keys_of g)) is sound.rising in
      let costs : costs_in t set ≡ sum_by (λ (e : ℕ × Packets). cost_in_form t e.1) (first ∷ es) =
      ap (λ g. sum_by (λ (e : ℕ × Packets). cost_in_form t e.1) g) is in
      leads_groups t form are set.session limit first.1.header.groups (first ∷ es) [] 0 None
      (kept_of set sound first es is) rising (λ i d lt. omega arith) (All-nil (λ k. k < 0)) refl
      (omega (arith, fits, costs)) (λ f le. refl)

  -- The frames of a kept set lead from nothing to the set, in each form that has them as frames.
  pub in_order : (set : KeptSet) → IsKeptSet set → (limit : ℕ) → costs_in t set ≤ limit
      → Leads t (empty_set set.session limit) None (frames_in set) (record set { limit = limit })
  in_order set sound limit fits = lead_by set sound limit fits set.groups refl
