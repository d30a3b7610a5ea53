-- The entries of a store that was read, one after the other.
use Rattle.std.proofs.Common.{◌≡◌, ℕ, zero, suc, ◌+◌, ◌-◌, ◌<◌, true, false, List, [], ◌∷◌, ◌++◌, length, drop, Option}
use Rattle.std.proofs.Common.{None, Some, refl, sym, ap, subst, ◌∙◌, arith, append-nil, append_assoc, inl, inr}
use Rattle.std.specs.Prelude.{if◌then◌else◌}
use Rattle.std.proofs.lemmas.Bool.{cases_Bool}
use Rattle.pet_base.specs.Entries.{entry_text}
use Rattle.stripe_plan.specs.Sizes.{Sizes}
use Rattle.packet_frame.specs.Frame.{Fields, text}
use Rattle.packet_frame.specs.Refusals.{first_fault_in}
use Rattle.packet_verdicts.specs.KeptSet.{header_of}
use Rattle.store_text.specs.declared.format.StoreForm.{StoreForm}
use Rattle.store_text.specs.declared.format.TheConstants.{STORE_FORM}
use Rattle.store_text.specs.Refusals.{is_whole, datagram_in, entry_length}
use Rattle.store_text.specs.Store.{entries_in}
use Rattle.store_packets.specs.Migrated.{is_wide, then_full}
use Rattle.store_packets.specs.inside.Reading.{frame_of}
use Rattle.store_packets.specs.inside.Listed.{AreListed, frames_at, is_other, tables_from, left_by, full_by, fault_from}
use Rattle.store_packets.specs.declared.fault.MigrateFault.{MigrateFault}
use Rattle.store_packets.specs.declared.fault.MigrateFault.TheVariants.{TooWide}

-- so many less those that are done stand in the rest
abbrev pub Left : StoreForm → ℕ → ℕ → List ℕ → Type 0
Left t count done rest = (many : ℕ) → many + done ≡ count → AreListed t many rest

pub left_first : (t : StoreForm) (count : ℕ) (entries : List ℕ) → AreListed t count entries → Left t count 0 entries
left_first t count entries listed many e =
    let is : count ≡ many = omega arith in
    subst (λ n. AreListed t n entries) is listed

record Next (t : StoreForm) (many : ℕ) (bytes : List ℕ) : Type 0 where
  whole : is_whole bytes ≡ true
  fine : first_fault_in t.frames (datagram_in bytes) ≡ None
  later : AreListed t many (drop (entry_length bytes) bytes)

next_listed : (t : StoreForm) (many : ℕ) (bytes : List ℕ) → AreListed t (suc many) bytes → Next t many bytes
unfolding AreListed
next_listed t many bytes listed = record { whole = listed.0; fine = listed.1; later = listed.2 }

pub frames_none : (t : StoreForm) (bytes : List ℕ) → frames_at t 0 bytes ≡ []
unfolding frames_at
frames_none t bytes = refl

pub frames_next : (t : StoreForm) (many : ℕ) (bytes : List ℕ)
    → frames_at t (suc many) bytes ≡ frame_of t (datagram_in bytes) ∷ frames_at t many (drop (entry_length bytes) bytes)
unfolding frames_at
frames_next t many bytes = refl

-- the same of what was read of the first
pub frames_then : (t : StoreForm) (rest : List ℕ) {datagram after : List ℕ} → datagram ≡ datagram_in rest
    → after ≡ drop (entry_length rest) rest → (many : ℕ)
    → frames_at t (suc many) rest ≡ frame_of t datagram ∷ frames_at t many after
frames_then t rest {datagram} {after} is behind many =
    frames_next t many rest
    ∙ ap (λ d. frame_of t d ∷ frames_at t many (drop (entry_length rest) rest)) (sym is)
    ∙ ap (λ l. frame_of t datagram ∷ frames_at t many l) (sym behind)

pub frames_many : (t : StoreForm) (many : ℕ) (bytes : List ℕ) → length (frames_at t many bytes) ≡ many
unfolding frames_at
frames_many t zero bytes = refl
frames_many t (suc many) bytes = ap (λ (n : ℕ). suc n) (frames_many t many (drop (entry_length bytes) bytes))

module _ (t : StoreForm) (count done : ℕ) (rest : List ℕ) (left : Left t count done rest) (low : done < count) where
  here : Next t (count - suc done) rest
  here =
      let e : suc (count - suc done) + done ≡ count = omega arith in
      next_listed t (count - suc done) rest (left (suc (count - suc done)) e)

  pub left_whole : is_whole rest ≡ true
  left_whole = here.whole

  pub left_fine : (datagram : List ℕ) → datagram ≡ datagram_in rest → first_fault_in t.frames datagram ≡ None
  left_fine datagram is = ap (first_fault_in t.frames) is ∙ here.fine

  pub left_next : (after : List ℕ) → after ≡ drop (entry_length rest) rest → Left t count (done + 1) after
  left_next after is many e =
      let same : count - suc done ≡ many = omega arith in
      subst (λ l. AreListed t many l) (sym is)
      (subst (λ n. AreListed t n (drop (entry_length rest) rest)) same here.later)

-- ---- what is appended of them

-- what was appended, with what is left, comes to all
abbrev pub Comes : StoreForm → ℕ → ℕ → List ℕ → List ℕ → List ℕ → Type 0
Comes t count done into rest all =
    (many : ℕ) → many + done ≡ count → into ++ entries_in STORE_FORM (frames_at t many rest) ≡ all

pub comes_first : (t : StoreForm) (count : ℕ) (into entries : List ℕ)
    → Comes t count 0 into entries (into ++ entries_in STORE_FORM (frames_at t count entries))
comes_first t count into entries many e =
    let is : many ≡ count = omega arith in
    ap (λ n. into ++ entries_in STORE_FORM (frames_at t n entries)) is

pub comes_next : (t : StoreForm) (count done : ℕ) (into rest all datagram after next : List ℕ)
    → Comes t count done into rest all → datagram ≡ datagram_in rest → after ≡ drop (entry_length rest) rest
    → next ≡ into ++ entry_text (text (frame_of t datagram)) → Comes t count (done + 1) next after all
comes_next t count done into rest all datagram after next comes is_one is is_next many e =
    let f = frame_of t (datagram_in rest) in
    let more = entries_in STORE_FORM (frames_at t many (drop (entry_length rest) rest)) in
    ap (λ l. next ++ entries_in STORE_FORM (frames_at t many l)) is
    ∙ ap (λ l. l ++ more) (is_next ∙ ap (λ d. into ++ entry_text (text (frame_of t d))) is_one)
    ∙ append_assoc into (entry_text (text f)) more
    ∙ ap (λ fs. into ++ entries_in STORE_FORM fs) (sym (frames_next t many rest))
    ∙ comes (suc many) (omega arith)

pub comes_end : (t : StoreForm) (count done : ℕ) (into rest all : List ℕ) → Comes t count done into rest all
    → done ≡ count → into ≡ all
comes_end t count done into rest all comes e =
    sym (append-nil into) ∙ ap (λ fs. into ++ entries_in STORE_FORM fs) (sym (frames_none t rest))
    ∙ comes 0 (omega arith)

-- ---- what is left to their groups

-- the fault behind what is done is that of all
abbrev pub Judges : StoreForm → ℕ → ℕ → Option ℕ → ℕ → Option ℕ → List ℕ → Option MigrateFault → Type 0
Judges t count done last left full rest fault =
    (many : ℕ) → many + done ≡ count → fault_from left full (tables_from last (frames_at t many rest)) ≡ fault

pub judges_first : (t : StoreForm) (count limit : ℕ) (entries : List ℕ)
    → Judges t count 0 None limit None entries (fault_from limit None (tables_from None (frames_at t count entries)))
judges_first t count limit entries many e =
    let is : many ≡ count = omega arith in
    ap (λ n. fault_from limit None (tables_from None (frames_at t n entries))) is

-- the table of a frame
abbrev pub entry_table : Fields → ℕ × Sizes
entry_table f = (f.group, (header_of f).table)

-- what is left behind a frame
pub record Behind (f : Fields) (last : Option ℕ) (left : ℕ) (full : Option ℕ) (last2 : Option ℕ) (left2 : ℕ)
    (full2 : Option ℕ) : Type 0 where
  pub last_is : last2 ≡ Some f.group
  pub same : is_other last f ≡ false → (left2 ≡ left) × (full2 ≡ full)
  pub opened : is_other last f ≡ true
      → (is_wide f.layers ≡ false) × (left2 ≡ left_by left (entry_table f))
      × (full2 ≡ full_by full left (entry_table f))

fault_next : (left : ℕ) (full : Option ℕ) (e : ℕ × Sizes) (rest : List (ℕ × Sizes)) → is_wide e.1.layers ≡ false
    → fault_from left full (e ∷ rest) ≡ fault_from (left_by left e) (full_by full left e) rest
unfolding fault_from
fault_next left full e rest narrow =
    ap (λ b. if b then Some (TooWide e.0) else fault_from (left_by left e) (full_by full left e) rest) narrow

fault_wide : (left : ℕ) (full : Option ℕ) (e : ℕ × Sizes) (rest : List (ℕ × Sizes)) → is_wide e.1.layers ≡ true
    → fault_from left full (e ∷ rest) ≡ Some (TooWide e.0)
unfolding fault_from
fault_wide left full e rest wide =
    ap (λ b. if b then Some (TooWide e.0) else fault_from (left_by left e) (full_by full left e) rest) wide

fault_none : (left : ℕ) (full : Option ℕ) → fault_from left full [] ≡ then_full full
unfolding fault_from
fault_none left full = refl

behind_is : (f : Fields) (last : Option ℕ) (left : ℕ) (full last2 : Option ℕ) (left2 : ℕ) (full2 : Option ℕ)
    (rest : List Fields) → Behind f last left full last2 left2 full2
    → fault_from left2 full2 (tables_from last2 rest) ≡ fault_from left full (tables_from last (f ∷ rest))
behind_is f last left full last2 left2 full2 rest b =
    ap (λ l. fault_from left2 full2 (tables_from l rest)) b.last_is ∙ elim (cases_Bool (is_other last f)) [
      | inl other ↦
          let o = b.opened other in
          ap (λ n. fault_from n full2 (tables_from (Some f.group) rest)) o.1
          ∙ ap (λ n. fault_from (left_by left (entry_table f)) n (tables_from (Some f.group) rest)) o.2
          ∙ sym (fault_next left full (entry_table f) (tables_from (Some f.group) rest) o.0)
          ∙ sym (ap (λ c. fault_from left full
          (if c then entry_table f ∷ tables_from (Some f.group) rest else tables_from (Some f.group) rest)) other)
      | inr one ↦
          let s = b.same one in
          ap (λ n. fault_from n full2 (tables_from (Some f.group) rest)) s.0
          ∙ ap (λ n. fault_from left n (tables_from (Some f.group) rest)) s.1
          ∙ sym (ap (λ c. fault_from left full
          (if c then entry_table f ∷ tables_from (Some f.group) rest else tables_from (Some f.group) rest)) one)
    ]

pub judges_next : (t : StoreForm) (count done : ℕ) (last : Option ℕ) (left : ℕ) (full last2 : Option ℕ) (left2 : ℕ)
    (full2 : Option ℕ) (rest datagram after : List ℕ) (fault : Option MigrateFault)
    → Judges t count done last left full rest fault → datagram ≡ datagram_in rest
    → after ≡ drop (entry_length rest) rest → Behind (frame_of t datagram) last left full last2 left2 full2
    → Judges t count (done + 1) last2 left2 full2 after fault
judges_next t count done last left full last2 left2 full2 rest datagram after fault judges is_one is b many e =
    ap (λ l. fault_from left2 full2 (tables_from last2 (frames_at t many l))) is
    ∙ behind_is (frame_of t datagram) last left full last2 left2 full2
    (frames_at t many (drop (entry_length rest) rest)) b
    ∙ ap (λ d. fault_from left full
    (tables_from last (frame_of t d ∷ frames_at t many (drop (entry_length rest) rest)))) is_one
    ∙ ap (λ fs. fault_from left full (tables_from last fs)) (sym (frames_next t many rest))
    ∙ judges (suc many) (omega arith)

pub judges_wide : (t : StoreForm) (count done : ℕ) (last : Option ℕ) (left : ℕ) (full : Option ℕ)
    (rest datagram : List ℕ) (fault : Option MigrateFault)
    → Judges t count done last left full rest fault → done < count → datagram ≡ datagram_in rest
    → is_other last (frame_of t datagram) ≡ true → is_wide (frame_of t datagram).layers ≡ true
    → fault ≡ Some (TooWide (frame_of t datagram).group)
judges_wide t count done last left full rest datagram fault judges low is_one other wide =
    let many : ℕ = count - suc done in
    let e : suc many + done ≡ count = omega arith in
    let f = frame_of t datagram in
    let more = frames_at t many (drop (entry_length rest) rest) in
    sym (judges (suc many) e)
    ∙ ap (λ fs. fault_from left full (tables_from last fs)) (frames_next t many rest)
    ∙ ap (λ d. fault_from left full (tables_from last (frame_of t d ∷ more))) (sym is_one)
    ∙ ap (λ c. fault_from left full
    (if c then entry_table f ∷ tables_from (Some f.group) more else tables_from (Some f.group) more)) other
    ∙ fault_wide left full (entry_table f) (tables_from (Some f.group) more) wide

pub judges_end : (t : StoreForm) (count done : ℕ) (last : Option ℕ) (left : ℕ) (full : Option ℕ) (rest : List ℕ)
    (fault : Option MigrateFault) → Judges t count done last left full rest fault → done ≡ count
    → fault ≡ then_full full
judges_end t count done last left full rest fault judges e =
    sym (judges 0 (omega arith)) ∙ ap (λ fs. fault_from left full (tables_from last fs)) (frames_none t rest)
    ∙ fault_none left full
