-- What the calls that mend the end of a journal leave.
use Rattle.std.proofs.Common.{◌≡◌, ℕ, zero, suc, ◌+◌, ◌≤◌, Bool, true, false, List, [], ◌∷◌, ◌++◌, length, take, refl}
use Rattle.std.proofs.Common.{ap, subst, ◌∙◌, length-append, arith}
use Rattle.std.proofs.lemmas.List.{append-nil, drop_all}
use Rattle.std.specs.Prelude.{not}
use Rattle.outside_disk.specs.Disk.{Told, DiskSeen, Between, Torn, Cut, WrittenThrough, CutThrough, IsSynced}
use Rattle.outside_disk.specs.Disk.{LeavesOnly, LeavesStep, with_bytes}
use Rattle.outside_disk.specs.laws.DiskLaws.{only_same, only_weaker, between_weaker, between_same}
use Rattle.store_journal.specs.inside.Ends.{MayCut, Cuts, MayClose, Closes}
use Rattle.store_journal.specs.Text.{front_text, journal_text, is_end, is_empty}
use Rattle.store_journal.specs.AtRest.{IsAtRest}
use Rattle.store_journal.specs.laws.CrashLaws.{torn_cut, cut_is, torn_gate, last_gate, written_gate}

-- a file of at most 13 bytes
begins_leaves : (text : List ℕ) (old new : Told) → length text ≡ 13 → LeavesStep (Torn 0 (length text)) old new
    → IsSynced old → length old.bytes ≤ 13 → LeavesOnly (λ c. length c ≤ 13) old new
begins_leaves text old new is leaves synced short = only_weaker _ _ old new (λ c torn. omega (arith, torn.no_longer))
    (leaves synced)

pub empty_long : (session text : List ℕ) → length session ≡ 8 → text ≡ journal_text session [] → length text ≡ 13
empty_long session text eight is =
    omega (arith, ap length is, length-append (session ++ []) (0 ∷ []), length-append session [])

begins_is : (session text : List ℕ) (old new : Told) → length session ≡ 8 → text ≡ journal_text session []
    → WrittenThrough 0 text old new → length old.bytes ≤ 13 → IsAtRest session [] 12 new
begins_is session text old new eight is written short =
    record {
      text = written.bytes
          ∙ ap (λ (l : List ℕ). text ++ l)
          (drop_all (0 + length text) old.bytes (omega (arith, empty_long session text eight is))) ∙ append-nil text
          ∙ is;
      place = omega (arith, length-append session []);
      synced = written.synced;
    }

pub begin_leaves : (text : List ℕ) (a b : DiskSeen) → length text ≡ 13
    → Between (LeavesStep (Torn 0 (length text))) a b
    → Between (λ old new. IsSynced old → length old.bytes ≤ 13 → LeavesOnly (λ c. length c ≤ 13) old new) a b
begin_leaves text a b is leaves = between_weaker _ _ (λ old new l. begins_leaves text old new is l) a b leaves

pub begin_is : (session text : List ℕ) (a b : DiskSeen) → length session ≡ 8 → text ≡ journal_text session []
    → Between (WrittenThrough 0 text) a b
    → Between (λ old new. length old.bytes ≤ 13 → IsAtRest session [] 12 new) a b
begin_is session text a b eight is written =
    between_weaker _ _ (λ old new w. begins_is session text old new eight is w) a b written

-- what stands behind the gate is cut off
not_open : (value : ℕ) (rest : List ℕ) → is_end value rest ≡ true → true ≡ not (is_empty rest) → value ≡ 1 → ⊥
not_open value [] ends behind open_gate = absurd (cc)
not_open (suc zero) (b ∷ rest) ends behind open_gate = absurd (cc)
not_open zero (b ∷ rest) ends behind open_gate = omega arith
not_open (suc (suc n)) (b ∷ rest) ends behind open_gate = omega arith

nothing_behind : (rest : List ℕ) → false ≡ not (is_empty rest) → rest ≡ []
nothing_behind [] e = refl
nothing_behind (b ∷ rest) e = absurd (cc)

cuts_leave : (gate : ℕ) (old new : Told) → LeavesStep (Cut (gate + 1)) old new → MayCut gate true old new
cuts_leave gate old new leaves session frames value end =
    only_weaker _ _ old new
    (λ c torn. torn_cut session frames (gate + 1) value end.rest c (not_open value end.rest end.ends end.behind)
    (ap (λ (k : ℕ). k + 1) end.place) (subst (λ (b : List ℕ). Cut (gate + 1) b c) end.text torn))
    (leaves end.synced)

cuts_are : (gate : ℕ) (old new : Told) → CutThrough (gate + 1) old new → Cuts gate true old new
cuts_are gate old new cut session frames value end = record {
  text = cut.bytes ∙ ap (λ (b : List ℕ). take (gate + 1) b) end.text
      ∙ cut_is session frames (gate + 1) value end.rest (ap (λ (k : ℕ). k + 1) end.place);
  place = end.place;
  synced = cut.synced;
}

uncut_is : (gate : ℕ) (old : Told) → Cuts gate false old old
uncut_is gate old session frames value end = record {
  text = end.text ∙ ap (λ (l : List ℕ). front_text session frames ++ value ∷ l) (nothing_behind end.rest end.behind);
  place = end.place;
  synced = end.synced;
}

pub cut_leaves : (gate : ℕ) (more : Bool) (a b : DiskSeen) → more ≡ true → Between (LeavesStep (Cut (gate + 1))) a b
    → Between (MayCut gate more) a b
cut_leaves gate more a b is leaves = rw is (between_weaker _ _ (cuts_leave gate) a b leaves)

pub cut_are : (gate : ℕ) (more : Bool) (a b : DiskSeen) → more ≡ true → Between (CutThrough (gate + 1)) a b
    → Between (Cuts gate more) a b
cut_are gate more a b is cut = rw is (between_weaker _ _ (cuts_are gate) a b cut)

pub uncut_leaves : (gate : ℕ) (more : Bool) (a : DiskSeen) → Between (MayCut gate more) a a
uncut_leaves gate more a = between_same _ (λ old session frames value end. only_same _ old) a

pub uncut_are : (gate : ℕ) (more : Bool) (a : DiskSeen) → more ≡ false → Between (Cuts gate more) a a
uncut_are gate more a is = rw is (between_same _ (uncut_is gate) a)

closes_leave : (gate value : ℕ) (old new : Told) → LeavesStep (Torn gate 1) old new → MayClose gate value old new
closes_leave gate value old new leaves session frames last =
    only_weaker _ _ old new
    (λ c torn. let g =
    torn_gate session frames gate value [] c last.place
    (subst (λ (b : List ℕ). Torn gate 1 b c) last.text torn) in last_gate session frames g.0 c g.1)
    (leaves last.synced)

closes_are : (gate value : ℕ) (old new : Told) → WrittenThrough gate (0 ∷ []) old new → Closes gate value old new
closes_are gate value old new written session frames last = record {
  text = written.bytes ∙ ap (λ (b : List ℕ). with_bytes gate (0 ∷ []) b) last.text
      ∙ written_gate session frames gate value 0 [] last.place;
  place = last.place;
  synced = written.synced;
}

closed_is : (gate value : ℕ) → value ≡ 0 → (old : Told) → Closes gate value old old
closed_is gate value is old session frames last = record {
  text = last.text ∙ ap (λ (v : ℕ). front_text session frames ++ v ∷ []) is;
  place = last.place;
  synced = last.synced;
}

pub close_leaves : (gate value : ℕ) (a b : DiskSeen) → Between (LeavesStep (Torn gate 1)) a b
    → Between (MayClose gate value) a b
close_leaves gate value a b leaves = between_weaker _ _ (closes_leave gate value) a b leaves

pub close_are : (gate value : ℕ) (a b : DiskSeen) → Between (WrittenThrough gate (0 ∷ [])) a b
    → Between (Closes gate value) a b
close_are gate value a b written = between_weaker _ _ (closes_are gate value) a b written

pub closed_leaves : (gate value : ℕ) (a : DiskSeen) → Between (MayClose gate value) a a
closed_leaves gate value a = between_same _ (λ old session frames last. only_same _ old) a

pub closed_are : (gate value : ℕ) (a : DiskSeen) → value ≡ 0 → Between (Closes gate value) a a
closed_are gate value a is = between_same _ (closed_is gate value is) a
