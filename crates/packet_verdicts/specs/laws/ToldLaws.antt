-- Laws of what the open groups of a kept set tell, for callers: each tells the set's number of groups, and each has a
-- slot with
-- a payload.
use Rattle.std.specs.Prelude.{is_some, count_by, option_map}
use Rattle.std.proofs.Common.{◌≡◌, ℕ, ◌<◌, suc, cond, List, [], ◌∷◌, get_or, Option, None, Some, nat_cmp, refl, sym, ap}
use Rattle.std.proofs.Common.{◌∙◌, arith, subst}
use Rattle.std.specs.List.{slice_get}
use Rattle.std.specs.List.Sorted.{IsStrictlySortedBy}
use Rattle.std.specs.Map.{lookup, keys_of}
use Rattle.std.specs.BTreeMap.{is_at}
use Rattle.std.proofs.lemmas.List.Sums.{sum_by-cons}
use Rattle.packet_set.specs.Packets.{Packets}
use Rattle.packet_verdicts.specs.KeptSet.{KeptSet, IsKeptSetBy, open_group, told_by}
use Rattle.packet_verdicts.specs.laws.EntryLaws.{all_found}

-- where some are there, one of them
pub first_some : {A : Type 0} (xs : List (Option A)) → 0 < count_by is_some xs
    → (i : ℕ) × (x : A) × (get_or xs i None ≡ Some x)
first_some [] l = absurd (omega arith)
first_some (Some x ∷ xs) l = (0, x, refl)
first_some {A} (None ∷ xs) l =
    let rest = first_some xs (omega (arith, sum_by-cons (λ (t : Option A). cond (is_some t) 1 0) None xs)) in
    (suc rest.0, rest.1, rest.2)

first_tells : {word : ℕ} (set : KeptSet) → IsKeptSetBy word set → (group : ℕ) (p : Packets)
    → open_group set group ≡ Some p → (es : List (ℕ × Packets)) → set.groups ≡ es
    → option_map (λ e. e.1.header.groups) (slice_get es 0) ≡ Some p.header.groups
first_tells set sound group p opened [] is =
    let no : None ≡ Some p = sym (ap (lookup (is_at (nat_cmp group))) is) ∙ opened in absurd (cc)
first_tells set sound group p opened (e ∷ es) is =
    let first : open_group set e.0 ≡ Some e.1 =
    subst (λ (xs : List (ℕ × Packets)). lookup (is_at (nat_cmp e.0)) xs ≡ Some e.1) (sym is)
    (all_found (e ∷ es)
    (subst (λ (xs : List (ℕ × Packets)). IsStrictlySortedBy nat_cmp (keys_of xs)) is sound.rising) 0 e (omega arith)) in
    ap Some (sound.one_count e.0 group e.1 p first opened)

-- an open group tells the number of groups
pub open_tells : {word : ℕ} (set : KeptSet) → IsKeptSetBy word set → (group : ℕ) (p : Packets)
    → open_group set group ≡ Some p → told_by set ≡ Some p.header.groups
open_tells set sound group p opened = first_tells set sound group p opened set.groups refl

-- where none is told, no group is open
pub none_open : (es : List (ℕ × Packets)) → option_map (λ (e : ℕ × Packets). e.1.header.groups) (slice_get es 0) ≡ None
    → es ≡ []
none_open [] e = refl
none_open (x ∷ es) e = absurd (cc)
