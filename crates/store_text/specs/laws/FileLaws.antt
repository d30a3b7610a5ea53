-- Laws of stores as files, for callers: what is written of a kept set is a store of it, and the files of merged stores
-- do
-- not tell in which order, how often or which two first they were merged.
use Rattle.std.proofs.Common.{◌≡◌, ℕ, ◌<◌, ◌≤◌, Bool, ltb, List, length, All, None, Result, Ok, Err, sym, ap, subst}
use Rattle.std.proofs.Common.{◌∙◌, arith}
use Rattle.std.specs.Prelude.{if◌then◌else◌}
use Rattle.std.proofs.lemmas.Bool.{le-ltb}
use Rattle.pet_base.specs.declared.limits.TheConstants.{MAX_SESSION, MAX_STORE}
use Rattle.packet_verdicts.specs.KeptSet.{KeptSet, IsKeptSet, cost_kept}
use Rattle.packet_verdicts.specs.Union.{union, absorb_fault}
use Rattle.packet_verdicts.specs.laws.UnionLaws.{fit_commutes, union_commutes, union_itself, fit_itself}
use Rattle.packet_verdicts.specs.laws.UnionAssociates.{union_associates, fit_rest, fit_first}
use Rattle.store_text.specs.Files.{store_in}
use Rattle.store_text.specs.Store.{store_text}
use Rattle.store_text.specs.Refusals.{read_text}
use Rattle.store_text.specs.declared.fault.BadStore.{BadStore}
use Rattle.store_text.specs.declared.fault.BadStore.TheVariants.{At}
use Rattle.store_text.specs.declared.fault.StoreKind.TheVariants.{Cut}
use Rattle.store_text.specs.laws.LengthLaws.{store_fits}
use Rattle.store_text.specs.laws.ReadLaws.{read_sound, read_limit, read_is_written}
use Rattle.store_text.specs.laws.WrittenLaws.{written_is_read}

-- ---- a file that is not longer than a store may be is read as a store

pub store_within : (bytes : List ℕ) → length bytes ≤ MAX_STORE → store_in bytes ≡ read_text MAX_SESSION bytes
unfolding store_in
store_within bytes le =
    ap (λ (b : Bool). if b then Err (At MAX_STORE Cut) else read_text MAX_SESSION bytes)
    (le-ltb MAX_STORE (length bytes) le)

read_by : (long : Bool) (read : Result KeptSet BadStore) (set : KeptSet)
    → (if long then Err (At MAX_STORE Cut) else read) ≡ Ok set → read ≡ Ok set
read_by Bool.true read set e = absurd (cc)
read_by Bool.false read set e = e

-- what a file is a store of was read of it
pub store_is_read : (bytes : List ℕ) (set : KeptSet) → store_in bytes ≡ Ok set → read_text MAX_SESSION bytes ≡ Ok set
unfolding store_in
store_is_read bytes set e = read_by (ltb MAX_STORE (length bytes)) (read_text MAX_SESSION bytes) set e

-- What is written of a kept set of a session is a file that is a store of it.
pub written_is_a_store : (set : KeptSet) → IsKeptSet set → set.limit ≡ MAX_SESSION → length set.session ≡ 8
    → store_in (store_text set) ≡ Ok set
written_is_a_store set sound most eight =
    let cost : cost_kept set ≤ MAX_SESSION = subst (λ (l : ℕ). cost_kept set ≤ l) most sound.within in
    store_within (store_text set) (store_fits set sound eight cost)
    ∙ written_is_read set MAX_SESSION sound eight cost
    ∙ ap (λ (l : ℕ). Ok (record { session = set.session; limit = l; groups = set.groups })) (sym most)

sound_in : (x : List ℕ) (a : KeptSet) → store_in x ≡ Ok a → IsKeptSet a
sound_in x a is = read_sound MAX_SESSION x a (store_is_read x a is)

limit_in : (x : List ℕ) (a : KeptSet) → store_in x ≡ Ok a → a.limit ≡ MAX_SESSION
limit_in x a is = read_limit MAX_SESSION x a (store_is_read x a is)

-- ---- two files in either order

module _ (x y : List ℕ) (a b : KeptSet) (x_is : store_in x ≡ Ok a) (y_is : store_in y ≡ Ok b)
    (fit : absorb_fault a b ≡ None) where
  one_limit : a.limit ≡ b.limit
  one_limit = limit_in x a x_is ∙ sym (limit_in y b y_is)

  -- Where two stores can be merged, they can be the other way round,
  pub files_fit_back : absorb_fault b a ≡ None
  files_fit_back = fit_commutes a b (sound_in x a x_is) (sound_in y b y_is) fit one_limit

  -- and the files are the same.
  pub files_commute : store_text (union a b) ≡ store_text (union b a)
  files_commute = ap store_text (union_commutes a b (sound_in x a x_is) (sound_in y b y_is) fit one_limit)

-- ---- a file with itself

-- A store can be merged with itself,
pub file_fits_itself : (x : List ℕ) (a : KeptSet) → store_in x ≡ Ok a → absorb_fault a a ≡ None
file_fits_itself x a is = fit_itself a (sound_in x a is)

-- and the file is the same.
pub file_itself : (x : List ℕ) (a : KeptSet) → All (λ byte. byte < 256) x → store_in x ≡ Ok a
    → store_text (union a a) ≡ x
file_itself x a bytes is =
    ap store_text (union_itself a (sound_in x a is).rising)
    ∙ sym (read_is_written MAX_SESSION x a (store_is_read x a is) bytes).text

-- ---- three files

module _ (x y z : List ℕ) (a b c : KeptSet) (x_is : store_in x ≡ Ok a) (y_is : store_in y ≡ Ok b)
    (z_is : store_in z ≡ Ok c) (fit : absorb_fault a b ≡ None) (later : absorb_fault (union a b) c ≡ None) where
  same_limit : a.limit ≤ b.limit
  same_limit = omega (arith, limit_in x a x_is, limit_in y b y_is)

  -- Where the first two can be merged, and then the third, so can the last two, and the first with these,
  pub files_fit_rest : absorb_fault b c ≡ None
  files_fit_rest = fit_rest a b c (sound_in x a x_is) (sound_in y b y_is) (sound_in z c z_is) fit later same_limit

  pub files_fit_first : absorb_fault a (union b c) ≡ None
  files_fit_first = fit_first a b c (sound_in x a x_is) (sound_in y b y_is) (sound_in z c z_is) fit later same_limit

  -- and the files are the same.
  pub files_associate : store_text (union (union a b) c) ≡ store_text (union a (union b c))
  files_associate =
      ap store_text
      (union_associates a b c (sound_in x a x_is).rising (sound_in y b y_is).rising (sound_in z c z_is).rising)
