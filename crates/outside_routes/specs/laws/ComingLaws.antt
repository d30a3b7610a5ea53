-- Laws of the datagrams that come on a way, for the proofs of callers.
use Rattle.std.proofs.Common.{◌≡◌, ℕ, List, [], ◌∷◌, ◌++◌, take, Option, None, Some, refl, sym, ap, subst, ◌∙◌}
use Rattle.std.proofs.Common.{append_assoc}
use Rattle.std.proofs.lemmas.List.{append-nil}
use Rattle.std.specs.Prelude.{option_map, IfSome, Result, Ok, Err, IfOk}
use Rattle.std.specs.Io.KnownBytes.{prepend_known}
use Rattle.pet_base.specs.Entries.{datagrams, first_entry, HasRead, TakesEntry}
use Rattle.pet_base.specs.declared.entry.Entry.{Entry}
use Rattle.pet_base.specs.declared.entry.Entry.TheVariants.{Datagram, End}
use Rattle.pet_base.specs.LinkSeen.{LinkSeen}
use Rattle.pet_base.specs.Seen.{Seen}
use Rattle.pet_base.specs.laws.EntriesLaws.{HasRead-front, datagrams_first, datagrams_none}
use Rattle.outside_routes.specs.Way.{Way, OnFile, OnLink}
use Rattle.outside_routes.specs.Coming.{coming, HaveCome, HaveComeUntil, HasReadUntil, KeepsFeed, LosesPart, TakesDatagram}

none_some : {A : Type 0} (x : A) → None ≡ Some x → ⊥
none_some x e = cc

-- nothing has come yet
pub come_nothing : (coming : Option (List (List ℕ))) → HaveCome [] coming coming
come_nothing None = refl
come_nothing (Some ds) = refl

-- some, and then more
pub come_both : (ds more : List (List ℕ)) (first old new : Option (List (List ℕ))) → HaveCome ds first old
    → HaveCome more old new → HaveCome (ds ++ more) first new
come_both ds more first None None so_far step = so_far
come_both ds more first None (Some left) so_far step = absurd (none_some _ step)
come_both ds more first (Some old) None so_far step = absurd (none_some _ (sym step))
come_both ds more first (Some old) (Some left) so_far step =
    so_far ∙ ap (option_map (λ rest. ds ++ rest)) step
    ∙ ap (λ (l : List (List ℕ)). Some l) (sym (append_assoc ds more left))

-- one more datagram
pub come_more : (ds : List (List ℕ)) (first old new : Option (List (List ℕ))) (d : List ℕ) → HaveCome ds first old
    → HaveCome (d ∷ []) old new → HaveCome (ds ++ d ∷ []) first new
come_more ds first old new d so_far step = come_both ds (d ∷ []) first old new so_far step

some_same : {A : Type 0} (x y : A) → Some x ≡ Some y → x ≡ y
some_same x y e = cc

-- at the end these are all
pub come_all : (ds : List (List ℕ)) (first old : Option (List (List ℕ))) → HaveCome ds first old
    → IfSome old (λ more. more ≡ []) → IfSome first (λ all. all ≡ ds)
come_all ds None old so_far none = tt
come_all ds (Some all) None so_far none = absurd (none_some _ (sym so_far))
come_all ds (Some all) (Some more) so_far none =
    some_same _ _ so_far ∙ ap (λ (l : List (List ℕ)). ds ++ l) none ∙ append-nil ds

-- what came stands at the front of all
pub come_front : (ds : List (List ℕ)) (first now : Option (List (List ℕ))) → HaveCome ds first now
    → IfSome first (λ all. (more : List (List ℕ)) × (all ≡ ds ++ more))
come_front ds None now so_far = tt
come_front ds (Some all) None so_far = absurd (none_some _ (sym so_far))
come_front ds (Some all) (Some more) so_far = (more, some_same _ _ so_far)

none_left : (old : Option (List ℕ)) → IfSome old (λ bytes. bytes ≡ [])
    → IfSome (option_map datagrams old) (λ more. more ≡ [])
none_left None none = tt
none_left (Some bytes) none = datagrams_none bytes (ap first_entry none)

-- an entry of a file is a datagram of it
pub entry_comes : (e : Entry) (into : List ℕ) (old new : Option (List ℕ)) → TakesEntry old e into new
    → TakesDatagram (option_map datagrams old) e into (option_map datagrams new)
entry_comes (Datagram n) into None None takes = refl
entry_comes (Datagram n) into None (Some rest) takes = absurd (none_some _ takes)
entry_comes (Datagram n) into (Some bytes) None takes = absurd (none_some _ (sym takes))
entry_comes (Datagram n) into (Some bytes) (Some rest) takes =
    ap (λ (l : List (List ℕ)). Some l) (datagrams_first bytes (take n into) rest (some_same _ _ takes))
entry_comes End into old new takes = (ap (option_map datagrams) takes.0, none_left old takes.1)

-- the datagrams that came of a file were read of it
come_read : (ds : List (List ℕ)) (old new : Option (List ℕ))
    → HaveCome ds (option_map datagrams old) (option_map datagrams new) → HasRead ds old new
come_read ds old None come = come
come_read ds old (Some rest) come = come

-- and no others came, where then one could not be received
pub come_until : (way : Way) (ds : List (List ℕ)) (first before now : Seen) (link_first link_before link_now : LinkSeen)
    → HaveCome ds (coming way first link_first) (coming way before link_before) → KeepsFeed way link_before link_now
    → LosesPart way before now → HaveComeUntil way ds first link_first now link_now
come_until (OnFile name) ds first before now link_first link_before link_now come feed lost =
    (before.rest, come_read ds first.rest before.rest come, lost)
come_until (OnLink address) ds first before now link_first link_before link_now come feed lost =
    subst (λ (o : Option (List (List ℕ))). HaveCome ds link_first.feed o) (sym feed) come

prepend_nothing : (o : Option (List ℕ)) → o ≡ prepend_known [] o
prepend_nothing None = refl
prepend_nothing (Some bytes) = refl

-- or none was to be
pub come_whole : (way : Way) (ds : List (List ℕ)) (first now : Seen) (link_first link_now : LinkSeen)
    → HaveCome ds (coming way first link_first) (coming way now link_now)
    → HaveComeUntil way ds first link_first now link_now
come_whole (OnFile name) ds first now link_first link_now come =
    (now.rest, come_read ds first.rest now.rest come, ([], tt, prepend_nothing now.rest))
come_whole (OnLink address) ds first now link_first link_now come = come

-- they are the first of those that were to come
pub until_first : (ds : List (List ℕ)) (first now : Option (List ℕ)) → HasReadUntil ds first now
    → IfSome first (λ bytes. (more : List (List ℕ)) × (datagrams bytes ≡ ds ++ more))
until_first ds first now until = HasRead-front ds first until.0 until.1

-- also where there may be none
pub entry_answers : {E : Type 0} (r : Result Entry E) (into : List ℕ) (old new : Option (List ℕ))
    → IfOk r (λ e. TakesEntry old e into new)
    → IfOk r (λ e. TakesDatagram (option_map datagrams old) e into (option_map datagrams new))
entry_answers (Ok e) into old new takes = entry_comes e into old new takes
entry_answers (Err e) into old new takes = tt
