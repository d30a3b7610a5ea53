-- What a frame that is kept does to a journal that is open.
use Rattle.std.proofs.Common.{◌≡◌, inl, inr, ℕ, ◌+◌, ◌<◌, List, [], ◌∷◌, ◌++◌, length, Some, refl, sym, subst, ◌∙◌}
use Rattle.std.specs.Prelude.{Ok}
use Rattle.outside_disk.specs.Disk.{Told, DiskSeen, Between, LeavesOnly, image}
use Rattle.outside_disk.specs.laws.DiskLaws.{only_weaker, between_weaker}
use Rattle.store_journal.specs.Text.{Keep, Keeps, reading_of}
use Rattle.store_journal.specs.AtRest.{IsAtRest, IsBeforeOrAfter, IsOpen, StandsFor, MayAdd, Adds}
use Rattle.store_journal.specs.laws.TextLaws.{journal_is, keeps_more}

module _ {S : Type 0} (keep : Keep S) (session : List ℕ) (set next : S) (frame : List ℕ)
    (short : length frame < 65536) (kept : keep set frame ≡ Some next) where
  stands : (empty : S) (frames : List (List ℕ)) (c : List ℕ) → length session ≡ 8 → Keeps keep empty frames set
      → IsBeforeOrAfter session frames frame c → StandsFor keep empty session set frame c
  stands empty frames c eight keeps (inl before) = inl (journal_is keep empty session frames set c eight keeps before)
  stands empty frames c eight keeps (inr after) =
      inr (
        next,
        kept,
        journal_is keep empty session (frames ++ frame ∷ []) next c eight
            (keeps_more keep frames empty set next frame keeps short kept) after,
      )

  pub accept_leaves : (gate : ℕ) (a b : DiskSeen) → Between (MayAdd gate frame) a b
      → Between (λ old new. (empty : S) → IsOpen keep empty session gate set old
      → LeavesOnly (StandsFor keep empty session set frame) old new) a b
  accept_leaves gate a b adds =
      between_weaker _ _
      (λ old new leaves empty open_now.
      only_weaker _ _ old new (λ c is. stands empty open_now.frames c open_now.eight open_now.keeps is)
      (leaves session open_now.frames open_now.rest)) a b adds

  pub accept_opens : (gate gate2 : ℕ) (a b : DiskSeen) → gate2 ≡ gate + 3 + length frame
      → Between (Adds gate frame) a b
      → Between (λ old new. (empty : S) → IsOpen keep empty session gate set old
      → IsOpen keep empty session gate2 next new) a b
  accept_opens gate gate2 a b is adds =
      between_weaker _ _
      (λ old new added empty open_now. record {
        eight = open_now.eight;
        frames = open_now.frames ++ frame ∷ [];
        keeps = keeps_more keep open_now.frames empty set next frame open_now.keeps short kept;
        rest = subst (λ (g : ℕ). IsAtRest session (open_now.frames ++ frame ∷ []) g new) (sym is)
            (added session open_now.frames open_now.rest);
      })
      a b adds

-- each image of an open journal stands for its set
pub open_stands : {S : Type 0} (keep : Keep S) (empty : S) (session : List ℕ) (gate : ℕ) (set : S) (disk : Told)
    → IsOpen keep empty session gate set disk → (c : List ℕ) → image disk c → reading_of keep empty session c ≡ Ok set
open_stands keep empty session gate set disk open_now c here =
    journal_is keep empty session open_now.frames set c open_now.eight open_now.keeps
    (record { gate = 0; rest = []; is = open_now.rest.synced c here ∙ open_now.rest.text; ends = refl })
