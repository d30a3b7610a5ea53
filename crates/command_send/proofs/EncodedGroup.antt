-- The header and the message of a group of the second pass.
use Rattle.std.proofs.Common.{◌≡◌, ℕ, zero, suc, List, [], ◌∷◌, ◌++◌, length, ◌*◌, ◌∙◌, ap, ap₂, subst, sym}
use Rattle.std.specs.Prelude.{All, if◌then◌else◌, get_or, slice_get, Some, None, Result, Ok, Err, IfOk}
use Rattle.std.proofs.lemmas.Option.{same_Some, slice_get_within}
use Rattle.stripe_plan.specs.Layers.{needs_of}
use Rattle.stripe_plan.specs.Sizes.{Sizes}
use Rattle.priority_file.specs.Priority.{Priorities}
use Rattle.layer_split.specs.Layers.{message_by}
use Rattle.packet_frame.specs.declared.frame.Header.{Header}
use Rattle.packet_frame.specs.declared.format.Format.{Format}
use Rattle.packet_encoder.specs.CodedGroup.{CodedGroup}
use Rattle.packet_session.specs.Encoding.{Encoding}
use Rattle.session_source.specs.declared.source.Source.{Source}
use Rattle.stream_groups.specs.CutGroups.{CutGroup}
use Rattle.stream_groups.specs.laws.FittingLaws.{IsWhole}
use Rattle.stream_session.specs.Tables.{table_of_in}
use Rattle.stream_session.specs.laws.MessageLaws.{message_words_in}
use Rattle.command_send.specs.inside.Coded.{coded_of}

no_some : {A : Type 0} (x : A) → None ≡ Some x → ⊥
no_some x e = cc

-- what stands at a place
pub there_at : {A : Type 0} (xs : List A) (k : ℕ) (d x : A) → slice_get xs k ≡ Some x → get_or xs k d ≡ x
there_at [] k d x e = absurd (no_some x e)
there_at (y ∷ ys) zero d x e = same_Some y x e
there_at (y ∷ ys) (suc k) d x e = there_at ys k d x e

-- what all have, that has
pub all_at : {A : Type 0} (P : A → Type 0) (xs : List A) (k : ℕ) (x : A) → slice_get xs k ≡ Some x → All P xs → P x
all_at P xs k x e all = subst P (there_at xs k x x e) (all k x (slice_get_within xs k x e))

-- a message has the words of its table
pub words_are : (t : Format) (priority : Priorities) (g : CutGroup) (width : ℕ) (bytes : List ℕ) (table : Sizes)
    → t.word ≡ (if t.bounds.doubled then 1 else 2) → IsWhole (length priority.layers) g
    → bytes ≡ message_by t.word g.bytes g.cut.runs (length g.cut.lengths) → table ≡ table_of_in t priority g.cut
    → t.word ≡ width → length bytes ≡ length (needs_of table.layers) * width
words_are t priority g width bytes table word whole is of wide =
    ap length is ∙ message_words_in t word priority g whole
    ∙ ap (λ (s : Sizes). length (needs_of s.layers) * t.word) (sym of)
    ∙ ap (λ (n : ℕ). length (needs_of table.layers) * n) wide

-- an encoder of this header and this message
pub encoder_is : {X : Type 0} (r : Result CodedGroup X) (t : Format) (source : Source) (number : ℕ) (g : CutGroup)
    (header : Header) (bytes : List ℕ) → IfOk r (λ e. e.format ≡ t) → IfOk r (λ e. e.encoding.header ≡ header)
    → IfOk r (λ e. e.encoding.message ≡ bytes)
    → header ≡ record {
      session = source.number;
      groups = length source.tables.items;
      group = number;
      table = table_of_in t source.priority g.cut;
    }
    → bytes ≡ message_by t.word g.bytes g.cut.runs (length source.priority.layers)
    → IfOk r (λ e. e ≡ coded_of t source number g)
encoder_is (Ok e) t source number g header bytes f h m is words =
    ap₂ (λ (u : Format) (y : Encoding). record { format = u; encoding = y }) f
    (ap₂ (λ (x : Header) (y : List ℕ). record { header = x; message = y }) (h ∙ is) (m ∙ words))
encoder_is (Err x) t source number g header bytes f h m is words = tt

abbrev pub head : List ℕ → ℕ → ℕ → Sizes → Header
head session groups number table = record { session = session; groups = groups; group = number; table = table }

pub header_is : (session : List ℕ) (groups many number : ℕ) (table other : Sizes) → groups ≡ many → table ≡ other
    → head session groups number table ≡ head session many number other
header_is session groups many number table other e t = ap₂ (λ (n : ℕ) (s : Sizes). head session n number s) e t

pub ok_same : {A E : Type 0} (x y : A) (r : Result A E) → r ≡ Ok x → r ≡ Ok y → x ≡ y
ok_same x y r p q = cc

-- one more of the first elements of a list
pub front_more : {A : Type 0} (xs later : List A) (x : A) → slice_get (xs ++ later) (length xs) ≡ Some x
    → (rest : List A) × (xs ++ later ≡ (xs ++ x ∷ []) ++ rest)
front_more [] [] x e = absurd (no_some x e)
front_more [] (y ∷ ys) x e = (ys, ap (λ z. z ∷ ys) (same_Some y x e))
front_more (z ∷ xs) later x e = let more = front_more xs later x e in (more.0, ap (λ l. z ∷ l) more.1)
