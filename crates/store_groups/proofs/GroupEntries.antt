-- The entries of a store, of which those of a group stand first: one of them more, and their end.
use Rattle.std.proofs.Common.{◌≡◌, ◌≢◌, ℕ, ◌+◌, ◌-◌, ◌<◌, true, false, List, [], ◌∷◌, ◌++◌, length, drop, None, refl}
use Rattle.std.proofs.Common.{sym, ap, subst, ◌∙◌, arith}
use Rattle.std.proofs.lemmas.List.Elements.{All-head, All-tail}
use Rattle.packet_frame.specs.Frame.{Fields, IsFrame, text}
use Rattle.packet_frame.specs.Refusals.{first_fault}
use Rattle.packet_frame.specs.laws.Laws.{texts_are_read}
use Rattle.packet_verdicts.specs.Group.{group_in}
use Rattle.store_text.specs.Refusals.{is_whole, datagram_in, entry_length}
use Rattle.store_text.specs.Store.{entries_in}
use Rattle.store_text.specs.declared.format.TheConstants.{STORE_FORM}
use Rattle.store_text.specs.laws.EntryReading.{entry_whole, entry_datagram, entry_rest}
use Rattle.store_text.specs.laws.FormLaws.{store_form_is, text_short}
use Rattle.store_groups.specs.inside.Groups.{IsCut, groups_in}

-- ---- the entry at the front

-- it is that of a frame, and others stand behind it
pub record AtFront (f : Fields) (more : List Fields) (entries : List ℕ) : Type 0 where
  pub whole : is_whole entries ≡ true
  pub datagram : datagram_in entries ≡ text f
  pub behind : drop (entry_length entries) entries ≡ entries_in STORE_FORM more

pub at_front : (f : Fields) (more : List Fields) (entries : List ℕ) → IsFrame f → entries ≡ entries_in STORE_FORM (f ∷ more)
    → AtFront f more entries
at_front f more entries frame is =
    let short = text_short STORE_FORM store_form_is f frame in
    let rest = entries_in STORE_FORM more in
    subst (AtFront f more) (sym is)
    (record {
      whole = entry_whole (text f) rest short;
      datagram = entry_datagram (text f) rest short;
      behind = entry_rest (text f) rest short;
    })

-- what its datagram tells
pub front_fine : (f : Fields) (datagram : List ℕ) → IsFrame f → datagram ≡ text f → first_fault datagram ≡ None
front_fine f datagram frame is = ap first_fault is ∙ (texts_are_read f frame).accepted

pub front_group : (f : Fields) (datagram : List ℕ) → IsFrame f → datagram ≡ text f → group_in datagram ≡ f.group
unfolding group_in
front_group f datagram frame is = ap group_in is ∙ ap (λ (g : Fields). g.group) (texts_are_read f frame).fields

pub front_groups : (f : Fields) (datagram : List ℕ) → IsFrame f → datagram ≡ text f → groups_in datagram ≡ f.groups
unfolding groups_in
front_groups f datagram frame is = ap groups_in is ∙ ap (λ (g : Fields). g.groups) (texts_are_read f frame).fields

-- ---- so many of the group were gone over

-- these are left of the group, and all others
pub record Left (group count done : ℕ) (rest : List ℕ) (own other : List Fields) : Type 0 where
  pub left : List Fields
  pub cut : IsCut group (count - done) rest left other
  pub many : done + length left ≡ length own

pub left_first : (group count : ℕ) (entries : List ℕ) (own other : List Fields) → IsCut group count entries own other
    → Left group count 0 entries own other
left_first group count entries own other cut =
    record {
      left = own;
      cut = record {
        all = record { frame = cut.all.frame; number = omega (arith, cut.all.number); text = cut.all.text };
        here = cut.here;
        past = cut.past;
      };
      many = omega arith;
    }

-- what is known of the entry at the front
record Next (group : ℕ) (rest : List ℕ) (left other : List Fields) : Type 0 where
  frame : Fields
  more : List Fields
  is : left ++ other ≡ frame ∷ more
  fine : IsFrame frame
  front : AtFront frame more rest

module _ (group count done : ℕ) (rest : List ℕ) (low : done < count) where
  next_by : (left other : List Fields) → IsCut group (count - done) rest left other → Next group rest left other
  next_by (f ∷ left) other cut =
      let fine : IsFrame f = All-head IsFrame f (left ++ other) cut.all.frame in
      record {
        frame = f;
        more = left ++ other;
        is = refl;
        fine = fine;
        front = at_front f (left ++ other) rest fine cut.all.text;
      }
  next_by [] (f ∷ other) cut =
      let fine : IsFrame f = All-head IsFrame f other cut.all.frame in
      record { frame = f; more = other; is = refl; fine = fine; front = at_front f other rest fine cut.all.text }
  next_by [] [] cut = absurd (omega (arith, cut.all.number, low))

  module _ (own other : List Fields) (left : Left group count done rest own other) where
    next : Next group rest left.left other
    next = next_by left.left other left.cut

    -- it is all there
    pub next_whole : is_whole rest ≡ false → ⊥
    next_whole cut = let no : true ≡ false = sym next.front.whole ∙ cut in absurd (cc)

    pub next_fine : (datagram : List ℕ) → datagram ≡ datagram_in rest → first_fault datagram ≡ None
    next_fine datagram is = front_fine next.frame datagram next.fine (is ∙ next.front.datagram)

  module _ (datagram : List ℕ) (is : datagram ≡ datagram_in rest) where
    -- where it is of another group, none of the group is left
    other_by : (left other : List Fields) → IsCut group (count - done) rest left other → group_in datagram ≢ group
        → (length left ≡ 0) × (rest ≡ entries_in STORE_FORM other)
    other_by [] other cut apart = (refl, cut.all.text)
    other_by (f ∷ left) other cut apart =
        let fine : IsFrame f = All-head IsFrame f (left ++ other) cut.all.frame in
        let front = at_front f (left ++ other) rest fine cut.all.text in
        let own : f.group ≡ group = All-head (λ (g : Fields). g.group ≡ group) f left cut.here in
        absurd (apart (front_group f datagram fine (is ∙ front.datagram) ∙ own))

    pub left_none : (own other : List Fields) → Left group count done rest own other → group_in datagram ≢ group
        → (done ≡ length own) × (rest ≡ entries_in STORE_FORM other)
    left_none own other left apart =
        let none = other_by left.left other left.cut apart in (omega (arith, left.many, none.0), none.1)

    -- where it is of the group, it is the first that is left of it
    own_by : (left other own : List Fields) → IsCut group (count - done) rest left other → group_in datagram ≡ group
        → done + length left ≡ length own → (after : List ℕ) → after ≡ drop (entry_length rest) rest
        → Left group count (done + 1) after own other
    own_by (f ∷ left) other own cut same many after behind =
        let fine : IsFrame f = All-head IsFrame f (left ++ other) cut.all.frame in
        let front = at_front f (left ++ other) rest fine cut.all.text in
        record {
          left = left;
          cut = record {
            all = record {
              frame = All-tail IsFrame f (left ++ other) cut.all.frame;
              number = omega (arith, cut.all.number);
              text = behind ∙ front.behind;
            };
            here = All-tail (λ (g : Fields). g.group ≡ group) f left cut.here;
            past = cut.past;
          };
          many = omega (arith, many);
        }
    own_by [] (f ∷ other) own cut same many after behind =
        let fine : IsFrame f = All-head IsFrame f other cut.all.frame in
        let front = at_front f other rest fine cut.all.text in
        absurd (All-head (λ (g : Fields). g.group ≢ group) f other cut.past
        (sym (front_group f datagram fine (is ∙ front.datagram)) ∙ same))
    own_by [] [] own cut same many after behind = absurd (omega (arith, cut.all.number, low))

    pub left_more : (own other : List Fields) → Left group count done rest own other → group_in datagram ≡ group
        → (after : List ℕ) → after ≡ drop (entry_length rest) rest → Left group count (done + 1) after own other
    left_more own other left same after behind =
        own_by left.left other own left.cut same left.many after behind

-- behind all of them nothing is left
none_by : (group count : ℕ) (rest : List ℕ) (left other : List Fields) → IsCut group (count - count) rest left other
    → (length left ≡ 0) × (rest ≡ entries_in STORE_FORM other)
none_by group count rest [] other cut = (refl, cut.all.text)
none_by group count rest (f ∷ left) other cut = absurd (omega (arith, cut.all.number))

pub left_end : (group count done : ℕ) (rest : List ℕ) (own other : List Fields) → done ≡ count
    → Left group count done rest own other → (count ≡ length own) × (rest ≡ entries_in STORE_FORM other)
left_end group count done rest own other all left =
    let at = subst (λ (k : ℕ). Left group count k rest own other) all left in
    let none = none_by group count rest at.left other at.cut in (omega (arith, at.many, none.0), none.1)
