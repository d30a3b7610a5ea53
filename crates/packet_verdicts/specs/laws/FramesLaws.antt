-- Laws of the frames of a kept set, for callers: group by group and number by number, how many they are, and that they
-- are frames.
use Rattle.std.specs.Prelude.{option_map, option_and_then, is_some, count_by, sum_by, Contains}
use Rattle.std.proofs.Common.{◌≡◌, ℕ, ◌+◌, ◌<◌, zero, suc, cond, List, [], ◌∷◌, ◌++◌, length, get_or, All, Option, None}
use Rattle.std.proofs.Common.{Some, refl, sym, ap, ◌∙◌, arith, subst, inl, inr}
use Rattle.std.specs.Option.{option_map_or}
use Rattle.std.specs.List.{flat_map, filter_map, cons_option, range_with_len}
use Rattle.std.proofs.lemmas.Bool.{cases_lt}
use Rattle.std.proofs.lemmas.List.{append-nil, get_or_past}
use Rattle.std.proofs.lemmas.List.Concat.{length-flat_map, flat_map-append}
use Rattle.std.proofs.lemmas.List.Elements.{filter_map-append, All-append, All-nil, All-cons, All-head, All-tail}
use Rattle.std.proofs.lemmas.List.Elements.{Contains-append_left, Contains-append_right}
use Rattle.std.proofs.lemmas.List.Sums.{sum_by-cons}
use Rattle.std.proofs.lemmas.Option.{same_Some}
use Rattle.packet_frame.specs.Frame.{Fields, IsFrame}
use Rattle.packet_frame.specs.View.{fields_with}
use Rattle.packet_frame.specs.declared.frame.Header.{Header}
use Rattle.packet_set.specs.Packets.{Packets, slot_at, count_in}
use Rattle.packet_verdicts.specs.KeptSet.{KeptSet, IsKeptSet, IsKeptGroup, open_group, payload_of, told_by, kept_in_all}
use Rattle.packet_verdicts.specs.Union.{frames_in, frames_in_group}
use Rattle.packet_verdicts.specs.laws.EntryLaws.{all_found}
use Rattle.packet_verdicts.specs.laws.FoundEntries.{frames_found}
use Rattle.packet_verdicts.specs.laws.LayerSetLaws.{range_more}
use Rattle.packet_verdicts.specs.laws.ToldLaws.{first_some, none_open, open_tells}

-- ---- by group

-- the frames that are kept of a group, and none where it is not open
abbrev pub frames_of : KeptSet → ℕ → List Fields
frames_of set group = option_map_or frames_in_group (open_group set group) []

-- ---- what a kept set tells of its groups

-- a group that is open is one of those that are told
pub below_told : (set : KeptSet) → IsKeptSet set → (n : ℕ) → told_by set ≡ Some n → (group : ℕ) (p : Packets)
    → open_group set group ≡ Some p → group < n
below_told set sound n told group p opened =
    let g = sound.groups group p opened in
    let one = first_some p.slots g.some in
    let frame = g.frames one.0 one.1 one.2 in
    let same : p.header.groups ≡ n = same_Some p.header.groups n (sym (open_tells set sound group p opened) ∙ told) in
    omega (arith, frame.group, g.same_group, same)

-- the frames that are kept, looked up group by group
pub frames_told : (set : KeptSet) → IsKeptSet set → (n : ℕ) → told_by set ≡ Some n
    → frames_in set ≡ flat_map (frames_of set) (range_with_len 0 n)
frames_told set sound n told =
    frames_found set n sound.rising (λ group p opened. below_told set sound n told group p opened)

-- where no number of groups is told there are none
pub no_frames : (set : KeptSet) → told_by set ≡ None → frames_in set ≡ []
no_frames set told = ap (flat_map (λ (e : ℕ × Packets). frames_in_group e.1)) (none_open set.groups told)

-- the frames of one group more
pub frames_one_group : (set : KeptSet) (n : ℕ)
    → flat_map (frames_of set) (range_with_len 0 (n + 1))
    ≡ flat_map (frames_of set) (range_with_len 0 n) ++ frames_of set n
frames_one_group set n =
    ap (flat_map (frames_of set)) (range_more n) ∙ flat_map-append (frames_of set) (range_with_len 0 n) (n ∷ [])
    ∙ ap (λ t. flat_map (frames_of set) (range_with_len 0 n) ++ t) (append-nil (frames_of set n))

-- ---- by number

-- the frame of a number, where it is kept
abbrev pub frame_at : Packets → ℕ → Option Fields
frame_at p number = option_map (fields_with p.header number) (slot_at p number)

-- the frames of the first numbers
abbrev pub first_frames : Packets → ℕ → List Fields
first_frames p many = filter_map (frame_at p) (range_with_len 0 many)

-- and of one number more
pub frames_one_number : (p : Packets) (n : ℕ)
    → first_frames p (n + 1) ≡ first_frames p n ++ cons_option (frame_at p n) []
frames_one_number p n =
    ap (filter_map (frame_at p)) (range_more n) ∙ filter_map-append (frame_at p) (range_with_len 0 n) (n ∷ [])

-- ---- how many they are

one_of : {A B : Type 0} (g : A → B) (o : Option A) (ys : List B)
    → length (cons_option (option_map g o) ys) ≡ cond (is_some o) 1 0 + length ys
one_of g None ys = omega arith
one_of g (Some x) ys = omega arith

many_in : {A B : Type 0} (g : ℕ → A → B) (look : ℕ → Option A) (a : ℕ) (xs : List (Option A))
    → ((i : ℕ) → i < length xs → look (a + i) ≡ get_or xs i None)
    → length (filter_map (λ i. option_map (g i) (look i)) (range_with_len a (length xs))) ≡ count_by is_some xs
many_in g look a [] is = refl
many_in {A} g look a (x ∷ xs) is =
    let here : look a ≡ x = ap look (omega arith) ∙ is 0 (omega arith) in
    let rest = many_in g look (a + 1) xs (λ i l. ap look (omega arith) ∙ is (suc i) (omega arith)) in
    let one : Option A → ℕ = λ o. cond (is_some o) 1 0 in
    omega (
      arith,
      one_of (g a) (look a) (filter_map (λ i. option_map (g i) (look i)) (range_with_len (a + 1) (length xs))),
      rest,
      ap one here,
      sum_by-cons (λ (o : Option A). cond (is_some o) 1 0) x xs,
    )

many_in_group : (p : Packets) → length (frames_in_group p) ≡ count_in p
many_in_group p = many_in (fields_with p.header) (slot_at p) 0 p.slots (λ i l. ap (slot_at p) (omega arith))

same_sum : {X : Type 0} (f g : X → ℕ) → ((x : X) → f x ≡ g x) → (xs : List X) → sum_by f xs ≡ sum_by g xs
same_sum f g same [] = refl
same_sum f g same (x ∷ xs) = omega (arith, sum_by-cons f x xs, sum_by-cons g x xs, same x, same_sum f g same xs)

-- there are as many frames as packets are kept
pub frames_many : (set : KeptSet) → length (frames_in set) ≡ kept_in_all set
frames_many set =
    length-flat_map (λ (e : ℕ × Packets). frames_in_group e.1) set.groups
    ∙ same_sum (λ (e : ℕ × Packets). length (frames_in_group e.1)) (λ (e : ℕ × Packets). count_in e.1)
    (λ e. many_in_group e.1) set.groups

-- ---- that they are frames

all_one : {A : Type 0} (P : A → Type 0) (o : Option A) (ys : List A) → ((x : A) → o ≡ Some x → P x) → All P ys
    → All P (cons_option o ys)
all_one P None ys one rest = rest
all_one P (Some x) ys one rest = All-cons P x ys (one x refl) rest

all_kept : {A X : Type 0} (P : A → Type 0) (h : X → Option A) (xs : List X) → ((x : X) (a : A) → h x ≡ Some a → P a)
    → All P (filter_map h xs)
all_kept P h [] each = All-nil P
all_kept P h (x ∷ xs) each = all_one P (h x) (filter_map h xs) (λ a is. each x a is) (all_kept P h xs each)

all_flat : {A X : Type 0} (P : A → Type 0) (h : X → List A) (xs : List X) → All (λ x. All P (h x)) xs
    → All P (flat_map h xs)
all_flat P h [] each = All-nil P
all_flat P h (x ∷ xs) each =
    All-append P (h x) (flat_map h xs) (All-head (λ t. All P (h t)) x xs each)
    (all_flat P h xs (All-tail (λ t. All P (h t)) x xs each))

is_frame_by : (header : Header) (number : ℕ) (o : Option (List ℕ))
    → ((payload : List ℕ) → o ≡ Some payload → IsFrame (fields_with header number payload)) → (f : Fields)
    → option_map (fields_with header number) o ≡ Some f → IsFrame f
is_frame_by header number None each f is = absurd (cc)
is_frame_by header number (Some payload) each f is =
    subst (λ t. IsFrame t) (same_Some (fields_with header number payload) f is) (each payload refl)

-- each is a frame
pub group_frames_are : (session : List ℕ) (group : ℕ) (p : Packets) → IsKeptGroup session group p
    → All IsFrame (frames_in_group p)
group_frames_are session group p g =
    all_kept IsFrame (frame_at p) (range_with_len 0 (length p.slots))
    (λ number f is. is_frame_by p.header number (slot_at p number) (λ payload e. g.frames number payload e) f is)

pub frames_are : (set : KeptSet) → IsKeptSet set → All IsFrame (frames_in set)
frames_are set sound =
    all_flat IsFrame (λ (e : ℕ × Packets). frames_in_group e.1) set.groups
    (λ i d l. let e = get_or set.groups i d in
    group_frames_are set.session e.0 e.1 (sound.groups e.0 e.1 (all_found set.groups sound.rising i d l)))

-- ---- that they are those that are kept

contained_by : {A : Type 0} (o : Option A) (x : A) (ys : List A) → o ≡ Some x → Contains (cons_option o ys) x
contained_by None x ys is = absurd (cc)
contained_by (Some y) x ys is = (0, omega arith, same_Some y x is)

contained_later : {A : Type 0} (o : Option A) (x : A) (ys : List A) → Contains ys x → Contains (cons_option o ys) x
contained_later None x ys in_rest = in_rest
contained_later (Some y) x ys in_rest = (suc in_rest.0, omega (arith, in_rest.1), in_rest.2)

in_kept : {A : Type 0} (h : ℕ → Option A) (x : A) (a n i : ℕ) → i < n → h (a + i) ≡ Some x
    → Contains (filter_map h (range_with_len a n)) x
in_kept h x a zero i l is = absurd (omega arith)
in_kept h x a (suc n) zero l is =
    contained_by (h a) x (filter_map h (range_with_len (a + 1) n)) (ap h (omega arith) ∙ is)
in_kept h x a (suc n) (suc i) l is =
    contained_later (h a) x (filter_map h (range_with_len (a + 1) n))
    (in_kept h x (a + 1) n i (omega arith) (ap h (omega arith) ∙ is))

in_flat : {A : Type 0} (h : ℕ → List A) (x : A) (a n i : ℕ) → i < n → Contains (h (a + i)) x
    → Contains (flat_map h (range_with_len a n)) x
in_flat h x a zero i l is = absurd (omega arith)
in_flat h x a (suc n) zero l is =
    Contains-append_left (h a) (flat_map h (range_with_len (a + 1) n)) x
    (subst (λ k. Contains (h k) x) (omega arith) is)
in_flat h x a (suc n) (suc i) l is =
    Contains-append_right (h a) (flat_map h (range_with_len (a + 1) n)) x
    (in_flat h x (a + 1) n i (omega arith) (subst (λ k. Contains (h k) x) (omega arith) is))

inside_slots : {A : Type 0} (slots : List (Option A)) (number : ℕ) (x : A) → get_or slots number None ≡ Some x
    → number < length slots
inside_slots slots number x is =
    elim (cases_lt number (length slots)) [
      | inl l ↦ l
      | inr past ↦ let no : None ≡ Some x = sym (get_or_past slots number None past) ∙ is in absurd (cc)
    ]

-- each frame that is kept is among them
pub in_frames : (set : KeptSet) → IsKeptSet set → (group number : ℕ) (p : Packets) (payload : List ℕ)
    → open_group set group ≡ Some p → slot_at p number ≡ Some payload
    → Contains (frames_in set) (fields_with p.header number payload)
in_frames set sound group number p payload opened is =
    let f = fields_with p.header number payload in
    let told = open_tells set sound group p opened in
    let here : Contains (frames_in_group p) f =
    in_kept (frame_at p) f 0 (length p.slots) number (inside_slots p.slots number payload is)
    (ap (frame_at p) (omega arith) ∙ ap (option_map (fields_with p.header number)) is) in
    let group_is : Contains (frames_of set (0 + group)) f =
    subst (λ k. Contains (frames_of set k) f) (omega arith)
    (subst (λ o. Contains (option_map_or frames_in_group o []) f) (sym opened) here) in
    subst (λ (fs : List Fields). Contains fs f) (sym (frames_told set sound p.header.groups told))
    (in_flat (frames_of set) f 0 p.header.groups group
    (below_told set sound p.header.groups told group p opened) group_is)

kept_by : (set : KeptSet) (p : Packets) (number : ℕ) (o : Option (List ℕ)) (f : Fields)
    → open_group set p.header.group ≡ Some p → slot_at p number ≡ o
    → option_map (fields_with p.header number) o ≡ Some f
    → payload_of set f.group f.number ≡ Some f.payload
kept_by set p number None f opened at is = absurd (cc)
kept_by set p number (Some payload) f opened at is =
    subst (λ (t : Fields). payload_of set t.group t.number ≡ Some t.payload)
    (same_Some (fields_with p.header number payload) f is)
    (ap (option_and_then (λ (q : Packets). slot_at q number)) opened ∙ at)

-- and each of them is kept
pub frames_kept : (set : KeptSet) → IsKeptSet set
    → All (λ f. payload_of set f.group f.number ≡ Some f.payload) (frames_in set)
frames_kept set sound =
    let Q : Fields → Type 0 = λ f. payload_of set f.group f.number ≡ Some f.payload in
    all_flat Q (λ (e : ℕ × Packets). frames_in_group e.1) set.groups
    (λ i d l.
    let e = get_or set.groups i d in
    let opened = all_found set.groups sound.rising i d l in
    let g = sound.groups e.0 e.1 opened in
    let at : open_group set e.1.header.group ≡ Some e.1 = ap (open_group set) g.same_group ∙ opened in
    all_kept Q (frame_at e.1) (range_with_len 0 (length e.1.slots))
    (λ number f is. kept_by set e.1 number (slot_at e.1 number) f at refl is))
