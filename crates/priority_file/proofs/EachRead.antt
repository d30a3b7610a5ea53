-- Reading the items of an array one after another.
use Rattle.std.proofs.Common.{◌≡◌, ℕ, ◌+◌, ◌<◌, ◌≤◌, List, [], ◌∷◌, ◌++◌, length, get_or, drop, Option, Some, None}
use Rattle.std.proofs.Common.{option_map, Err, refl, sym, ap, ◌∙◌, append_assoc, append-nil}
use Rattle.std.proofs.lemmas.List.{at_drop_more, at_drop_all}
use Rattle.toml.specs.Data.{Data}
use Rattle.toml.specs.declared.value.Value.{Value}
use Rattle.toml.specs.View.{view, items_view}
use Rattle.priority_file.specs.declared.fault.PriorityFault.{PriorityFault}
use Rattle.priority_file.specs.declared.fault.PriorityFault.TheVariants as fault
use Rattle.priority_file.specs.Draft.{each_of}
use Rattle.priority_file.specs.inside.Stages.{Gives}

-- the first i of the values were read as those found
abbrev pub HasRead : {A : Type 0} → (Data → Option A) → List Value → ℕ → List A → Type 0
HasRead read values i found =
    option_map (λ rest. found ++ rest) (each_of read (items_view (drop i values))) ≡ each_of read (items_view values)

front_of_nothing : {A : Type 0} (o : Option (List A)) → option_map (λ rest. [] ++ rest) o ≡ o
front_of_nothing None = refl
front_of_nothing (Some rest) = refl

one_more : {A : Type 0} (found : List A) (x : A) (o : Option (List A))
    → option_map (λ rest. (found ++ x ∷ []) ++ rest) o
    ≡ option_map (λ rest. found ++ rest) (option_map (λ rest. x ∷ rest) o)
one_more found x None = refl
one_more found x (Some rest) = ap Some (append_assoc found (x ∷ []) rest)

pub read_nothing : {A : Type 0} (read : Data → Option A) (values : List Value) (found : List A) → found ≡ []
    → HasRead read values 0 found
read_nothing read values found none = rw none (front_of_nothing (each_of read (items_view values)))

pub read_more : {A : Type 0} (read : Data → Option A) (values : List Value) (i : ℕ) (found : List A) (value : Value)
    (x : A) → i < length values → value ≡ get_or values i value → read (view value) ≡ Some x
    → HasRead read values i found → HasRead read values (i + 1) (found ++ x ∷ [])
read_more read values i found value x within is read_as before =
    let next : each_of read (items_view (drop i values))
    ≡ option_map (λ rest. x ∷ rest) (each_of read (items_view (drop (i + 1) values))) =
    at_drop_more (λ vs. each_of read (items_view vs)) values i value within ∙ rw (← is, read_as) in
    one_more found x (each_of read (items_view (drop (i + 1) values))) ∙ (rw next at before)

-- a value that cannot be read
pub unread : {A : Type 0} (read : Data → Option A) (values : List Value) (i : ℕ) (found : List A) (value : Value)
    → i < length values → value ≡ get_or values i value → read (view value) ≡ None
    → HasRead read values i found → each_of read (items_view values) ≡ None
unread read values i found value within is none before =
    let next : each_of read (items_view (drop i values)) ≡ None =
    at_drop_more (λ vs. each_of read (items_view vs)) values i value within ∙ rw (← is, none) in
    sym before ∙ rw next

-- the fault of a part is that of the whole, where the whole has no value without the part
pub fault_of_part : {X Y V W : Type 0} (view_part : X → V) (view_whole : Y → W) (f : PriorityFault) (part : Option V)
    (whole : Option W) → (part ≡ None → whole ≡ None) → Gives view_part (Err f) part → Gives view_whole (Err f) whole
fault_of_part _ _ fault.NoMemory part whole none h = tt
fault_of_part _ _ fault.WrongType part whole none h = none h
fault_of_part _ _ fault.Long part whole none h = h
fault_of_part _ _ fault.Text part whole none h = h
fault_of_part _ _ fault.UnknownKey part whole none h = h
fault_of_part _ _ fault.MissingKey part whole none h = h
fault_of_part _ _ fault.PacketsRange part whole none h = h
fault_of_part _ _ fault.NeedRange part whole none h = h
fault_of_part _ _ fault.Name part whole none h = h
fault_of_part _ _ fault.KindTwice part whole none h = h
fault_of_part _ _ fault.KindMissing part whole none h = h
fault_of_part _ _ fault.HeadNotFirst part whole none h = h
fault_of_part _ _ fault.TooManyLayers part whole none h = h

pub read_all : {A : Type 0} (read : Data → Option A) (values : List Value) (i : ℕ) (found : List A) → length values ≤ i
    → HasRead read values i found → each_of read (items_view values) ≡ Some found
read_all read values i found all before =
    sym before ∙ rw (at_drop_all (λ vs. each_of read (items_view vs)) values i all, append-nil)
