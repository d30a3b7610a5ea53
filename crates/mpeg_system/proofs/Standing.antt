-- What was taken and put so far, and a portion more.
use Rattle.std.proofs.Common.{◌≡◌, ℕ, ◌≤◌, true, List, [], ◌++◌, take, length, sym, ◌∙◌, ap, subst, arith}
use Rattle.std.specs.Prelude.{Option}
use Rattle.std.specs.Io.KnownBytes.{prepend_known}
use Rattle.std.proofs.lemmas.List.{append-nil, length-append}
use Rattle.pet_base.proofs.Filled.{prepend-prepend}
use Rattle.pet_base.specs.Seen.{Seen, Grows, KeepsInput, OnlyReads}
use Rattle.pet_base.specs.laws.SeenLaws.{Grows-nil, KeepsNames-same, KeepsNames-then, OnlyReads-KeepsNames}
use Rattle.outside_files.specs.Portions.{IsNoPortion}
use Rattle.outside_files.specs.laws.InputLaws.{prepend_none}
use Rattle.outside_files.specs.laws.OutputLaws.{puts_then, part_of_back}
use Rattle.outside_files.specs.laws.PartLaws.{part_whole}
use Rattle.mpeg_system.specs.Unwrapping.{IsFrontOf}
use Rattle.mpeg_system.specs.inside.Feeding.{Stands, HasBegun}
use Rattle.mpeg_system.specs.laws.VideoLaws.{video_short}

pub stands_first : (s : Seen) → Stands s s [] []
stands_first s =
    record {
      rest = prepend_none s.rest;
      put = Grows-nil s.target s.files;
      names = KeepsNames-same s;
      later = omega arith;
    }

pub stands_read : (first before after : Seen) (stream given portion : List ℕ) → Stands first before stream given
    → before.rest ≡ prepend_known portion after.rest → OnlyReads before after → before.faults ≤ after.faults
    → Stands first after (stream ++ portion) given
stands_read first before after stream given portion s step others later = record {
  rest = s.rest ∙ (ap (prepend_known stream) step ∙ prepend-prepend stream portion after.rest);
  put = subst (λ f. Grows first.target given first.files f) (sym others.files) s.put;
  names = KeepsNames-then first before after s.names (OnlyReads-KeepsNames before after others);
  later = (let l = s.later in omega arith);
}

pub stands_put : (first before after : Seen) (stream given more : List ℕ) → Stands first before stream given
    → Grows before.target more before.files after.files → KeepsInput before after → after.target ≡ before.target
    → after.has_output ≡ true → before.has_output ≡ true → before.faults ≤ after.faults
    → Stands first after stream (given ++ more)
stands_put first before after stream given more s grows input target out was later = record {
  rest = s.rest ∙ ap (prepend_known stream) (sym input.rest);
  put = puts_then given more first before after s.names.target s.put grows;
  names =
      KeepsNames-then first before after s.names
      (record { source = input.source; target = target; has_input = input.has_input; has_output = out ∙ sym was });
  later = (let l = s.later in omega arith);
}

-- where no portion came
pub stands_end : (first before after : Seen) (stream given : List ℕ) (left : Option ℕ) → Stands first before stream given
    → IsNoPortion left before after → OnlyReads before after → before.faults ≤ after.faults
    → Stands first after stream given
stands_end first before after stream given left s none others later =
    subst (λ l. Stands first after l given) (append-nil stream)
    (stands_read first before after stream given [] s (none.same ∙ prepend_none after.rest) others later)

-- where a call failed
pub begun_reading : (id : ℕ) (first before after : Seen) (stream given : List ℕ) → Stands first before stream given
    → ((rest : List ℕ) → IsFrontOf id (stream ++ rest) given) → OnlyReads before after → before.faults ≤ after.faults
    → HasBegun id first after
begun_reading id first before after stream given s front others later = record {
  stream = stream;
  given = given;
  left = before.rest;
  rest = s.rest;
  front = front;
  put = part_whole given first after (subst (λ f. Grows first.target given first.files f) (sym others.files) s.put);
  later = (let l = s.later in omega arith);
}

pub begun_putting : (id : ℕ) (first before after : Seen) (stream given more : List ℕ) (k : ℕ)
    → Stands first before stream given → ((rest : List ℕ) → IsFrontOf id (stream ++ rest) (given ++ more))
    → Grows before.target (take k more) before.files after.files → before.faults ≤ after.faults
    → HasBegun id first after
begun_putting id first before after stream given more k s front grows later = record {
  stream = stream;
  given = given ++ more;
  left = before.rest;
  rest = s.rest;
  front = front;
  put = part_of_back k given more first before after s.names.target s.put grows;
  later = (let l = s.later in omega arith);
}

-- no more is given than was read
pub given_short : (id : ℕ) (stream given : List ℕ) → ((rest : List ℕ) → IsFrontOf id (stream ++ rest) given)
    → length given ≤ length stream
given_short id stream given front =
    let here = front [] in
    let short = video_short id (stream ++ []) in
    omega (arith, short, ap length here.1, length-append given here.0, length-append stream [])
