-- What callers know of a command that words give: it has what its form asks, and writes no file that it names twice.
use Rattle.std.proofs.Common.{◌≡◌, ℕ, ◌<◌, ◌≤◌, Bool, true, false, cond, List, Option, None, Some, refl, subst, arith}
use Rattle.std.specs.Prelude.{not, ◌&&◌, nat_le}
use Rattle.std.specs.Str.{bytes_eq}
use Rattle.std.proofs.lemmas.Bool.{and_parts, leb-true}
use Rattle.pet_base.specs.declared.limits.TheConstants.{MAX_SAMPLE_GROUPS}
use Rattle.pet_text.specs.declared.end.End.TheVariants.{File}
use Rattle.pet_text.specs.declared.words.Command.{Command}
use Rattle.pet_text.specs.declared.words.Command.TheVariants.{Sample, Unwrap}
use Rattle.pet_text.specs.Words.{spelled, command_of, has_names, has_numbers, writes_others, has_form, if_formed, other_end}

-- the command of words has what its form asks
pub in_form : (command : Command) (words : List (List ℕ)) → command_of words ≡ Some command → has_form command ≡ true
in_form command words is = by (spelled words) is
  where
    met : (t : Bool) (c : Command) → has_form c ≡ t → cond t (Some c) None ≡ Some command → has_form command ≡ true
    met true c form is =
        let same : c ≡ command = cc in subst (λ (c : Command). has_form c ≡ true) same form
    met false c form is = absurd (cc)

    by : (o : Option Command) → if_formed o ≡ Some command → has_form command ≡ true
    by None is = absurd (cc)
    by (Some c) is = met (has_form c) c refl is

-- its names, and its numbers
module _ (command : Command) (form : has_form command ≡ true) where
  pub named : has_names command ≡ true
  named = (and_parts (has_names command) (writes_others command && has_numbers command) form).0

  rest : (writes_others command && has_numbers command) ≡ true
  rest = (and_parts (has_names command) (writes_others command && has_numbers command) form).1

  pub others : writes_others command ≡ true
  others = (and_parts (writes_others command) (has_numbers command) rest).0

  pub numbers : has_numbers command ≡ true
  numbers = (and_parts (writes_others command) (has_numbers command) rest).1

-- the words of a command name no file twice that it writes
pub written_differ : (command : Command) (words : List (List ℕ)) → command_of words ≡ Some command
    → writes_others command ≡ true
written_differ command words is = others command (in_form command words is)

-- a file at an end that is another than this one
pub end_differs : (file name : List ℕ) → other_end file (File name) ≡ true → bytes_eq name file ≡ false
end_differs file name other = by (bytes_eq name file) other
  where
    by : (t : Bool) → not t ≡ true → t ≡ false
    by true is = absurd (cc)
    by false is = refl

-- the id of `unwrap` is that of a video, from E0 to EF
pub video_id : (file out : List ℕ) (id : ℕ) → has_form (Unwrap file id out) ≡ true → (0xE0 ≤ id) × (id ≤ 0xEF)
video_id file out id form =
    let both = and_parts (nat_le 0xE0 id) (nat_le id 0xEF) (numbers (Unwrap file id out) form) in
    (leb-true 0xE0 id both.0, leb-true id 0xEF both.1)

-- the groups of `sample` are from 1 to 100
pub sample_groups : (seed groups : ℕ) → has_form (Sample seed groups) ≡ true
    → (0 < groups) × (groups ≤ MAX_SAMPLE_GROUPS)
sample_groups seed groups form =
    let both = and_parts (nat_le 1 groups) (nat_le groups MAX_SAMPLE_GROUPS) (numbers (Sample seed groups) form) in
    let some = leb-true 1 groups both.0 in
    (omega (arith, some), leb-true groups MAX_SAMPLE_GROUPS both.1)
