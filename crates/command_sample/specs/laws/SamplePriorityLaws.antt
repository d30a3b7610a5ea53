-- What callers know of the priority file of `sample`: it is accepted, and what it stands for.
use Rattle.std.proofs.Common.{◌≡◌, ℕ, List, [], ◌∷◌, true, length, None, Some, refl}
use Rattle.std.specs.Prelude.{codes, pos}
use Rattle.std.specs.Float.Numeral.{scan_numeral}
use Rattle.std.specs.Str.{is_utf8, chars}
use Rattle.toml.specs.Data.{Data, string, integer, array, table, Items, no_items, item, Members, no_members, member}
use Rattle.toml.specs.Parse.{parse_document, lines, skip_bom, line, expression, key_equals, val, atom, items}
use Rattle.toml.specs.Parse.{header_key, after_element}
use Rattle.toml.specs.Tables.{along_header, along_dots, at_key, define}
use Rattle.toml_parser.specs.Lexical.{skip_from, skip_ws}
use Rattle.toml_parser.specs.Numbers.{unquoted, word_len, word_value, number, plain_number, decimal_number}
use Rattle.toml_parser.specs.Numbers.{underscore_fits}
use Rattle.toml_parser.specs.Strings.{key_after, simple_key, quoted, one_line, body, special}
use Rattle.priority_file.specs.Priority.{Rule, Priorities}
use Rattle.priority_file.specs.Refusals.{refusal_of, priorities_of}
use Rattle.command_sample.specs.SamplePriority.{layer_lines, sample_priority}

-- what the text is as TOML: a layer, and the whole
abbrev layer_table : List ℕ → Items → ℕ → Data
layer_table name kinds need =
    table
    (member (codes "kinds") (array kinds)
    (member (codes "name") (string name) (member (codes "need") (integer (pos need)) no_members)))

abbrev sample_document : Members
sample_document =
    member (codes "layer") (array
    (item (layer_table (codes "base") (item (string (codes "head")) (item (string (codes "I")) no_items)) 60)
    (item (layer_table (codes "P") (item (string (codes "P")) no_items) 80)
    (item (layer_table (codes "B") (item (string (codes "B")) no_items) 95) no_items))))
    (member (codes "packets") (integer (pos 100)) no_members)

pub priority_length : length sample_priority ≡ 160
unfolding sample_priority layer_lines
priority_length = refl

is_text : is_utf8 sample_priority ≡ true
unfolding is_utf8 chars lib.Utf8.encode sample_priority layer_lines
is_text = refl

parsed : parse_document sample_priority ≡ Some sample_document
unfolding sample_priority layer_lines parse_document lines skip_bom line expression key_equals val atom items header_key after_element along_header along_dots at_key define skip_from skip_ws unquoted word_len word_value number plain_number decimal_number underscore_fits key_after simple_key quoted one_line body special scan_numeral
parsed = refl

abbrev rule : List ℕ → ℕ → ℕ → Rule
rule name kinds need = record { name = name; kinds = kinds; need = need }

-- Headers, I pictures and those of a DC picture are in the first layer, of which the bits are 0, 1 and 4; P and B
-- pictures are in the second and in the third.
abbrev pub sample_rules : Priorities
sample_rules = record {
  packets = 100;
  layers = rule (codes "base") 19 60 ∷ rule (codes "P") 4 80 ∷ rule (codes "B") 8 95 ∷ [];
}

pub priority_accepted : refusal_of sample_priority ≡ None
unfolding refusal_of
priority_accepted = rw (priority_length, is_text, parsed) refl

pub priorities_are : priorities_of sample_priority ≡ sample_rules
unfolding priorities_of
priorities_are = rw (is_text, parsed) refl
