use Rattle.std.proofs.Common.{Option, Err, sym, ap, subst}
use Rattle.pet_text.specs.declared.words.WordsFault.{WordsFault}
use Rattle.pet_base.specs.Lent.{seen}
use Rattle.pet_text.specs.Words.{texts_of, command_of}
use Rattle.pet_text.specs.declared.words.Command.{Command}
use Rattle.pet_text.specs.laws.WordLaws.{in_form}
use Rattle.pet_tool.specs.Commands.{Does}
use Rattle.pet_tool.proofs.Owed.{does_no_memory}
use Rattle.pet_tool.proofs.Telling.{refuses}
use Rattle.pet_tool.proofs.top.end_of_words.Goals as goal

pub returns-in-Ok-clause-does : goal.returns-in-Ok-clause-does
returns-in-Ok-clause-does g c told status tells =
    subst (λ (o : Option Command). Does o (seen c.args.outside.now) told status) (sym c.in-Ok.ensures.command)
    (c.run_command.ensures.ends.does told status tells)

pub returns-in-Err-Usage-clause-does : goal.returns-in-Err-Usage-clause-does
returns-in-Err-Usage-clause-does g c told status tells =
    subst (λ (o : Option Command). Does o (seen c.args.outside.now) told status)
    (sym (c.in-Err-Usage.ensures.usage.0 (ap (λ (e : WordsFault). Err e) c.in-Err-Usage.field-0-is)))
    (refuses (seen c.args.outside.now) told status tells)

pub returns-in-Err-NoMemory-clause-does : goal.returns-in-Err-NoMemory-clause-does
returns-in-Err-NoMemory-clause-does g c told status tells =
    let read = c.in-Err-NoMemory in
    does_no_memory (seen c.args.outside.now) told status tells (command_of (texts_of c.args.words.now))
    (λ none. let usage = read.ensures.usage.1 none in let is = read.field-0-is in cc)

pub run_command-requires : goal.run_command-requires
run_command-requires g c = record { form = in_form _ (texts_of c.args.words.now) c.in-Ok.ensures.command }
