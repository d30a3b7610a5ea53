use Rattle.std.proofs.Common.{Option, Err, sym, ap, subst}
use Rattle.pet_base.specs.Lent.{seen}
use Rattle.pet_text.specs.KeepWords.{keep_words_of}
use Rattle.pet_text.specs.Words.{texts_of}
use Rattle.pet_text.specs.declared.keep_words.KeepWords.{KeepWords}
use Rattle.pet_text.specs.declared.words.WordsFault.{WordsFault}
use Rattle.pet_keep.specs.Journaled.{disk_now, uncounted}
use Rattle.pet_keep.specs.Runs.{DoesKeep}
use Rattle.pet_keep.proofs.Telling.{refuses}
use Rattle.pet_keep.proofs.WordsRead.{does_no_memory, runs_words}
use Rattle.pet_keep.proofs.command.end_of_words.Goals as goal

pub returns-in-Ok-clause-does : goal.returns-in-Ok-clause-does
returns-in-Ok-clause-does g c told status tells =
    let words = c.in-Ok.words in
    subst (λ (o : Option KeepWords). DoesKeep o (uncounted (seen c.args.outside.now)) told
    (disk_now g.D.Disk c.args.disk) (disk_now g.D.Disk c.keep_opened.result.1) status) (sym c.in-Ok.ensures.words)
    (runs_words words _ _ (uncounted (seen c.args.outside.now)) (uncounted (seen c.keep_opened.new.outside)) told _ _
    c.keep_opened.result.0 status c.route.ensures c.as_str-store.ensures c.keep_opened.ensures.keeps
    c.keep_opened.ensures.once tells)

pub returns-in-Err-Usage-clause-does : goal.returns-in-Err-Usage-clause-does
returns-in-Err-Usage-clause-does g c told status tells =
    subst (λ (o : Option KeepWords). DoesKeep o (uncounted (seen c.args.outside.now)) told
    (disk_now g.D.Disk c.args.disk) (disk_now g.D.Disk c.args.disk) status)
    (sym (c.in-Err-Usage.ensures.usage.0 (ap (λ (e : WordsFault). Err e) c.in-Err-Usage.field-0-is)))
    (refuses (uncounted (seen c.args.outside.now)) told status tells)

pub returns-in-Err-NoMemory-clause-does : goal.returns-in-Err-NoMemory-clause-does
returns-in-Err-NoMemory-clause-does g c told status tells =
    let read = c.in-Err-NoMemory in
    does_no_memory (uncounted (seen c.args.outside.now)) told (disk_now g.D.Disk c.args.disk) status tells
    (keep_words_of (texts_of c.args.words.now))
    (λ none. let usage = read.ensures.usage.1 none in let is = read.field-0-is in cc)
