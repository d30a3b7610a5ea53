-- What the words of `pet-keep` name, where its texts still stand in them.
use Rattle.pet_text.specs.declared.keep_words.KeepForm.{KeepForm}
use Rattle.pet_text.specs.declared.keep_words.KeepWords.{KeepWords}
use Rattle.pet_text.specs.Ends.{end_in}

abbrev pub keep_in : KeepForm → KeepWords
keep_in form = record {
  from = end_in form.from;
  session = form.session;
  journal = form.journal.now;
  store = form.store.now;
}
