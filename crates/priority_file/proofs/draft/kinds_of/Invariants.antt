use Rattle.priority_file.specs.Draft.{class_of}
use Rattle.priority_file.proofs.EachRead.{HasRead}
use Rattle.priority_file.proofs.draft.kinds_of.Given as goal

abbrev pub invariant-loop-word : goal.invariant-loop-word
invariant-loop-word l = HasRead class_of l.words l.word-index l.kinds.items
