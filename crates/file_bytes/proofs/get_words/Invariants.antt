-- The first i words are those of the bytes.
use Rattle.std.proofs.Common.{◌≡◌, take}
use Rattle.saved_file.specs.SavedFile.{words_of}
use Rattle.file_bytes.proofs.get_words.Given as goal

abbrev pub invariant-loop-i : goal.invariant-loop-i
invariant-loop-i l = take l.i l.words ≡ take l.i (words_of l.part)
