-- Two bytes for each of i words.
use Rattle.std.proofs.Common.{◌≡◌, ◌*◌, take}
use Rattle.saved_file.specs.SavedFile.{bytes_of}
use Rattle.file_bytes.proofs.put_words.Given as goal

abbrev pub invariant-loop-i : goal.invariant-loop-i
invariant-loop-i l = take (2 * l.i) l.part ≡ bytes_of (take l.i l.words)
