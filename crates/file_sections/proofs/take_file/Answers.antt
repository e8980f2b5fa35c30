-- Each section becomes the words of its part.
use mathlib.Core.Path.{refl}
use Prim.Native.Nat.{◌-◌}
use native.Mathlib.Omega.{arith}
use lib.ListN.{length, drop, length-drop}
use lib.Seq.{take_all}
use Rattle.saved_file.specs.SavedFile.{held}
use Rattle.file_sections.proofs.take_file.Goals as goal

pub returns : goal.returns
unfolding held
returns c =
    let file = c.args.file.now in
    let part = rw c.unwrap.ensures at c.as_array.ensures.cases in
    let behind = take_all (length file - 13490) (drop 13490 file) (omega (arith, length-drop 13490 file)) in
    rw (c.get_state.ensures, part.same, c.get_words.ensures, c.get_words-2.ensures, behind) refl
