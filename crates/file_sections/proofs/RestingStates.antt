-- States whose beam and copper are at rest: their words, and their ranges, which only registers and blitter can be out of.
use mathlib.Core.Path.{◌≡◌, refl, ap, ◌∙◌}
use mathlib.Core.Bool.{Bool, ◌&&◌, and-true}
use mathlib.Core.List.{List, [], ◌++◌}
use Prim.Native.Nat.{ℕ}
use native.Mathlib.Omega.{arith}
use borrow.Rule.Slice.PartMut.{put_mid}
use lib.ListN.{length, drop, replicate, length-drop, drop_of_length-le}
use Rattle.xosera.specs.State.{State, Beam, beam_words, state_at}
use Rattle.xosera.specs.Beam.{frame, rest}
use Rattle.xosera.specs.Ranges.{beam_in_range, copper_in_range, in_range}
use Rattle.ranges.specs.RangeParts.{registers_in_range, blitter_in_range, beam_copper_in_range}
use Rattle.ranges.proofs.AllParts.{range_parts}
use Rattle.saved_file.specs.SavedFile.{words_of, held_words}
use Rattle.saved_file.proofs.ByteLaws.{words-length}
use Rattle.saved_file.proofs.RestLaws.{body-rests}
use Rattle.file_sections.proofs.RoomLaws.{put_behind}

-- The words of a state that were read, and rest put behind them.
pub rest_behind : (bytes ws s zeros : List ℕ) → length bytes ≡ 150 → length s ≡ 79 → ws ≡ words_of bytes
    → length zeros ≡ 4 → zeros ≡ replicate (length zeros) 0 → put_mid 75 4 (ws ++ drop 75 s) zeros ≡ held_words bytes
unfolding held_words beam_words
rest_behind bytes ws s zeros h l e size fill =
    let none : drop 4 (drop 75 s) ≡ [] = drop_of_length-le (drop 75 s) {i = 4} (omega (arith, length-drop 75 s)) in
    put_behind ws (drop 75 s) zeros 75 4 (omega (arith, words-length bytes 75, ap length e)) ∙ rw (fill, size, none, e) refl

rest-in-range : (s : State) → s.beam ≡ rest → in_range s ≡ (registers_in_range s && blitter_in_range s)
unfolding beam_copper_in_range beam_in_range copper_in_range
rest-in-range s rests =
    let within = ap (λ (b : Beam). beam_in_range frame b && copper_in_range s.video.coppctrl b) rests in
    range_parts s
    ∙ ap (λ (b : Bool). registers_in_range s && blitter_in_range s && b) within
    ∙ and-true (registers_in_range s && blitter_in_range s)

pub held_in_range : (body : List ℕ) → length body ≡ 150
    → in_range (state_at (held_words body))
    ≡ (registers_in_range (state_at (held_words body)) && blitter_in_range (state_at (held_words body)))
held_in_range body size = rest-in-range (state_at (held_words body)) (body-rests body size)
