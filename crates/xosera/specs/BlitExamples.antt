-- Worked examples of the blitter, of what the bench table does not tell apart. No event in them is refused.
use Rattle.std.specs.Prelude.{◌≡◌, true, false, List, [], ◌∷◌, ◌++◌, map, ℕ}
use Rattle.xosera.specs.Adapter.{Adapter, state_of, adapter}
use Rattle.xosera.specs.Blitter.{moved, stepped}
use Rattle.xosera.specs.Events.{Event, write, read, call, step, run}
use Rattle.xosera.specs.Ranges.{in_range, reset_state}
use Rattle.xosera.specs.Acts.{all_done, all_given}
use Rattle.xosera.specs.Sessions.{CTRL, ANDC, XOR, MODS, SRCS, MODD, DSTD, SHIFT, LINES, WORDS, ◌is◌, blit, blit_and_run, bench, seen, values_of, masks_of}

-- An adapter inside a blit of two lines of two words at shift 1, by line, word, CTRL and kept word, with one VRAM word, 0x5678;
-- and the kept word after a step.
abbrev pub under_way : ℕ → ℕ → ℕ → ℕ → Adapter
under_way l w ctrl kept = moved (adapter reset_state [] []) (record {
  running = 1;
  line = l;
  word = w;
  kept = kept;
  regs = record { ctrl = ctrl; andc = 0; xor = 0; mods = 0; srcs = 0; modd = 0; dstd = 0; shift = 0xFF01; lines = 1; words = 1 };
}) (0x5678 ∷ [])

abbrev pub kept_after : Adapter → ℕ
kept_after a = (stepped a).engine.kept

-- A blit of one word, the constant 0x1234 to 0, and a second one queued behind it, 0x5678 to 2.
abbrev pub two_blits : Adapter
two_blits = all_done (bench []) (blit (CTRL is 1 ++ SRCS is 0x1234 ++ WORDS is 0 ++ SRCS is 0x5678 ++ DSTD is 2 ++ WORDS is 0))

-- A copy of three words whose edges are trimmed, as in the bench table's first row; and behind it, queued, one of one word.
abbrev pub edged_copy : List Event
edged_copy = SRCS is 0x10 ++ SHIFT is 0x7801 ++ WORDS is 2

abbrev pub edged_twice : Adapter
edged_twice = all_done (bench []) (edged_copy ++ SHIFT is 0x6300 ++ WORDS is 0)

pub record BlitExamples : Type 0 where
  -- The nibbles pushed off a line's end enter at the left of the next, those of the word taken last, whatever MOD_S passes over;
  -- MOD_S and MOD_D are added after a line.
  pub line_after_line :
      seen 0 4 (all_done (bench (0x1234 ∷ 0x5678 ∷ 0x9ABC ∷ []))
      (blit_and_run (SRCS is 0x10 ++ MODS is 1 ++ MODD is 2 ++ SHIFT is 0xFF01 ++ LINES is 1 ++ WORDS is 0)))
      ≡ 0x0123 ∷ 0xFFFF ∷ 0xFFFF ∷ 0x49AB ∷ []
  -- A blit starts with an empty shifter, the queued one too.
  pub blit_after_blit :
      seen 0 2 (all_done (bench (0x1234 ∷ 0x5678 ∷ []))
      (SRCS is 0x10 ++ SHIFT is 0xFF01 ++ WORDS is 0 ++ SRCS is 0x11 ++ DSTD is 1 ++ WORDS is 0 ++ run 9 ∷ []))
      ≡ 0x0123 ∷ 0x0567 ∷ []
  -- The kept word after a step: the word taken, at the end of a line too; none of a constant, none at a blit's end.
  pub kept_words :
      map kept_after (under_way 0 0 0 0 ∷ under_way 0 1 0 0x1234 ∷ under_way 1 0 0 0x1234 ∷ under_way 0 1 1 0x1234 ∷ under_way 1 1 0 0x1234 ∷ [])
      ≡ 0x5678 ∷ 0x5678 ∷ 0x5678 ∷ 0 ∷ 0 ∷ []
  -- Any kept word is in range, with a constant too, except on a blit's first word.
  pub kept_range :
      map (λ (a : Adapter). in_range (state_of a))
      (under_way 0 0 0 0 ∷ under_way 0 0 0 1 ∷ under_way 0 1 0 0xFFFF ∷ under_way 1 0 0 0xFFFF ∷ under_way 1 1 1 0xFFFF ∷ [])
      ≡ true ∷ false ∷ true ∷ true ∷ true ∷ []
  -- The colour test is on S, not on the result.
  pub colour_of_source :
      seen 0 1 (all_done (bench []) (blit_and_run (SRCS is 0x0B0A ++ CTRL is 0x0A11 ++ XOR is 0x1111 ++ WORDS is 0))) ≡ 0xFAFF ∷ []
  -- And not on the word before it is shifted.
  pub colour_of_shifted :
      seen 0 2 (all_done (bench (0x1234 ∷ 0x5678 ∷ [])) (blit_and_run (SRCS is 0x10 ++ CTRL is 0x0210 ++ SHIFT is 0xFF01 ++ WORDS is 1)))
      ≡ 0xF123 ∷ 0x4567 ∷ []
  -- A constant is not shifted, and ANDC and XOR stay from word to word; MOD_S is added to a constant too.
  pub constant_unshifted :
      seen 0 4 (all_done (bench [])
      (blit_and_run (CTRL is 1 ++ SRCS is 0x1234 ++ ANDC is 0x0F00 ++ XOR is 0x1111 ++ MODS is 1 ++ SHIFT is 0xFF01 ++ LINES is 1 ++ WORDS is 1)))
      ≡ 0x0125 ∷ 0x0125 ∷ 0x0124 ∷ 0x0124 ∷ []
  -- CTRL bits 7:5 and 3:1 without bit 4, and SHIFT bits 7:2, are without effect.
  pub unused_bits :
      seen 0 2 (all_done (bench (0x1234 ∷ 0x5678 ∷ [])) (blit_and_run (SRCS is 0x10 ++ CTRL is 0x02EE ++ SHIFT is 0xFFFD ++ WORDS is 1)))
      ≡ 0x0123 ∷ 0x4567 ∷ []
  -- ANDC and XOR written after a blit's first word do not reach it.
  pub later_registers :
      seen 0 2 (all_done (bench []) (blit (CTRL is 1 ++ SRCS is 0x1234 ++ WORDS is 1) ++ run 1 ∷ ANDC is 0x00FF ++ XOR is 0x1111 ++ run 9 ∷ []))
      ≡ 0x1234 ∷ 0x1234 ∷ []
  -- A queued blit has the registers written last; busy and full, then busy, then neither, all with the beam in left blanking.
  pub queued_registers :
      seen 0 3 (all_done two_blits (run 9 ∷ []))
      ++ values_of (all_given two_blits (call (read 0 false) ∷ run 1 ∷ call (read 0 false) ∷ run 9 ∷ call (read 0 false) ∷ []))
      ≡ 0x1234 ∷ 0xFFFF ∷ 0x5678 ∷ 0x68 ∷ 1 ∷ 0x28 ∷ 1 ∷ 0x08 ∷ []
  -- A step counts 1 while words are left, and 0 on an idle engine; each blit's end sets bit 6.
  pub step_counts :
      values_of (all_given two_blits (step ∷ call (read 1 true) ∷ call (write 1 true 0x40) ∷ step ∷ call (read 1 true) ∷ step ∷ []))
      ≡ 1 ∷ 0x40 ∷ 0 ∷ 1 ∷ 0x40 ∷ 0 ∷ []
  -- Masks of steps (document 02, request 2): those of the bench table's first row, word by word, then none; both masks on a line of
  -- one word; the colour test by nibbles and by bytes.
  pub step_masks :
      masks_of (all_given (all_done (bench (0x1234 ∷ 0x5678 ∷ 0x9ABC ∷ [])) edged_copy) (step ∷ step ∷ step ∷ step ∷ []))
      ++ masks_of (all_given (all_done (bench []) (CTRL is 1 ++ SHIFT is 0x7E00 ++ WORDS is 0)) (step ∷ []))
      ++ masks_of (all_given (all_done (bench []) (blit (SRCS is 0x0B0A ++ CTRL is 0x0A11 ++ WORDS is 0))) (step ∷ []))
      ++ masks_of (all_given (all_done (bench []) (blit (SRCS is 0x0B0A ++ CTRL is 0x0A31 ++ WORDS is 0))) (step ∷ []))
      ≡ 7 ∷ 0xF ∷ 8 ∷ 0 ∷ 6 ∷ 4 ∷ 0xC ∷ []
  -- Masks of runs: of its last word, also at a blit's end and in the queued blit, and with n left over; 0 of none.
  pub run_masks :
      masks_of (all_given edged_twice (run 0 ∷ run 1 ∷ run 1 ∷ run 9 ∷ run 9 ∷ [])) ++ masks_of (all_given edged_twice (run 2 ∷ run 2 ∷ []))
      ++ masks_of (all_given edged_twice (run 3 ∷ run 1 ∷ [])) ++ masks_of (all_given edged_twice (run 4 ∷ []))
      ≡ 0 ∷ 7 ∷ 0xF ∷ 2 ∷ 0 ∷ 0xF ∷ 2 ∷ 8 ∷ 2 ∷ 2 ∷ []
