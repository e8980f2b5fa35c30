-- The rows of the bench table, a field each (document 01, "The bench table"; document 02, request 4), in the papers' order: each row a list of events from
-- reset, through the whole calls, and what is then seen. CTRL 1 makes a constant; sources need a place that is no target, 0x10.
use Rattle.std.specs.Prelude.{◌≡◌, true, false, List, [], ◌∷◌, ◌++◌, replicate}
use Rattle.xosera.specs.Events.{Event, write, read, tick, call, run}
use Rattle.xosera.specs.Sessions.{CTRL, ANDC, XOR, MODS, SRCS, DSTD, SHIFT, LINES, WORDS, ◌is◌, blit, blit_and_run}
use Rattle.xosera.specs.Sessions.{set_word, read_word, bench, seen, values_of, refusals_of}
use Rattle.calls.specs.Sequences.{after_all, all_answers}

-- A tick, the interrupt status after it, and a write that clears it.
abbrev pub tick_and_clear : List Event
tick_and_clear = call tick ∷ call (read 1 true) ∷ call (write 1 true 0x7F) ∷ []

pub record BenchRows : Type 0 where
  -- `SHIFT` 7801, 3 words 1234 5678 9ABC.
  pub shifted_copy :
      seen 0 3 (after_all (bench (0x1234 ∷ 0x5678 ∷ 0x9ABC ∷ [])) (blit_and_run (SRCS is 0x10 ++ SHIFT is 0x7801 ++ WORDS is 2)))
      ≡ 0xF123 ∷ 0x4567 ∷ 0x8FFF ∷ []
  -- Constant 0F3C, `ANDC` 00FF, `XOR` 1111.
  pub constant_result :
      seen 0 1 (after_all (bench []) (blit_and_run (CTRL is 1 ++ SRCS is 0x0F3C ++ ANDC is 0x00FF ++ XOR is 0x1111 ++ WORDS is 0))) ≡ 0x1E11 ∷ []
  -- Constant 0B0A, `CTRL` 0A11.
  pub colour_nibbles : seen 0 1 (after_all (bench []) (blit_and_run (SRCS is 0x0B0A ++ CTRL is 0x0A11 ++ WORDS is 0))) ≡ 0xFBFF ∷ []
  -- Same, `CTRL` 0A31.
  pub colour_bytes : seen 0 1 (after_all (bench []) (blit_and_run (SRCS is 0x0B0A ++ CTRL is 0x0A31 ++ WORDS is 0))) ≡ 0x0BFF ∷ []
  -- One word, constant 1234, `SHIFT` 7E00.
  pub one_word_line :
      seen 0 1 (after_all (bench []) (blit_and_run (CTRL is 1 ++ SRCS is 0x1234 ++ SHIFT is 0x7E00 ++ WORDS is 0))) ≡ 0xF23F ∷ []
  -- Constant 7, `MOD_S` 1, 3 lines of 1.
  pub constant_mods :
      seen 0 3 (after_all (bench []) (blit_and_run (CTRL is 1 ++ SRCS is 7 ++ MODS is 1 ++ LINES is 2 ++ WORDS is 0)))
      ≡ 0x0007 ∷ 0x0008 ∷ 0x0009 ∷ []
  -- Source 0x10 holds A, target 0x11, 3 words.
  pub overlapping_copy :
      seen 0x11 3 (after_all (bench (0xA ∷ [])) (blit_and_run (SRCS is 0x10 ++ DSTD is 0x11 ++ WORDS is 2))) ≡ 0xA ∷ 0xA ∷ 0xA ∷ []
  -- Nibble mask 2, data write 1234.
  pub nibble_mask : seen 0 1 (after_all (bench []) (set_word 0 2 ++ set_word 10 0x1234)) ≡ 0xFF3F ∷ []
  -- 5 holds BEEF, read address 5, store 0 at 5, read.
  pub buffered_read :
      values_of (all_answers (after_all (bench []) (set_word 9 5 ++ set_word 10 0xBEEF ++ set_word 7 5 ++ set_word 9 5 ++ set_word 10 0)) (read_word 10))
      ≡ 0xBE ∷ 0xEF ∷ []
  -- Write address FFFF, step 1; 1, step FFFE.
  pub address_wraps :
      values_of (all_answers (after_all (bench []) (set_word 8 1 ++ set_word 9 0xFFFF ++ set_word 10 0)) (read_word 9))
      ++ values_of (all_answers (after_all (bench []) (set_word 8 0xFFFE ++ set_word 9 1 ++ set_word 10 0)) (read_word 9))
      ≡ 0x00 ∷ 0x00 ∷ 0xFF ∷ 0xFF ∷ []
  -- Timer 00FF, high read, tick, low read.
  pub timer_byte :
      values_of (all_answers (after_all (bench []) (replicate 0xFF (call tick))) (call (read 2 false) ∷ call tick ∷ call (read 2 true) ∷ []))
      ≡ 0x00 ∷ 0 ∷ 0xFF ∷ []
  -- Countdown 2: bit 5 at ticks 2 and 4.
  pub countdown_of_two :
      values_of (all_answers (after_all (bench []) (set_word 2 2)) (tick_and_clear ++ tick_and_clear ++ tick_and_clear ++ tick_and_clear))
      ≡ 0 ∷ 0 ∷ 0 ∷ 0 ∷ 32 ∷ 0 ∷ 0 ∷ 0 ∷ 0 ∷ 0 ∷ 32 ∷ 0 ∷ []
  -- `LINES` 8000: one line.
  pub lines_mod32768 : values_of (all_answers (after_all (bench []) (blit (LINES is 0x8000 ++ WORDS is 0))) (run 9 ∷ [])) ≡ 1 ∷ []
  -- 3 words running, 2 queued, run 4: count 4, busy, not full, bit 6. After reset XM_SYS_CTRL also reads bit 11 (document 02, request 3).
  pub queued_run :
      values_of (all_answers (after_all (bench []) (blit (WORDS is 2 ++ WORDS is 1))) (run 4 ∷ call (read 0 false) ∷ call (read 1 true) ∷ []))
      ≡ 4 ∷ 0x28 ∷ 0x40 ∷ []
  -- Queued, then write `ANDC`: refusal 5, write address as before.
  pub full_blitter :
      refusals_of (all_answers (after_all (bench []) (blit (WORDS is 0 ++ WORDS is 0))) (ANDC is 0))
      ++ values_of (all_answers (after_all (bench []) (blit (WORDS is 0 ++ WORDS is 0) ++ ANDC is 0)) (read_word 4))
      ≡ 0 ∷ 0 ∷ 0 ∷ 5 ∷ 0x00 ∷ 0x41 ∷ []
  -- Document 02, request 4: shift 1, two lines of one word, sources 1234 and 5678, masks open.
  pub shifted_lines :
      seen 0 2 (after_all (bench (0x1234 ∷ 0x5678 ∷ [])) (blit_and_run (SRCS is 0x10 ++ SHIFT is 0xFF01 ++ LINES is 1 ++ WORDS is 0)))
      ≡ 0x0123 ∷ 0x4567 ∷ []
