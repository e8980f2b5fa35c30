-- The bench table (document 01, "The bench table"; document 02, request 4), each row a list of events from reset and what is then seen.
use Rattle.std.specs.Prelude.{◌≡◌, true, false, List, [], ◌∷◌, ◌++◌, map, ℕ, replicate, take, drop}
use Rattle.xosera.specs.Adapter.{Adapter}
use Rattle.xosera.specs.Events.{Event, Answer, write, read, tick, call, run}
use Rattle.xosera.specs.Sessions.{CTRL, ANDC, XOR, MODS, SRCS, DSTD, SHIFT, LINES, WORDS, ◌is◌, blit, set_word, read_word, bench}
use Rattle.calls.specs.Sequences.{after_all, all_answers}

-- n VRAM words from an address on, after some events.
abbrev pub seen : ℕ → ℕ → Adapter → List Event → List ℕ
seen at n a es = take n (drop at (after_all a es).vram)

-- The numbers that events answer, their refusals, and the nibbles that they wrote.
abbrev pub told : Adapter → List Event → List ℕ
told a es = map (λ (x : Answer). x.value) (all_answers a es)

abbrev pub refused : Adapter → List Event → List ℕ
refused a es = map (λ (x : Answer). x.refusal) (all_answers a es)

abbrev pub masked : Adapter → List Event → List ℕ
masked a es = map (λ (x : Answer). x.mask) (all_answers a es)

-- A tick, the interrupt status after it, and a write that clears it.
abbrev pub tick_and_clear : List Event
tick_and_clear = call tick ∷ call (read 1 true) ∷ call (write 1 true 0x7F) ∷ []

-- What a row gives, and what it should.
infix 1 ◌gives◌
pub record Row : Type 0 where
  pub given : List ℕ
  pub should : List ℕ

abbrev pub ◌gives◌ : List ℕ → List ℕ → Row
xs gives ys = record { given = xs; should = ys }

-- n VRAM words from 0 on, after a blit of up to 9 words; source words stand at 0x10.
abbrev pub blitted : List ℕ → ℕ → List Event → List ℕ
blitted ws n named = seen 0 n (bench ws) (blit named ++ run 9 ∷ [])

-- The rows, in the papers' order. CTRL 1 makes a constant; sources need a place that is no target, 0x10.

-- `SHIFT` 7801, 3 words 1234 5678 9ABC.
abbrev pub shifted_copy : Row
shifted_copy = blitted (0x1234 ∷ 0x5678 ∷ 0x9ABC ∷ []) 3 (SRCS is 0x10 ++ SHIFT is 0x7801 ++ WORDS is 2) gives 0xF123 ∷ 0x4567 ∷ 0x8FFF ∷ []

-- Constant 0F3C, `ANDC` 00FF, `XOR` 1111.
abbrev pub constant_result : Row
constant_result = blitted [] 1 (CTRL is 1 ++ SRCS is 0x0F3C ++ ANDC is 0x00FF ++ XOR is 0x1111 ++ WORDS is 0) gives 0x1E11 ∷ []

-- Constant 0B0A, `CTRL` 0A11.
abbrev pub colour_nibbles : Row
colour_nibbles = blitted [] 1 (SRCS is 0x0B0A ++ CTRL is 0x0A11 ++ WORDS is 0) gives 0xFBFF ∷ []

-- Same, `CTRL` 0A31.
abbrev pub colour_bytes : Row
colour_bytes = blitted [] 1 (SRCS is 0x0B0A ++ CTRL is 0x0A31 ++ WORDS is 0) gives 0x0BFF ∷ []

-- One word, constant 1234, `SHIFT` 7E00.
abbrev pub one_word_line : Row
one_word_line = blitted [] 1 (CTRL is 1 ++ SRCS is 0x1234 ++ SHIFT is 0x7E00 ++ WORDS is 0) gives 0xF23F ∷ []

-- Constant 7, `MOD_S` 1, 3 lines of 1.
abbrev pub constant_mods : Row
constant_mods = blitted [] 3 (CTRL is 1 ++ SRCS is 7 ++ MODS is 1 ++ LINES is 2 ++ WORDS is 0) gives 0x0007 ∷ 0x0008 ∷ 0x0009 ∷ []

-- Source 0x10 holds A, target 0x11, 3 words.
abbrev pub overlapping_copy : Row
overlapping_copy = seen 0x11 3 (bench (0xA ∷ [])) (blit (SRCS is 0x10 ++ DSTD is 0x11 ++ WORDS is 2) ++ run 9 ∷ []) gives 0xA ∷ 0xA ∷ 0xA ∷ []

-- Nibble mask 2, data write 1234.
abbrev pub nibble_mask : Row
nibble_mask = seen 0 1 (bench []) (set_word 0 2 ++ set_word 10 0x1234) gives 0xFF3F ∷ []

-- 5 holds BEEF, read address 5, store 0 at 5, read.
abbrev pub buffered_read : Row
buffered_read =
    told (after_all (bench []) (set_word 9 5 ++ set_word 10 0xBEEF ++ set_word 7 5 ++ set_word 9 5 ++ set_word 10 0)) (read_word 10) gives 0xBE ∷ 0xEF ∷ []

-- Write address FFFF, step 1; 1, step FFFE.
abbrev pub address_wraps : Row
address_wraps =
    told (after_all (bench []) (set_word 8 1 ++ set_word 9 0xFFFF ++ set_word 10 0)) (read_word 9)
    ++ told (after_all (bench []) (set_word 8 0xFFFE ++ set_word 9 1 ++ set_word 10 0)) (read_word 9) gives 0x00 ∷ 0x00 ∷ 0xFF ∷ 0xFF ∷ []

-- Timer 00FF, high read, tick, low read.
abbrev pub timer_byte : Row
timer_byte =
    told (after_all (bench []) (replicate 0xFF (call tick))) (call (read 2 false) ∷ call tick ∷ call (read 2 true) ∷ []) gives 0x00 ∷ 0 ∷ 0xFF ∷ []

-- Countdown 2: bit 5 at ticks 2 and 4.
abbrev pub countdown_of_two : Row
countdown_of_two =
    told (after_all (bench []) (set_word 2 2)) (tick_and_clear ++ tick_and_clear ++ tick_and_clear ++ tick_and_clear)
    gives 0 ∷ 0 ∷ 0 ∷ 0 ∷ 32 ∷ 0 ∷ 0 ∷ 0 ∷ 0 ∷ 0 ∷ 32 ∷ 0 ∷ []

-- `LINES` 8000: one line.
abbrev pub lines_mod32768 : Row
lines_mod32768 = told (after_all (bench []) (blit (LINES is 0x8000 ++ WORDS is 0))) (run 9 ∷ []) gives 1 ∷ []

-- 3 words running, 2 queued, run 4: count 4, busy, not full, bit 6. After reset XM_SYS_CTRL also reads bit 11 (document 02, request 3).
abbrev pub queued_run : Row
queued_run =
    told (after_all (bench []) (blit (WORDS is 2 ++ WORDS is 1))) (run 4 ∷ call (read 0 false) ∷ call (read 1 true) ∷ []) gives 4 ∷ 0x28 ∷ 0x40 ∷ []

-- Queued, then write `ANDC`: refusal 5, write address as before.
abbrev pub full_blitter : Row
full_blitter =
    refused (after_all (bench []) (blit (WORDS is 0 ++ WORDS is 0))) (ANDC is 0)
    ++ told (after_all (bench []) (blit (WORDS is 0 ++ WORDS is 0) ++ ANDC is 0)) (read_word 4) gives 0 ∷ 0 ∷ 0 ∷ 5 ∷ 0x00 ∷ 0x41 ∷ []

-- Document 02, request 4: shift 1, two lines of one word, sources 1234 and 5678, masks open.
abbrev pub shifted_lines : Row
shifted_lines =
    blitted (0x1234 ∷ 0x5678 ∷ []) 2 (SRCS is 0x10 ++ SHIFT is 0xFF01 ++ LINES is 1 ++ WORDS is 0) gives 0x0123 ∷ 0x4567 ∷ []

abbrev pub table : List Row
table =
    shifted_copy ∷ constant_result ∷ colour_nibbles ∷ colour_bytes ∷ one_word_line ∷ constant_mods ∷ overlapping_copy ∷ nibble_mask
    ∷ buffered_read ∷ address_wraps ∷ timer_byte ∷ countdown_of_two ∷ lines_mod32768 ∷ queued_run ∷ full_blitter
    ∷ shifted_lines ∷ []

-- Every row gives what it should.
abbrev pub TableHolds : Type 0
TableHolds = map (λ (r : Row). r.given) table ≡ map (λ (r : Row). r.should) table
