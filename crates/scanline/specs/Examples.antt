-- Worked examples of painting, for what the claims do not tell apart: which bits of a word, which edge, which register.
use Rattle.std.specs.Prelude.{◌≡◌, true, false, cond, List, [], ◌∷◌, ◌++◌, map, ℕ, ◌+◌, ◌*◌, ◌-◌, replicate}
use Rattle.scanline.specs.declared.Playfield.{Playfield}
use Rattle.xosera.specs.State.{Video, words_from}
use Rattle.xosera.specs.Beam.{frame, visible_lines}
use Rattle.xosera.specs.Adapter.{adapter_at}
use Rattle.calls.specs.Refusals.{first}
use Rattle.scanline.specs.Scanline.{playfield_a, colour_index, colour, painted}
use Rattle.scanline.specs.PaintCall.{screen_width, not_paintable, bad_line, other_width, paint_tests, paint_refusal, pixels_after}

abbrev pub memory : List ℕ
memory = 0x0123 ∷ 0x4567 ∷ 0x89AB ∷ 0xCDEF ∷ 0x1357 ∷ 0x2468 ∷ 0xFEDC ∷ 0xBA98 ∷ []

-- The first seven words: here addresses that wrap at 65,536 and those that do not are different places.
abbrev pub seven : List ℕ
seven = 0x0123 ∷ 0x4567 ∷ 0x89AB ∷ 0xCDEF ∷ 0x1357 ∷ 0x2468 ∷ 0xFEDC ∷ []

-- Registers by GFX_CTRL, the window, DISP_ADDR and LINE_LEN; the border index is 9C.
abbrev pub registers : ℕ → ℕ → ℕ → ℕ → ℕ → Playfield
registers gfx left right address length =
    record { border = 0x9C; left = left; right = right; gfx = gfx; address = record { 0 = address }; length = length }

-- The first n indices of a line.
abbrev pub indices : ℕ → Playfield → List ℕ → ℕ → List ℕ
indices n p vram line = words_from n 0 (colour_index p vram line)

-- The first index of each of n lines.
abbrev pub down : ℕ → Playfield → List ℕ → List ℕ
down n p vram = words_from n 0 (λ line. colour_index p vram line 0)

-- Video registers of 16 bits, all told apart.
abbrev pub video : Video
video = record {
  vidctrl = 0xFE9C;
  coppctrl = 0xFFF1;
  audctrl = 0xFFF2;
  vidleft = 0xFFF3;
  vidright = 0xFFF4;
  pa = words_from 7 0xFF10 (λ a. a);
  pb = words_from 7 0xFF18 (λ a. a);
}

pub record ScanlineExamples : Type 0 where
  pub taken : playfield_a video ≡ record { border = 0x9C; left = 0xFFF3; right = 0xFFF4; gfx = 0xFF10; address = record { 0 = 0xFF12 }; length = 0xFF13 }
  -- Four bits and colour base A5, window from 1 up to 7.
  pub four-bits : indices 9 (registers 0xA550 1 7 0 0) memory 0 ≡ 0x9C ∷ 0xA0 ∷ 0xA1 ∷ 0xA2 ∷ 0xA3 ∷ 0xA4 ∷ 0xA5 ∷ 0x9C ∷ 0x9C ∷ []
  -- Eight bits from word 2 on, window from 0 up to 5.
  pub eight-bits : indices 6 (registers 0xA560 0 5 2 0) memory 0 ≡ 0x89 ∷ 0xAB ∷ 0xCD ∷ 0xEF ∷ 0x13 ∷ 0x9C ∷ []
  -- Each pixel three wide, from the window's left on.
  pub three-wide : indices 10 (registers 0x0058 2 9 1 0) memory 0
      ≡ 0x9C ∷ 0x9C ∷ 0x04 ∷ 0x04 ∷ 0x04 ∷ 0x05 ∷ 0x05 ∷ 0x05 ∷ 0x06 ∷ 0x9C ∷ []
  -- Each row two lines tall, three words from row to row; and each row one line tall.
  pub two-tall : down 5 (registers 0x0051 0 1 0 3) memory ≡ 0 ∷ 0 ∷ 0xC ∷ 0xC ∷ 0xF ∷ []
  pub one-tall : down 3 (registers 0x0050 0 1 0 3) memory ≡ 0 ∷ 0xC ∷ 0xF ∷ []
  -- Rows and the words of a row go from address 0xFFFF, word 1 of seven, to address 0, word 0.
  pub rows-wrap : down 3 (registers 0x0060 0 1 0xFFFF 1) seven ≡ 0x45 ∷ 0x01 ∷ 0x45 ∷ []
  pub row-wraps : indices 5 (registers 0x0060 0 9 0xFFFF 0) seven 0 ≡ 0x45 ∷ 0x67 ∷ 0x01 ∷ 0x23 ∷ 0x45 ∷ []
  -- No window: left at or above right. A window beyond all pixels. One from 0 to the greatest number.
  pub no-window : indices 3 (registers 0x0050 1 1 0 0) memory 0 ++ indices 3 (registers 0x0050 2 1 0 0) memory 0
      ++ indices 2 (registers 0x0050 640 65535 0 0) memory 0 ++ indices 2 (registers 0x0050 0 65535 1 0) memory 0
      ≡ 0x9C ∷ 0x9C ∷ 0x9C ∷ 0x9C ∷ 0x9C ∷ 0x9C ∷ 0x9C ∷ 0x9C ∷ 0x04 ∷ 0x05 ∷ []
  -- Blank: 9C xor A5, inside the window and outside.
  pub blank : indices 4 (registers 0xA5D0 1 3 0 0) memory 0 ≡ 0x39 ∷ 0x39 ∷ 0x39 ∷ 0x39 ∷ []
  -- Colour index 1 is word 5,121 of XR memory.
  pub colours : map (colour (replicate 5120 7 ++ (0x0F00 ∷ 0xF0F0 ∷ 0x000F ∷ []))) (0 ∷ 1 ∷ 2 ∷ []) ≡ 0x0F00 ∷ 0xF0F0 ∷ 0x000F ∷ []
  -- Index 255 is word 5,375, the last of the first half.
  pub last-colour : colour (replicate 5375 7 ++ (0xF0F0 ∷ 0x000F ∷ [])) 255 ≡ 0xF0F0
  pub line : painted 3 (registers 0x0050 0 9 0 0) memory (replicate 5120 7 ++ (0x0F00 ∷ 0xF0F0 ∷ 0x000F ∷ [])) 0
      ≡ 0x0F00 ∷ 0xF0F0 ∷ 0x000F ∷ []
  -- Refusal 11 by bits 7:4, from 0 to 15: not for a bitmap of depth 1 or 2, nor for any blank; else it is.
  pub paintable : words_from 16 0 (λ n. cond (not_paintable (registers (0xFF0F + n * 16) 0 0 0 0)) 11 0)
      ≡ 11 ∷ 11 ∷ 11 ∷ 11 ∷ 11 ∷ 0 ∷ 0 ∷ 11 ∷ 0 ∷ 0 ∷ 0 ∷ 0 ∷ 0 ∷ 0 ∷ 0 ∷ 0 ∷ []
  pub bounds : bad_line 479 ∷ bad_line 480 ∷ other_width 639 ∷ other_width 640 ∷ other_width 641 ∷ [] ≡ false ∷ true ∷ true ∷ false ∷ true ∷ []
  -- 11 before 12 before 13.
  pub order : first (paint_tests (registers 0x40 0 0 0 0) 480 639) ∷ first (paint_tests (registers 0x50 0 0 0 0) 480 639)
      ∷ first (paint_tests (registers 0x50 0 0 0 0) 479 639) ∷ first (paint_tests (registers 0x50 0 0 0 0) 479 640) ∷ [] ≡ 11 ∷ 12 ∷ 13 ∷ 0 ∷ []
  -- Without memories it is refused with 1, and the pixels stay.
  pub untouched : (paint_refusal (adapter_at [] [] []) 480 2 ≡ 1) × (pixels_after (adapter_at [] [] []) 480 (5 ∷ 6 ∷ []) ≡ 5 ∷ 6 ∷ [])
  -- A line has as many pixels as the beam has positions that are not blank.
  pub beam-width : screen_width ≡ frame.positions - frame.blank
  -- The lines that the beam shows are those that can be painted.
  pub beam-lines : bad_line (visible_lines - 1) ∷ bad_line visible_lines ∷ [] ≡ false ∷ true ∷ []
