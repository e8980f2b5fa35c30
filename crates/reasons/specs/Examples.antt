-- Worked examples of blits on a memory of eight words, for what the claims do not tell apart: nibbles count from the left, lines
-- and words from 0, addresses are modulo the length, and what comes last counts.
use Rattle.std.specs.Prelude.{◌≡◌, Bool, true, false, List, [], ◌∷◌, map, ℕ, Ok, Err}
use Rattle.xosera.specs.declared.BlitRegs.{BlitRegs}
use Rattle.reasons.specs.declared.Why.{Why}
use Rattle.reasons.specs.declared.Why.TheVariants.{NeverReached, HeldBack, Written}
use Rattle.reasons.specs.declared.WhyAnswer.{WhyAnswer}
use Rattle.xosera.specs.declared.Refusal.TheVariants.{VramLength, NoNibble}
use Rattle.xosera.specs.Memories.{Pixel}
use Rattle.blits.specs.Blits.{drawn_by}
use Rattle.reasons.specs.Account.{why_of}
use Rattle.reasons.specs.WhyCall.{why_refusal, told, work_after, numbers}

abbrev pub memory : List ℕ
memory = 0xFFFF ∷ 0xFFFF ∷ 0xFFFF ∷ 0xFFFF ∷ 0x1234 ∷ 0x5678 ∷ 0x9ABC ∷ 0xFFFF ∷ []

infix 5 ◌at◌
abbrev pub ◌at◌ : ℕ → ℕ → Pixel
nibble at address = record { address = address; nibble = nibble }

abbrev pub asked : BlitRegs → List Pixel → List Why
asked r = map (why_of r memory)

-- Three words from 4 to 0, with the edges of the bench table's first row: SHIFT 7801.
abbrev pub edged_copy : BlitRegs
edged_copy = record { ctrl = 0; andc = 0; xor = 0; mods = 0; srcs = 4; modd = 0; dstd = 0; shift = 0x7801; lines = 0; words = 2 }

-- A constant to word 0, by CTRL, MOD_S, SRC_S, SHIFT and LINES: lines of one word, all to the same place.
abbrev pub constant : ℕ → ℕ → ℕ → ℕ → ℕ → BlitRegs
constant ctrl mods srcs shift lines = record {
  ctrl = ctrl;
  andc = 0;
  xor = 0;
  mods = mods;
  srcs = srcs;
  modd = 0xFFFF;
  dstd = 0;
  shift = shift;
  lines = lines;
  words = 0;
}

-- Two lines of two words, the second from 0xFFFF on: word 0 of VRAM is the first of one line and the last of the other.
abbrev pub lines_that_meet : BlitRegs
lines_that_meet = record { ctrl = 1; andc = 0; xor = 0; mods = 0; srcs = 0x1111; modd = 0xFFFD; dstd = 0; shift = 0x7700; lines = 1; words = 1 }

-- An answer in numbers: refusal, fate, the three reasons, line and word.
abbrev pub row : ℕ → ℕ → Bool → Bool → Bool → ℕ → ℕ → WhyAnswer
row refusal fate first last colour line word =
    record { refusal = refusal; fate = fate; first = first; last = last; colour = colour; line = line; word = word }

pub record WhyExamples : Type 0 where
  pub edges : asked edged_copy ((0 at 0) ∷ (1 at 0) ∷ (3 at 1) ∷ (0 at 2) ∷ (1 at 2) ∷ (0 at 3) ∷ [])
      ≡ HeldBack true false false ∷ Written 0 0 ∷ Written 0 1 ∷ Written 0 2 ∷ HeldBack false true false ∷ NeverReached ∷ []
  -- On lines of one word both edges apply, and the colour test with them.
  pub one_word : asked (constant 1 0 0x1234 0x7E00 0) ((0 at 0) ∷ (1 at 0) ∷ (3 at 0) ∷ [])
      ≡ HeldBack true false false ∷ Written 0 0 ∷ HeldBack false true false ∷ []
  pub colours : asked (constant 0x0A11 0 0x0B0A 0xFF00 0) ((0 at 0) ∷ (1 at 0) ∷ (2 at 0) ∷ (3 at 0) ∷ [])
      ≡ HeldBack false false true ∷ Written 0 0 ∷ HeldBack false false true ∷ HeldBack false false true ∷ []
  pub all_three : asked (constant 0x0A11 0 0x0B0A 0x0000 0) ((0 at 0) ∷ (1 at 0) ∷ []) ≡ HeldBack true true true ∷ HeldBack true true false ∷ []
  -- Written first and held back later; held back first and written later; written twice, with the value that it had.
  pub held-later : asked (constant 0x0A11 1 0x0009 0xFF00 1) ((3 at 0) ∷ (2 at 0) ∷ []) ≡ Written 0 0 ∷ HeldBack false false true ∷ []
  pub written-later : asked (constant 0x0A11 1 0x000A 0xFF00 1) ((3 at 0) ∷ []) ≡ Written 1 0 ∷ []
  pub written_twice : asked (constant 0x0001 0 0xFFFF 0xFF00 1) ((0 at 0) ∷ []) ≡ Written 1 0 ∷ []
  -- The last reach's reasons are given; address 0xFFFF is word 7 of eight.
  pub last-reach : asked lines_that_meet ((0 at 0) ∷ (0 at 1) ∷ (1 at 1) ∷ (0 at 7) ∷ (1 at 7) ∷ [])
      ≡ HeldBack false true false ∷ HeldBack false true false ∷ Written 0 1 ∷ HeldBack true false false ∷ Written 1 0 ∷ []
  -- The memory after the first of these blits.
  pub drawn : drawn_by edged_copy memory ≡ 0xF123 ∷ 0x4567 ∷ 0x8FFF ∷ 0xFFFF ∷ 0x1234 ∷ 0x5678 ∷ 0x9ABC ∷ 0xFFFF ∷ []
  -- By the lengths: none, then 15 for a nibble or a word that is not there, then 1, also where 15 applies.
  pub refusals : why_refusal 256 256 (3 at 255) ∷ why_refusal 256 256 (4 at 0) ∷ why_refusal 256 256 (0 at 256) ∷ why_refusal 256 512 (0 at 0)
      ∷ why_refusal 512 256 (0 at 0) ∷ why_refusal 255 255 (0 at 0) ∷ why_refusal 255 255 (4 at 0) ∷ [] ≡ 0 ∷ 15 ∷ 15 ∷ 1 ∷ 1 ∷ 1 ∷ 1 ∷ []
  -- A memory of one word is refused and stays.
  pub refused : (told edged_copy memory (0x5678 ∷ []) (0 at 0) ≡ Err VramLength)
      × (work_after edged_copy memory (0x5678 ∷ []) (0 at 0) ≡ 0x5678 ∷ [])
  -- What a case does not have is 0 or no.
  pub cases : map numbers (Err NoNibble ∷ Ok NeverReached ∷ Ok (HeldBack true false true) ∷ Ok (Written 1 2) ∷ [])
      ≡ row 15 0 false false false 0 0 ∷ row 0 1 false false false 0 0 ∷ row 0 2 true false true 0 0 ∷ row 0 3 false false false 1 2 ∷ []
