-- What one blit did to a nibble of VRAM, step by step (document 02, request 5). The steps, their masks and what holds a nibble back
-- are those of document 01, "The blitter".
use Rattle.std.specs.Prelude.{Bool, cond, ◌&&◌, List, ℕ, zero, suc, eqb}
use Rattle.xosera.specs.declared.BlitRegs.{BlitRegs}
use Rattle.xosera.specs.declared.Engine.{Engine}
use Rattle.reasons.specs.declared.Why.{Why}
use Rattle.reasons.specs.declared.Why.TheVariants.{NeverReached, HeldBack, Written}
use Rattle.xosera.specs.Words.{bit}
use Rattle.xosera.specs.Memories.{place, Pixel, from_right}
use Rattle.xosera.specs.Adapter.{Adapter}
use Rattle.xosera.specs.Blitter.{steps, step_mask, blit_words}
use Rattle.blits.specs.Blits.{begun}
use Rattle.masks.specs.Masks.{first_holds, last_holds, test_holds, source_now, target_now}

-- A step reaches the word that it draws to; its address is taken modulo the VRAM length.
unfoldable pub reaches_word : Pixel → Adapter → Bool
reaches_word p a = eqb (place a.vram (target_now a)) p.address

-- It writes the nibbles of that word that its mask has, also with the value that they had.
unfoldable pub writes_nibble : Pixel → Adapter → Bool
writes_nibble p a = reaches_word p a && bit (from_right p) (step_mask a)

-- "Held back, with all reasons that applied": "first mask, last mask, colour test", by the engine, S and the nibble from the right.
unfoldable pub held_back_by : Engine → ℕ → ℕ → Why
held_back_by e s k = HeldBack (first_holds e k) (last_holds e k) (test_holds e s k)

unfoldable pub held_back : Pixel → Adapter → Why
held_back p a = held_back_by a.engine (source_now a) (from_right p)

-- "'Held back' is given only if no reach wrote it."
unfoldable pub unless_written : Why → Why → Why
unless_written NeverReached held = held
unless_written (HeldBack f l c) held = held
unless_written (Written l w) held = Written l w

-- What was known of the nibble, with the next step noted: a write, "with line and word, from 0", or a reach that held it back.
unfoldable pub noted : Pixel → Adapter → Why → Why
noted p a known =
    cond (writes_nibble p a) (Written a.engine.line a.engine.word) (cond (reaches_word p a) (unless_written known (held_back p a)) known)

-- What n steps did to it: what all but the last of them did, with the last noted.
unfoldable pub account : Pixel → ℕ → Adapter → Why
account p zero a = NeverReached
account p (suc n) a = noted p (steps n a) (account p n a)

-- The whole blit.
unfoldable pub why_of : BlitRegs → List ℕ → Pixel → Why
why_of r before p = account p (blit_words r) (begun r before)
