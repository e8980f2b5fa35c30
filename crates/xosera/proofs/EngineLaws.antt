-- The engine alone: each step keeps it in range and draws one of the words that it has left.
use mathlib.Core.Path.{◌≡◌, refl, sym, ap, ◌∙◌}
use mathlib.Core.Bool.{Bool, true, false, cond}
use mathlib.Core.List.{List}
use Prim.Native.Nat.{ℕ, suc, ◌+◌, ◌*◌, ◌-◌, ◌≤◌, ◌<◌}
use native.Mathlib.Omega.{arith}
use native.Mathlib.Nat.{sub_self, sub-zero, zero-mul}
use lib.Bits.{bit_and, and_le_r}
use lib.ListN.{length, length-set}
use borrow.Author.Tests.{eqb-true, eqb-false}
use Rattle.xosera.specs.declared.BlitRegs.{BlitRegs}
use Rattle.xosera.specs.declared.Engine.{Engine}
use Rattle.xosera.specs.State.{is_set}
use Rattle.xosera.specs.Words.{is_colour, colour_mask}
use Rattle.xosera.specs.Fields.{colour_tested, whole_bytes, test_colour}
use Rattle.xosera.specs.Memories.{Store, stored}
use Rattle.xosera.specs.Blitter.{no_regs, idle, launched, fetched, first_mask, last_word, last_mask, test_mask, write_mask, first_step, last_step, next}
use Rattle.xosera.specs.Blitter.{drawing, drawn, succeeding, blit_words, engine_left}
use Rattle.xosera.specs.Ranges.{starts_empty, Running, running_in_range, is_no_regs, idle_in_range, engine_in_range}
use Rattle.xosera.proofs.Branches.{cond_yes, cond_no, cond_either, parts}
use Rattle.xosera.proofs.MaskLaws.{stored-either}

-- What the range says of a running engine.
pub in-range-running : (e : Engine) → is_set e.running ≡ true → engine_in_range e ≡ true → Running e
unfolding engine_in_range running_in_range starts_empty
in-range-running e r h =
    let k = simp parts at (sym (cond_yes (running_in_range e) (idle_in_range e) r) ∙ h) in
    record { runs = r; line-within = k.0.0.0; word-within = k.0.0.1; lines-within = k.0.1; starts-empty = k.1 }

pub running-in-range : (e : Engine) → Running e → engine_in_range e ≡ true
unfolding engine_in_range running_in_range starts_empty
running-in-range e f =
    cond_yes (running_in_range e) (idle_in_range e) f.runs ∙ simp parts (((f.line-within, f.word-within), f.lines-within), f.starts-empty)

regs-none : (r : BlitRegs) → is_no_regs r ≡ true → r ≡ no_regs
unfolding is_no_regs
regs-none r h = let k = simp parts at h in λ i. record {
  ctrl = k.0.0.0.0.0.0.0.0.0 i;
  andc = k.0.0.0.0.0.0.0.0.1 i;
  xor = k.0.0.0.0.0.0.0.1 i;
  mods = k.0.0.0.0.0.0.1 i;
  srcs = k.0.0.0.0.0.1 i;
  modd = k.0.0.0.0.1 i;
  dstd = k.0.0.0.1 i;
  shift = k.0.0.1 i;
  lines = k.0.1 i;
  words = k.1 i;
}

pub idle-is : (e : Engine) → is_set e.running ≡ false → engine_in_range e ≡ true → e ≡ idle
unfolding engine_in_range idle_in_range
idle-is e r h =
    let k = simp parts at (sym (cond_no (running_in_range e) (idle_in_range e) r) ∙ h) in
    λ i. record { running = k.0.0.0.0 i; line = k.0.0.0.1 i; word = k.0.0.1 i; kept = k.0.1 i; regs = regs-none e.regs k.1 i }

-- The flag of an engine that does not run is 0, and no flag is over 1.
pub idle-flag : (e : Engine) → is_set e.running ≡ false → engine_in_range e ≡ true → e.running ≡ 0
idle-flag e r h = ap (λ (x : Engine). x.running) (idle-is e r h)

pub idle-in-range : engine_in_range idle ≡ true
unfolding engine_in_range idle_in_range is_no_regs
idle-in-range = refl

-- A start, and what follows a blit's end.
pub launched-running : (r : BlitRegs) → Running (launched r)
unfolding launched
launched-running r = record { runs = refl; line-within = omega arith; word-within = omega arith; lines-within = omega arith; starts-empty = λ _. refl }

pub launched-in-range : (r : BlitRegs) → engine_in_range (launched r) ≡ true
launched-in-range r = running-in-range (launched r) (launched-running r)

pub launched-left : (r : BlitRegs) → engine_left (launched r) ≡ blit_words r
unfolding launched engine_left blit_words
launched-left r = simp sub-zero (omega arith)

pub succeeding-in-range : (q : Bool) (r : BlitRegs) → engine_in_range (succeeding q r) ≡ true
unfolding succeeding
succeeding-in-range q r = cond_either (λ (e : Engine). engine_in_range e ≡ true) q (launched r) idle (launched-in-range r) idle-in-range

pub succeeding-left : (q : Bool) (r : BlitRegs) → engine_left (succeeding q r) ≡ cond q (blit_words r) 0
unfolding succeeding engine_left
succeeding-left true r = launched-left r
succeeding-left false r = refl

-- An idle engine has no word left, a running one has some.
pub idle-left : (e : Engine) → is_set e.running ≡ false → engine_left e ≡ 0
unfolding engine_left
idle-left e r = cond_no _ _ r

module _ (e : Engine) (f : Running e) where
  pub left-counts : engine_left e ≡ (e.regs.words + 1 - e.word) + (e.regs.lines - e.line) * (e.regs.words + 1)
  unfolding engine_left
  left-counts = cond_yes _ _ f.runs

  pub running-left : 0 < engine_left e
  running-left = let w = f.word-within in rw left-counts (omega arith)

  -- Inside a line the word count can go up, and after a line that is not the last the line count.
  pub word_more : last_word e ≡ false → e.word < e.regs.words
  unfolding last_word
  word_more w = omega (arith, f.word-within, eqb-false e.word e.regs.words w)

  pub line-more : last_word e ≡ true → last_step e ≡ false → e.line < e.regs.lines
  unfolding last_step
  line-more w h = omega (arith, f.line-within, eqb-false e.line e.regs.lines (rw w at h))

-- A word that is not its line's last is not the blit's last.
pub inside-not-last : (e : Engine) → last_word e ≡ false → last_step e ≡ false
unfolding last_step
inside-not-last e h = rw h

-- The last word.
last-count : (w l : ℕ) → (w + 1 - w) + (l - l) * (w + 1) ≡ 1
last-count w l = simp (sub_self, zero-mul) (omega arith)

pub last-left : (e : Engine) → Running e → last_step e ≡ true → engine_left e ≡ 1
unfolding last_step last_word
last-left e f h = let k = simp parts at h in left-counts e f ∙ rw (k.0, k.1) (last-count e.regs.words e.regs.lines)

-- Any other word: the next line begins, or the line goes on.
line-count : (w l n : ℕ) → l < n → (w + 1 - w) + (n - l) * (w + 1) ≡ suc ((w + 1 - 0) + (n - (l + 1)) * (w + 1))
line-count w l n h = let d : n - l ≡ n - (l + 1) + 1 = omega arith in rw d (omega arith)

module _ (e : Engine) (w : ℕ) (f : Running e) (h : last_step e ≡ false) where
  word-last : last_word e ≡ true → e.word ≡ e.regs.words
  unfolding last_word
  word-last l = eqb-true e.word e.regs.words l

  pub next-running : Running (next e w)
  unfolding next first_step
  next-running = go (last_word e) refl
    where
      go : (b : Bool) → last_word e ≡ b → Running (next e w)
      go true l = rw l (record {
        runs = refl;
        line-within = omega (arith, line-more e f l h);
        word-within = omega arith;
        lines-within = f.lines-within;
        starts-empty = λ z. absurd (let k = simp parts at z in omega (arith, k.0));
      })
      go false l = rw l (record {
        runs = refl;
        line-within = f.line-within;
        word-within = omega (arith, word_more e f l);
        lines-within = f.lines-within;
        starts-empty = λ z. absurd (let k = simp parts at z in omega (arith, k.1));
      })

  pub next-left : engine_left e ≡ suc (engine_left (next e w))
  unfolding next engine_left
  next-left = go (last_word e) refl
    where
      go : (b : Bool) → last_word e ≡ b → engine_left e ≡ suc (engine_left (next e w))
      go true l = left-counts e f ∙ rw (l, word-last l) (line-count e.regs.words e.line e.regs.lines (line-more e f l h))
      go false l = let m = word_more e f l in left-counts e f ∙ rw l (omega arith)

-- What is drawn keeps its length.
pub stored-length : (s : Store) (v : List ℕ) → length (stored s v) ≡ length v
stored-length s v = stored-either (λ (l : List ℕ). length l ≡ length v) s v refl (length-set v _ _)

pub drawn-length : (e : Engine) (v : List ℕ) → length (drawn e v) ≡ length v
unfolding drawn
drawn-length e v = stored-length (drawing e (fetched e v)) v

-- A colour mask has four bits, and so has a write mask.
colour-mask-small : (b : Bool) (t s : ℕ) → colour_mask b t s ≤ 15
unfolding colour_mask
colour-mask-small b t s =
    omega (arith, at_most (is_colour b t s 3) 8, at_most (is_colour b t s 2) 4, at_most (is_colour b t s 1) 2, at_most (is_colour b t s 0) 1)
  where
    at_most : (c : Bool) (n : ℕ) → cond c 0 n ≤ n
    at_most c n = cond_either (λ (m : ℕ). m ≤ n) c 0 n (omega arith) (omega arith)

pub write-mask-small : (e : Engine) (s : ℕ) → write_mask e s ≤ 15
unfolding write_mask test_mask
write-mask-small e s =
    let ctrl = e.regs.ctrl in
    let colours = colour-mask-small (whole_bytes ctrl) (test_colour ctrl) s in
    let tested : test_mask e s ≤ 15 = cond_either (λ (m : ℕ). m ≤ 15) (colour_tested ctrl) _ 15 colours (omega arith) in
    omega (arith, and_le_r (bit_and (first_mask e) (last_mask e)) (test_mask e s))
