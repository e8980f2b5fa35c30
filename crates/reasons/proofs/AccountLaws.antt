-- What the account of some steps says of them: by the steps one after another, each either writes the nibble, reaches its word or
-- neither.
use mathlib.Core.Path.{◌≡◌, refl, ap₂}
use mathlib.Core.Bool.{Bool, true, false}
use mathlib.Core.List.{List}
use Prim.Native.Nat.{ℕ, zero, suc}
use native.Mathlib.Omega.{arith}
use Rattle.xosera.specs.declared.Engine.{Engine}
use Rattle.reasons.specs.declared.Why.{Why}
use Rattle.reasons.specs.declared.Why.TheVariants.{NeverReached, Written}
use Rattle.xosera.specs.Adapter.{Adapter}
use Rattle.xosera.specs.Blitter.{moved, steps, step_mask}
use Rattle.xosera.proofs.Branches.{cond_cases, clash}
use Rattle.xosera.specs.Memories.{Pixel}
use Rattle.reasons.specs.Account.{reaches_word, writes_nibble, held_back_by, held_back, unless_written, noted, account}
use Rattle.reasons.specs.Claims.{None, Last}

-- Of n steps, and of the one after them.
module _ (does : Adapter → Bool) (n : ℕ) (a : Adapter) where
  pub one_more : {k : ℕ} → Last does n a k → does (steps n a) ≡ false → Last does (suc n) a k
  one_more {k} l clear = record {
    within = omega (arith, l.within);
    does-it = l.does-it;
    none-later = λ j later h. grind (arith, l.none-later, clear);
  }

  pub none_more : None does n a → does (steps n a) ≡ false → None does (suc n) a
  none_more none clear k h = grind (arith, none, clear)

  pub last-now : does (steps n a) ≡ true → Last does (suc n) a n
  last-now set = record { within = omega arith; does-it = set; none-later = λ j later h. absurd (omega arith) }

  -- There is one last step that does it at most.
  pub same-last : {k j : ℕ} → Last does n a k → Last does n a j → k ≡ j
  same-last {k} {j} l m = grind (arith, l.none-later j, m.none-later k, l.does-it, m.does-it, l.within, m.within)

  pub none_last : {k : ℕ} → None does n a → Last does n a k → ⊥
  none_last {k} none l = clash l.does-it (none k l.within)

-- A step that writes a nibble reaches its word.
pub unreached-unwritten : (p : Pixel) (a : Adapter) → reaches_word p a ≡ false → writes_nibble p a ≡ false
unfolding writes_nibble
unreached-unwritten p a h = rw h

pub none-unwritten : (p : Pixel) (n : ℕ) (a : Adapter) → None (reaches_word p) n a → None (writes_nibble p) n a
none-unwritten p n a none k h = unreached-unwritten p (steps k a) (none k h)

-- What n steps did, with the last of them that counts.
pub data Became (p : Pixel) (n : ℕ) (a : Adapter) (w : Why) : Type 0 where
  never : w ≡ NeverReached → None (reaches_word p) n a → Became p n a w
  held : (k : ℕ) → w ≡ held_back p (steps k a) → Last (reaches_word p) n a k → None (writes_nibble p) n a → Became p n a w
  wrote : (k : ℕ) → w ≡ Written (steps k a).engine.line (steps k a).engine.word → Last (writes_nibble p) n a k → Became p n a w

module _ (p : Pixel) (n : ℕ) (a : Adapter) (w : Why) where
  abbrev now : Adapter
  now = steps n a

  abbrev reaches : Adapter → Bool
  reaches = reaches_word p

  abbrev writes : Adapter → Bool
  writes = writes_nibble p

  reached-more : writes now ≡ false → reaches now ≡ true → Became p n a w → Became p (suc n) a (unless_written w (held_back p now))
  unfolding unless_written held_back held_back_by
  reached-more hw hr (never e none) = held n (rw e) (last-now reaches n a hr) (none_more writes n a (none-unwritten p n a none) hw)
  reached-more hw hr (held k e l none) = held n (rw e) (last-now reaches n a hr) (none_more writes n a none hw)
  reached-more hw hr (wrote k e l) = wrote k (rw e) (one_more writes n a l hw)

  passed-more : writes now ≡ false → reaches now ≡ false → Became p n a w → Became p (suc n) a w
  passed-more hw hr (never e none) = never e (none_more reaches n a none hr)
  passed-more hw hr (held k e l none) = held k e (one_more reaches n a l hr) (none_more writes n a none hw)
  passed-more hw hr (wrote k e l) = wrote k e (one_more writes n a l hw)

  noted_more : Became p n a w → Became p (suc n) a (noted p now w)
  unfolding noted
  noted_more b =
      cond_cases (Became p (suc n) a) (writes now) _ _
      (λ hw. wrote n refl (last-now writes n a hw))
      (λ hw. cond_cases (Became p (suc n) a) (reaches now) _ _ (λ hr. reached-more hw hr b) (λ hr. passed-more hw hr b))

pub became : (p : Pixel) (n : ℕ) (a : Adapter) → Became p n a (account p n a)
unfolding account
became p zero a = never refl (λ k h. absurd (omega arith))
became p (suc n) a = noted_more p n a (account p n a) (became p n a)

-- A step is noted by its engine and its memory alone.
pub noted-alike : (p : Pixel) (a b : Adapter) (w : Why) → a.engine ≡ b.engine → a.vram ≡ b.vram → noted p a w ≡ noted p b w
unfolding noted writes_nibble reaches_word held_back step_mask
noted-alike p a b w e v = ap₂ (λ (f : Engine) (u : List ℕ). noted p (moved a f u) w) e v
