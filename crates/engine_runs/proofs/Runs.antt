-- Runs inside one blit: they start at once, follow one another, go on word by word, and end with the last word.
use mathlib.Core.Path.{◌≡◌, refl, sym, ap, subst, subst₂, ◌∙◌}
use mathlib.Core.Bool.{true, false}
use mathlib.Core.List.{List}
use Prim.Native.Nat.{ℕ, suc}
use native.Mathlib.Omega.{arith}
use Rattle.xosera.specs.declared.Engine.{Engine}
use Rattle.xosera.specs.Adapter.{Adapter}
use Rattle.xosera.specs.Blitter.{fetched, last_step, next, drawn, moved, stepped, steps}
use Rattle.xosera.specs.Ranges.{Running}
use Rattle.xosera.proofs.StepCases.{stepped-on, stepped-last}
use Rattle.xosera.proofs.EngineLaws.{next-running, next-left, last-left, drawn-length}
use Rattle.engine_runs.specs.Progress.{Going, Ended}

pub going_start : (e : Engine) (v : List ℕ) (n : ℕ) → Running e → Going e v n e v n
going_start e v n r = record { reached = λ a. refl; goes_on = r; words_left = refl; fewer = omega arith; vram-length = refl }

pub going-trans : {e f g : Engine} {v u w : List ℕ} {n m k : ℕ} → Going e v n f u m → Going f u m g w k → Going e v n g w k
going-trans p q = record {
  reached = λ a. q.reached a ∙ p.reached a;
  goes_on = q.goes_on;
  words_left = omega (arith, p.words_left, q.words_left);
  fewer = omega (arith, p.fewer, q.fewer);
  vram-length = q.vram-length ∙ p.vram-length;
}

-- One step of the rest done.
unrolled : {rest left : ℕ} → suc left ≡ rest → (a : Adapter) → steps left (stepped a) ≡ steps rest a
unfolding steps
unrolled one a = ap (λ (k : ℕ). steps k a) one

module _ {e : Engine} {v : List ℕ} {n : ℕ} {f : Engine} {u : List ℕ} {rest left : ℕ}
    (g : Going e v n f u rest) (one : suc left ≡ rest) where
  pub going_on : last_step f ≡ false → Going e v n (next f (fetched f u)) (drawn f u) left
  going_on h = record {
    reached = λ a. ap (steps left) (sym (stepped-on (moved a f u) g.goes_on.runs h)) ∙ unrolled one (moved a f u) ∙ g.reached a;
    goes_on = next-running f (fetched f u) g.goes_on h;
    words_left = omega (arith, g.words_left, next-left f (fetched f u) g.goes_on h);
    fewer = omega (arith, g.fewer);
    vram-length = drawn-length f u ∙ g.vram-length;
  }

  pub going-ended : last_step f ≡ true → Ended e v n (drawn f u) left
  going-ended h = record {
    reached = λ a. ap (steps left) (sym (stepped-last (moved a f u) g.goes_on.runs h)) ∙ unrolled one (moved a f u) ∙ g.reached a;
    words_left = omega (arith, g.words_left, last-left f g.goes_on h);
    vram-length = drawn-length f u ∙ g.vram-length;
  }

  -- The same of what the functions that draw and advance hand back.
  pub going-drawn : {word : ℕ} {w : List ℕ} {d : Engine} → last_step f ≡ false → word ≡ fetched f u → w ≡ drawn f u → d ≡ next f word
      → Going e v n d w left
  going-drawn {word} {w} {d} h r s t =
      subst₂ (λ (x : Engine) (y : List ℕ). Going e v n x y left) (sym (t ∙ ap (next f) r)) (sym s) (going_on h)

  pub drawn-ended : {w : List ℕ} → last_step f ≡ true → w ≡ drawn f u → Ended e v n w left
  drawn-ended {w} h s = subst (λ (y : List ℕ). Ended e v n y left) (sym s) (going-ended h)
