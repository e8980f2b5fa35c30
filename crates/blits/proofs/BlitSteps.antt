-- A blit step by step: until its last word it runs on, word by word and line by line, on every adapter alike.
use mathlib.Core.Path.{◌≡◌, refl, sym, ap, ap₂, subst, ◌∙◌}
use mathlib.Core.Bool.{false}
use mathlib.Core.List.{List}
use Prim.Native.Nat.{ℕ, zero, suc, ◌+◌, ◌*◌, ◌-◌, ◌/◌, ◌%◌, ◌≤◌, ◌<◌}
use native.Mathlib.Omega.{arith}
use native.Mathlib.Nat.{add-mul, mul-le-mul_right}
use Rattle.xosera.specs.declared.BlitRegs.{BlitRegs}
use Rattle.xosera.specs.declared.Engine.{Engine}
use Rattle.xosera.specs.State.{is_set}
use Rattle.xosera.specs.Adapter.{Adapter}
use Rattle.xosera.specs.Blitter.{launched, fetched, drawn, last_step, next, moved, steps, blit_words, engine_left}
use Rattle.xosera.specs.Ranges.{Running}
use Rattle.xosera.proofs.Branches.{not-passed}
use Rattle.xosera.proofs.Quotients.{quotient}
use Rattle.xosera.proofs.EngineLaws.{launched-running, launched-left, left-counts, running-left, last-left, next-running, next-left}
use Rattle.xosera.proofs.StepCases.{stepped-on, stepped-vram}
use Rattle.xosera.proofs.StepLaws.{steps-last}
use Rattle.blits.specs.Blits.{Inside, step_of}

-- Before step k of the blit of registers r: it runs, k of its words are done, and those registers are copied.
pub record UnderWay (r : BlitRegs) (k : ℕ) (e : Engine) : Type 0 where
  pub runs : Running e
  pub left : k + engine_left e ≡ blit_words r
  pub lines : e.regs.lines ≡ r.lines % 32768
  pub words : e.regs.words ≡ r.words
  pub andc : e.regs.andc ≡ r.andc
  pub xor : e.regs.xor ≡ r.xor

-- With a word left behind it, a step does not end the blit.
pub not_last : {r : BlitRegs} {k : ℕ} {e : Engine} → UnderWay r k e → suc k < blit_words r → last_step e ≡ false
not_last {r} {k} {e} u h = not-passed (last_step e) (λ l. absurd (omega (arith, u.left, last-left e u.runs l)))

module _ (r : BlitRegs) where
  next-under-way : (k : ℕ) (e : Engine) (w : ℕ) → UnderWay r k e → suc k < blit_words r → UnderWay r (suc k) (next e w)
  unfolding next
  next-under-way k e w u h = record {
    runs = next-running e w u.runs (not_last u h);
    left = omega (arith, u.left, next-left e w u.runs (not_last u h));
    lines = u.lines;
    words = u.words;
    andc = u.andc;
    xor = u.xor;
  }

  launched-under-way : UnderWay r 0 (launched r)
  unfolding launched
  launched-under-way = record {
    runs = launched-running r;
    left = omega (arith, launched-left r);
    lines = refl;
    words = refl;
    andc = refl;
    xor = refl;
  }

  -- Two adapters that run it on the same memory.
  module _ (a b : Adapter) (v : List ℕ) where
    abbrev this : ℕ → Adapter
    this k = steps k (moved a (launched r) v)

    abbrev other : ℕ → Adapter
    other k = steps k (moved b (launched r) v)

    pub record Alike (k : ℕ) : Type 0 where
      pub engine : (this k).engine ≡ (other k).engine
      pub vram : (this k).vram ≡ (other k).vram
      pub under-way : UnderWay r k (other k).engine

    pub alike : (k : ℕ) → k < blit_words r → Alike k
    unfolding steps
    alike zero h = record { engine = refl; vram = refl; under-way = launched-under-way }
    alike (suc k) h =
        let so_far = alike k (omega arith) in
        let on = stepped-on (other k) so_far.under-way.runs.runs (not_last so_far.under-way h) in
        let on' = stepped-on (this k) (ap (λ (e : Engine). is_set e.running) so_far.engine ∙ so_far.under-way.runs.runs)
        (ap last_step so_far.engine ∙ not_last so_far.under-way h) in
        let here = steps-last k (moved b (launched r) v) ∙ on in
        let there = steps-last k (moved a (launched r) v) ∙ on' in
        record {
          engine = ap (λ (s : Adapter). s.engine) there ∙ ap₂ (λ (e : Engine) (u : List ℕ). next e (fetched e u)) so_far.engine so_far.vram
              ∙ sym (ap (λ (s : Adapter). s.engine) here);
          vram = ap (λ (s : Adapter). s.vram) there ∙ ap₂ drawn so_far.engine so_far.vram ∙ sym (ap (λ (s : Adapter). s.vram) here);
          under-way = subst (λ (s : Adapter). UnderWay r (suc k) s.engine) (sym here)
              (next-under-way k (other k).engine (fetched (other k).engine (other k).vram) so_far.under-way h);
        }

    -- The memory is the same after the last word too.
    pub same-vram : (k : ℕ) → k < blit_words r → (this (suc k)).vram ≡ (other (suc k)).vram
    same-vram k h =
        let so_far = alike k h in
        let on = so_far.under-way.runs.runs in
        ap (λ (s : Adapter). s.vram) (steps-last k (moved a (launched r) v))
        ∙ stepped-vram (this k) (ap (λ (e : Engine). is_set e.running) so_far.engine ∙ on)
        ∙ ap₂ drawn so_far.engine so_far.vram ∙ sym (stepped-vram (other k) on)
        ∙ sym (ap (λ (s : Adapter). s.vram) (steps-last k (moved b (launched r) v)))

-- A blit has a word.
pub some_words : (r : BlitRegs) → 0 < blit_words r
some_words r = omega (arith, launched-left r, running-left (launched r) (launched-running r))

-- Lines and words count the steps.
rest-of-lines : (n l w : ℕ) → l ≤ n → (n - l) * w + l * w ≡ n * w
rest-of-lines n l w h =
    let whole : n - l + l ≡ n = omega arith in
    sym (add-mul (n - l) l w) ∙ ap (λ (m : ℕ). m * w) whole

pub counted : {r : BlitRegs} {k : ℕ} {e : Engine} → UnderWay r k e → step_of r e.line e.word ≡ k
unfolding blit_words
counted {r} {k} {e} u =
    let f = u.runs in
    let left = rw (left-counts e f, ← u.lines, ← u.words) at u.left in
    rw (← u.words) (omega (arith, f.word-within, left, rest-of-lines e.regs.lines e.line (e.regs.words + 1) f.line-within))

pub under-way-inside : {r : BlitRegs} {k : ℕ} {e : Engine} → UnderWay r k e → Inside r e.line e.word
under-way-inside {r} {k} {e} u =
    record { line = subst (λ (n : ℕ). e.line ≤ n) u.lines u.runs.line-within; word = subst (λ (n : ℕ). e.word ≤ n) u.words u.runs.word-within }

pub inside-before-end : {r : BlitRegs} {l w : ℕ} → Inside r l w → step_of r l w < blit_words r
unfolding blit_words
inside-before-end {r} {l} {w} i = omega (arith, i.word, mul-le-mul_right (r.words + 1) i.line)

-- No two lines and words count the same.
pub counted-once : (r : BlitRegs) (l w m i : ℕ) → w ≤ r.words → i ≤ r.words → step_of r l w ≡ step_of r m i → (l ≡ m) × (w ≡ i)
counted-once r l w m i hw hi e =
    let width = r.words + 1 in
    let lines : l ≡ m =
    sym (quotient l width w (omega arith)) ∙ ap (λ (k : ℕ). k / width) e ∙ quotient m width i (omega arith) in
    (lines, omega (arith, e, ap (λ (k : ℕ). k * width) lines))
