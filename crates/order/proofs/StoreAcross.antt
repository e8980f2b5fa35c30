-- A store to a word that the blit neither reads nor writes moves across blit steps: the steps take the same source words, so
-- they draw the same, and the two stores go to different words.
use mathlib.Core.Path.{◌≡◌, refl, sym, ap, ap₂, ◌∙◌}
use mathlib.Core.Bool.{Bool, true, false, cond, not, ◌||◌}
use mathlib.Core.List.{List}
use Prim.Native.Nat.{ℕ, zero, suc}
use borrow.Author.Tests.{eq-eqb}
use Rattle.xosera.specs.declared.Engine.{Engine}
use Rattle.xosera.specs.declared.BlitRegs.{BlitRegs}
use Rattle.xosera.specs.State.{is_set}
use Rattle.xosera.specs.Memories.{place, word, Store, stored}
use Rattle.xosera.specs.Adapter.{Adapter}
use Rattle.xosera.specs.Blitter.{idle, launched, is_constant, fetched, drawing, drawn, last_step, word_drawn, succeeding, blit_ended}
use Rattle.xosera.specs.Blitter.{stepped, steps, store_now, step_mask}
use Rattle.xosera.proofs.Branches.{clash, not-passed, and_both, or-eq-false-iff}
use Rattle.xosera.proofs.StepCases.{stepped-idle, stepped-last, stepped-on, step-cases}
use Rattle.order.specs.Order.{reads_now, writes_now, blit_reads, blit_writes}
use Rattle.order.proofs.StoreLaws.{touches, stored-place, stored-word, stored-swap, Separate}
use Rattle.order.proofs.Footprint.{running-writes, stepped-place}

-- The source word of an engine's next step is not the one that a store touches: the step takes the same word after the store.
abbrev Unfetched : Store → Engine → List ℕ → Type 0
Unfetched k e v = is_constant e ≡ false → touches k v (place v e.regs.srcs) ≡ false

stored-fetched : (k : Store) (e : Engine) (v : List ℕ) → Unfetched k e v → fetched e (stored k v) ≡ fetched e v
unfolding fetched
stored-fetched k e v unfetched = go (is_constant e) refl
  where
    go : (b : Bool) → is_constant e ≡ b → cond b 0 (word (stored k v) e.regs.srcs) ≡ cond b 0 (word v e.regs.srcs)
    go true c = refl
    go false c = stored-word k v e.regs.srcs (unfetched c)

-- And it draws the same beside the store.
stored-drawn : (k : Store) (e : Engine) (v : List ℕ) → Unfetched k e v → Separate k (drawing e (fetched e v)) v →
    drawn e (stored k v) ≡ stored k (drawn e v)
unfolding drawn
stored-drawn k e v unfetched apart = rw (stored-fetched k e v unfetched) (sym (stored-swap k (drawing e (fetched e v)) v apart))

-- b is a after a store: its blits are the same, the waiting registers of a queued one included.
pub record Beside (k : Store) (a b : Adapter) : Type 0 where
  pub engine : b.engine ≡ a.engine
  pub queued : b.queued ≡ a.queued
  pub waiting : is_set a.queued ≡ true → b.side.blit ≡ a.side.blit
  pub vram : b.vram ≡ stored k a.vram

-- The next step reads and writes no word that the store touches.
record Free (k : Store) (a : Adapter) : Type 0 where
  unread : (w : ℕ) → touches k a.vram w ≡ true → reads_now a w ≡ false
  unwritten : (w : ℕ) → touches k a.vram w ≡ true → writes_now a w ≡ false

-- What is made of the waiting registers of a queued blit.
pub waiting-same : {A : Type 0} (f : BlitRegs → A) (z : A) (q : Bool) (r s : BlitRegs) → (q ≡ true → s ≡ r) → cond q (f s) z ≡ cond q (f r) z
waiting-same f z true r s h = ap f (h refl)
waiting-same f z false r s h = refl

-- A blit's end keeps a store beside the blits: the same one follows.
ended-beside : (k : Store) (a b : Adapter) → Beside k a b → Beside k (blit_ended a) (blit_ended b)
unfolding succeeding
ended-beside k a b beside = record {
  engine = rw beside.queued (waiting-same launched idle (is_set a.queued) a.side.blit b.side.blit beside.waiting);
  queued = refl;
  waiting = λ q. absurd (clash q refl);
  vram = beside.vram;
}

module _ (k : Store) (a b : Adapter) (beside : Beside k a b) (free : Free k a) where
  runs-alike : is_set b.engine.running ≡ is_set a.engine.running
  runs-alike = ap (λ (e : Engine). is_set e.running) beside.engine

  lasts-alike : last_step b.engine ≡ last_step a.engine
  lasts-alike = ap last_step beside.engine

  module _ (on : is_set a.engine.running ≡ true) where
    unfetched : Unfetched k a.engine a.vram
    unfolding reads_now
    unfetched varies =
        let at : ℕ = place a.vram a.engine.regs.srcs in
        not-passed (touches k a.vram at) (λ t. clash (and_both (and_both on (ap not varies)) (eq-eqb at at refl)) (free.unread at t))

    separate : Separate k (store_now a) a.vram
    separate w t = sym (running-writes a w on) ∙ free.unwritten w t

    -- So does a word drawn.
    drawn-beside : Beside k (word_drawn a) (word_drawn b)
    drawn-beside = record {
      engine = cc (beside.engine, beside.vram, stored-fetched k a.engine a.vram unfetched);
      queued = beside.queued;
      waiting = beside.waiting;
      vram = cc (beside.engine, beside.vram, stored-drawn k a.engine a.vram unfetched separate);
    }

  -- One step keeps a store beside the blit, and reads and writes the same words.
  stepped-beside : Beside k (stepped a) (stepped b)
  stepped-beside =
      step-cases (λ (x : Adapter). Beside k x (stepped b)) a
      (λ off. rw (stepped-idle b (runs-alike ∙ off)) beside)
      (λ on l. rw (stepped-last b (runs-alike ∙ on) (lasts-alike ∙ l)) (ended-beside k (word_drawn a) (word_drawn b) (drawn-beside on)))
      (λ on l. rw (stepped-on b (runs-alike ∙ on) (lasts-alike ∙ l)) (drawn-beside on))

  reads-now-same : (w : ℕ) → reads_now b w ≡ reads_now a w
  unfolding reads_now
  reads-now-same w = cc (beside.engine, beside.vram, stored-place k a.vram a.engine.regs.srcs)

  writes-now-same : (w : ℕ) → writes_now b w ≡ writes_now a w
  unfolding writes_now step_mask
  writes-now-same w = go (is_set a.engine.running) refl
    where
      go : (r : Bool) → is_set a.engine.running ≡ r → writes_now b w ≡ writes_now a w
      go true on = cc (beside.engine, beside.vram, stored-place k a.vram a.engine.regs.dstd, stored-fetched k a.engine a.vram (unfetched on))
      go false off = cc (off, runs-alike)

-- The next n steps read and write no word that the store touches.
pub record Clear (n : ℕ) (k : Store) (a : Adapter) : Type 0 where
  pub unread : (w : ℕ) → touches k a.vram w ≡ true → blit_reads n a w ≡ false
  pub unwritten : (w : ℕ) → touches k a.vram w ≡ true → blit_writes n a w ≡ false

clear-now : (n : ℕ) (k : Store) (a : Adapter) → Clear (suc n) k a → Free k a
unfolding blit_reads blit_writes
clear-now n k a clear = record {
  unread = λ w t. (simp or-eq-false-iff at (clear.unread w t)).0;
  unwritten = λ w t. (simp or-eq-false-iff at (clear.unwritten w t)).0;
}

stepped-touches : (k : Store) (a : Adapter) (w : ℕ) → touches k (stepped a).vram w ≡ touches k a.vram w
unfolding touches
stepped-touches k a w = rw (stepped-place a k.addr)

clear_later : (n : ℕ) (k : Store) (a : Adapter) → Clear (suc n) k a → Clear n k (stepped a)
unfolding blit_reads blit_writes
clear_later n k a clear = record {
  unread = λ w t. (simp or-eq-false-iff at (clear.unread w (sym (stepped-touches k a w) ∙ t))).1;
  unwritten = λ w t. (simp or-eq-false-iff at (clear.unwritten w (sym (stepped-touches k a w) ∙ t))).1;
}

-- n steps keep a store beside the blit.
pub steps-beside : (n : ℕ) (k : Store) (a b : Adapter) → Beside k a b → Clear n k a → Beside k (steps n a) (steps n b)
unfolding steps
steps-beside zero k a b beside clear = beside
steps-beside (suc n) k a b beside clear =
    steps-beside n k (stepped a) (stepped b) (stepped-beside k a b beside (clear-now n k a clear)) (clear_later n k a clear)

-- They read and write the same words.
pub record SameWords (n : ℕ) (a b : Adapter) : Type 0 where
  pub reads : (w : ℕ) → blit_reads n b w ≡ blit_reads n a w
  pub writes : (w : ℕ) → blit_writes n b w ≡ blit_writes n a w

pub same-words : (n : ℕ) (k : Store) (a b : Adapter) → Beside k a b → Clear n k a → SameWords n a b
unfolding blit_reads blit_writes
same-words zero k a b beside clear = record { reads = λ w. refl; writes = λ w. refl }
same-words (suc n) k a b beside clear =
    let free : Free k a = clear-now n k a clear in
    let later : SameWords n (stepped a) (stepped b) = same-words n k (stepped a) (stepped b) (stepped-beside k a b beside free) (clear_later n k a clear) in
    record {
      reads = λ w. ap₂ ◌||◌ (reads-now-same k a b beside free w) (later.reads w);
      writes = λ w. ap₂ ◌||◌ (writes-now-same k a b beside free w) (later.writes w);
    }
