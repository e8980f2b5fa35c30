-- One word noted is one step of the account, and after the blit's last word the account is whole.
use mathlib.Core.Path.{◌≡◌, refl, sym, ap, ap₂, subst, ◌∙◌}
use mathlib.Core.Bool.{true, false}
use mathlib.Core.List.{List}
use Prim.Native.Nat.{ℕ, suc, ◌%◌}
use native.Mathlib.Omega.{arith}
use lib.Dec.{eqb}
use Rattle.xosera.specs.declared.BlitRegs.{BlitRegs}
use Rattle.xosera.specs.declared.Engine.{Engine}
use Rattle.reasons.specs.declared.Why.{Why}
use Rattle.reasons.specs.declared.Why.TheVariants.{NeverReached}
use lib.ListN.{length}
use Rattle.xosera.specs.Memories.{place, Pixel, from_right}
use Rattle.xosera.specs.Adapter.{Adapter}
use Rattle.xosera.specs.Blitter.{launched, fetched, drawn, last_step, next, moved, stepped, steps, engine_left}
use Rattle.xosera.specs.Ranges.{Running}
use Rattle.xosera.proofs.Branches.{cond_no}
use Rattle.xosera.proofs.EngineLaws.{launched-left, next-left, last-left}
use Rattle.xosera.proofs.StepCases.{stepped-on, stepped-vram, running-mask}
use Rattle.blits.specs.Blits.{blit_of, begun, drawn_by}
use Rattle.reasons.specs.Account.{reaches_word, writes_nibble, held_back, noted, account, why_of}
use Rattle.xosera.proofs.StepLaws.{steps-last}
use Rattle.why.specs.Reaches.{after_reach, noted_at}
use Rattle.why.specs.Progress.{Known, Passed}

-- A step on a running engine is noted as its word is.
module _ (p : Pixel) (a : Adapter) (f : Engine) (u : List ℕ) (known : Why) (runs : Running f) where
  abbrev here : Adapter
  here = moved a f u

  noted-word : noted p here known ≡ noted_at f u p.address (from_right p) known
  unfolding noted writes_nibble reaches_word held_back after_reach
  noted-word = grind (arith, running-mask here runs.runs)

pub known-first : (p : Pixel) (e : Engine) (v : List ℕ) → Known p e v e v NeverReached
unfolding account steps
known-first p e v = record { done = 0; reached = refl; words_left = omega arith; told = refl }

module _ {p : Pixel} {e : Engine} {v : List ℕ} {f : Engine} {u : List ℕ} {known : Why} (r : Running f) (k : Known p e v f u known) where
  -- The account with the next word noted, as a function notes it.
  abbrev more : Why
  more = noted_at f u p.address (from_right p) known

  pub told_more : more ≡ account p (suc k.done) (blit_of e v)
  unfolding account
  told_more = sym (noted-word p (blit_of e v) f u known r) ∙ ap₂ (noted p) (sym k.reached) k.told

  pub known_on : last_step f ≡ false → Known p e v (next f (fetched f u)) (drawn f u) more
  known_on h = record {
    done = suc k.done;
    reached = steps-last k.done (blit_of e v) ∙ ap stepped k.reached ∙ stepped-on (moved (blit_of e v) f u) r.runs h;
    words_left = omega (arith, k.words_left, next-left f (fetched f u) r h);
    told = told_more;
  }

  -- A word that goes elsewhere.
  pub known-passed : last_step f ≡ false → eqb (place u f.regs.dstd) p.address ≡ false → Known p e v (next f (fetched f u)) (drawn f u) known
  known-passed h d = subst (Known p e v (next f (fetched f u)) (drawn f u)) (cond_no _ known d) (known_on h)

  -- The same of what the functions that note and advance hand back.
  pub known-noted : {word : ℕ} {x : Why} {w : List ℕ} {d : Engine} → last_step f ≡ false
      → word ≡ fetched f u → x ≡ more → w ≡ drawn f u → d ≡ next f word → Known p e v d w x
  known-noted h t y s n = rw (n, t, y, s) (known_on h)

  -- The blit's last word.
  whole : last_step f ≡ true → suc k.done ≡ engine_left e
  whole h = omega (arith, k.words_left, last-left f r h)

  pub known-all : last_step f ≡ true → more ≡ account p (engine_left e) (blit_of e v)
  known-all h = told_more ∙ ap (λ (n : ℕ). account p n (blit_of e v)) (whole h)

  pub drawn-all : last_step f ≡ true → drawn f u ≡ (steps (engine_left e) (blit_of e v)).vram
  drawn-all h =
      sym (stepped-vram (moved (blit_of e v) f u) r.runs)
      ∙ ap (λ (a : Adapter). a.vram)
      (sym (steps-last k.done (blit_of e v) ∙ ap stepped k.reached) ∙ ap (λ (n : ℕ). steps n (blit_of e v)) (whole h))

-- Words that go elsewhere: one, and some after others.
module _ {address : ℕ} {f : Engine} {u : List ℕ} where
  pub passed-more : {g h : Engine} {x y : List ℕ} → Passed address f u g x → Passed address g x h y → Passed address f u h y
  passed-more m n = record {
    keeps = λ p e v known at k. n.keeps p e v known at (m.keeps p e v known at k);
    fewer = omega (arith, m.fewer, n.fewer);
  }

  pub passed-word : {word : ℕ} {w : List ℕ} {d : Engine} → Running f → last_step f ≡ false → eqb (f.regs.dstd % length u) address ≡ false
      → word ≡ fetched f u → w ≡ drawn f u → d ≡ next f word → Passed address f u d w
  unfolding place
  passed-word r h elsewhere t s n = rw (n, t, s) (record {
    keeps = λ p e v known at k. known-passed r k h (ap (eqb (f.regs.dstd % length u)) at ∙ elsewhere);
    fewer = omega (arith, next-left f (fetched f u) r h);
  })

-- Of a blit from its start.
module _ (r : BlitRegs) (v : List ℕ) {e : Engine} (begins : e ≡ launched r) where
  pub whole-account : (p : Pixel) → account p (engine_left e) (blit_of e v) ≡ why_of r v p
  unfolding why_of begun
  whole-account p = rw begins (ap (λ (n : ℕ). account p n (blit_of (launched r) v)) (launched-left r))

  pub whole-drawing : (steps (engine_left e) (blit_of e v)).vram ≡ drawn_by r v
  unfolding drawn_by begun
  whole-drawing = rw begins (ap (λ (n : ℕ). (steps n (blit_of (launched r) v)).vram) (launched-left r))
