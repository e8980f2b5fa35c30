-- The claims hold: of every blit, of one started through the registers, and of what a call answers.
use mathlib.Core.Path.{◌≡◌, refl, sym, ap, ap₂, subst₂, ◌∙◌}
use mathlib.Core.List.{List}
use Prim.Native.Nat.{ℕ}
use native.Mathlib.Omega.{arith}
use lib.ListN.{length}
use borrow.Author.Tests.{eq-eqb, ne_eqb}
use Rattle.std.specs.Prelude.{Result, Ok, Err}
use Rattle.xosera.specs.declared.Refusal.{Refusal}
use Rattle.xosera.specs.Told.{refusal_number, refused}
use Rattle.xosera.specs.declared.BlitRegs.{BlitRegs}
use Rattle.xosera.specs.declared.Engine.{Engine}
use Rattle.reasons.specs.declared.Why.{Why}
use Rattle.reasons.specs.declared.WhyAnswer.{WhyAnswer}
use Rattle.xosera.specs.Adapter.{Adapter}
use Rattle.xosera.specs.Blitter.{launched, moved, steps, blit_words}
use Rattle.calls.specs.Calls.{after}
use Rattle.calls.specs.Sequences.{start_with, words_of}
use Rattle.xosera.proofs.Branches.{cond_yes, cond_no}
use Rattle.calls.proofs.BlitEnds.{started-engine}
use Rattle.xosera.proofs.StepLaws.{launched-words}
use Rattle.masks.proofs.AnsweredMasks.{vram-some}
use Rattle.xosera.specs.Memories.{Pixel}
use Rattle.blits.specs.Blits.{drawn_by}
use Rattle.reasons.specs.Account.{account, why_of}
use Rattle.reasons.specs.WhyCall.{why_refusal, told, numbers, Explains}
use Rattle.reasons.specs.Claims.{Reasons, AsStarted, Answered, WhyClaims}
use Rattle.reasons.proofs.ReasonsHold.{every-adapter, reasons-hold}
use Rattle.xosera.proofs.Results.{some_number}
use Rattle.reasons.proofs.NumbersTell.{apart, told-never, told-held, told-written, told-done, no-reasons, no_word}
use Rattle.reasons.proofs.RefusalOrder.{refusals-hold, accepted-long, told-refusal, told-account}

-- A blit that was started through the registers.
started-alike : (s : Adapter) (p : Pixel) → s.engine ≡ launched s.side.blit → AsStarted s p
unfolding words_of
started-alike s p e =
    let r = s.side.blit in
    let same : s ≡ moved s (launched r) s.vram = ap (λ (f : Engine). moved s f s.vram) e in
    let words : blit_words s.engine.regs ≡ blit_words r = ap (λ (f : Engine). blit_words f.regs) e ∙ launched-words r in
    let both = every-adapter r s.vram p s in
    record {
      same-account = ap₂ (account p) words same ∙ both.0;
      same_memory = ap₂ (λ (m : ℕ) (c : Adapter). (steps m c).vram) words same ∙ both.1;
    }

-- A call that is done, and one that is refused.
module _ (r : BlitRegs) (before work : List ℕ) (p : Pixel) where
  abbrev here : Reasons r before p
  here = reasons-hold r before p

  done-so : why_refusal (length before) (length work) p ≡ 0
      → Answered r before work p (numbers (Ok (why_of r before p))) (drawn_by r before)
  done-so h =
      let w = why_of r before p in
      let long = vram-some (length before) (accepted-long (length before) (length work) p h) in
      let told = told-done w in
      record {
        refusal = told.0 ∙ sym h;
        never = λ f. here.never_true (told-never w f);
        held = λ f. here.held-true _ _ _ (told-held w f);
        written = λ f. here.written-true _ _ (told-written w f);
        done = λ _. (told.1, told.2, refl);
        kept = λ _ d. here.kept long (λ l i e. d (ap (λ x. (numbers (Ok x)).fate) e));
        refused = λ d. absurd (d told.0);
        no-reasons = no-reasons (Ok w);
        no_word = no_word (Ok w);
      }

  refused-so : (x : Refusal) → refusal_number x ≡ why_refusal (length before) (length work) p
      → Answered r before work p (numbers (Err x)) work
  refused-so x h = record {
    refusal = h;
    never = λ f. absurd (omega (arith, f));
    held = λ f. absurd (omega (arith, f));
    written = λ f. absurd (omega (arith, f));
    done = λ z. absurd (some_number x z);
    kept = λ z. absurd (some_number x z);
    refused = λ _. (refl, refl);
    no-reasons = no-reasons (Err x);
    no_word = no_word (Err x);
  }

answered-so : (r : BlitRegs) (before work : List ℕ) (p : Pixel) (given : WhyAnswer) (after : List ℕ) → Explains r before work p given after
    → Answered r before work p given after
answered-so r before work p given after x = go (told r before work p) refl (told-refusal r before work p)
  where
    n : ℕ
    n = why_refusal (length before) (length work) p

    go : (w : Result Why Refusal) → told r before work p ≡ w → refused w ≡ n → Answered r before work p given after
    go (Ok w) e z =
        subst₂ (Answered r before work p) (sym (x.answers ∙ ap numbers (told-account r before work p (sym z))))
        (sym (x.leaves ∙ cond_yes _ _ (eq-eqb n 0 (sym z)))) (done-so r before work p (sym z))
    go (Err refusal) e h =
        subst₂ (Answered r before work p) (sym (x.answers ∙ ap numbers e))
        (sym (x.leaves ∙ cond_no _ _ (ne_eqb n 0 (λ z. some_number refusal (h ∙ z))))) (refused-so r before work p refusal h)

pub why-claims : WhyClaims
why-claims = record {
  reasons = reasons-hold;
  started = λ a b p h. started-alike (after a (start_with b)) p (started-engine a b h);
  refusals = refusals-hold;
  told-refusal = told-refusal;
  apart = apart;
  answered = answered-so;
}
