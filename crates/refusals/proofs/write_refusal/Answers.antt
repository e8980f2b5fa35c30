-- 1 to 3, then 4, then those of an odd write.
use mathlib.Core.Path.{◌≡◌, sym, ap, ◌∙◌}
use mathlib.Core.Bool.{true, false}
use mathlib.Core.List.{List, [], ◌∷◌}
use lib.ListN.{length}
use Prim.Native.Nat.{ℕ}
use Rattle.xosera.specs.State.{state_at}
use Rattle.xosera.specs.Told.{main_number, refusal_number, refused}
use Rattle.xosera.proofs.MainRegisters.{main-below}
use Rattle.xosera.proofs.RangeLaws.{latch-byte}
use Rattle.xosera.proofs.Results.{done-refuses, error-refuses, error-handed-on}
use Rattle.xosera.specs.Adapter.{adapter_at}
use Rattle.xosera.specs.Events.{write, call}
use Rattle.calls.specs.Refusals.{blitter_full, reconfigures, ◌when◌, first, refusal}
use Rattle.refusals.specs.Tested.{lent_refusal}
use Rattle.refusals.proofs.RefusalOrder.{lengths-first, lengths-passed, write-first, write-over, write-even, write-odd, lent-in-range}
use Rattle.refusals.proofs.write_refusal.Goals as goal
use Rattle.refusals.proofs.write_refusal.Goals.{After-whole_refusal, In_ok-reg}

lent : (c : After-whole_refusal) → let r = c.args in refused c.whole_refusal.result ≡ lent_refusal r.vram r.xr (state_at r.s.now)
lent c =
    let r = c.args in
    c.whole_refusal.ensures ∙ lengths-passed r.vram r.xr (state_at r.s.now) c.lengths_refusal.ensures (done-refuses c.in_ok-lengths_refusal.was)

pub returns-in_err-lengths_refusal-clause-number : goal.returns-in_err-lengths_refusal-clause-number
returns-in_err-lengths_refusal-clause-number c =
    let r = c.args in
    let s = state_at r.s.now in
    let was = c.in_err-lengths_refusal.was in
    λ v x p q. error-handed-on was _ c.from_residual.ensures.1
    ∙ write-first s v x p q (lengths-first r.vram r.xr s c.lengths_refusal.ensures (error-refuses was)) r.reg r.odd r.byte (error-refuses was)

pub returns-in_err-whole_refusal-clause-number : goal.returns-in_err-whole_refusal-clause-number
returns-in_err-whole_refusal-clause-number c =
    let r = c.args in
    let was = c.in_err-whole_refusal.was in
    λ v x p q. error-handed-on was _ c.from_residual-in_err-whole_refusal.ensures.1
    ∙ write-first (state_at r.s.now) v x p q (lent (goal.at.returns-in_err-whole_refusal-clause-number c).After-whole_refusal) r.reg r.odd r.byte (error-refuses was)

pub odd_refusal-requires : goal.odd_refusal-requires
odd_refusal-requires c =
    let r = c.args in
    let s = state_at r.s.now in
    let fit = lent-in-range r.vram r.xr s (sym (lent (goal.at.odd_refusal-requires c).After-whole_refusal) ∙ done-refuses c.in_ok-whole_refusal.was) in
    latch-byte s (main_number c.in_ok-reg.reg) fit

pub returns-in_err-reg-clause-number : goal.returns-in_err-reg-clause-number
returns-in_err-reg-clause-number c =
    let r = c.args in
    let was = c.in_err-reg.was in
    λ v x p q. error-handed-on was _ c.from_residual-in_err-reg.ensures.1 ∙ ap refused was ∙ ap refusal_number c.in_err-reg.ensures.1
    ∙ write-over (state_at r.s.now) v x p q (lent (goal.at.returns-in_err-reg-clause-number c).After-whole_refusal)
    (done-refuses c.in_ok-whole_refusal.was) r.reg r.odd r.byte c.in_err-reg.ensures.0

-- The write by the number that the register was found by.
module _ (c : In_ok-reg) (v x : List ℕ) (p : length v ≡ c.args.vram) (q : length x ≡ c.args.xr) where
  abbrev by_number : ℕ → ℕ
  by_number n = refusal (adapter_at c.args.s.now v x) (call (write n c.args.odd c.args.byte))

  odd : c.args.odd ≡ true →
      first ((5 when blitter_full (adapter_at c.args.s.now v x) (main_number c.in_ok-reg.reg) true)
      ∷ (6 when reconfigures (adapter_at c.args.s.now v x) (main_number c.in_ok-reg.reg) true c.args.byte) ∷ []) ≡ by_number c.args.reg
  odd e =
      let r = c.args in
      let reg = c.in_ok-reg.reg in
      write-odd (state_at r.s.now) v x p q (lent (goal.at.In_ok-reg c).After-whole_refusal) (done-refuses c.in_ok-whole_refusal.was)
      (main_number reg) r.odd r.byte (main-below reg) e ∙ ap by_number c.in_ok-reg.ensures

  even : c.args.odd ≡ false → 0 ≡ by_number c.args.reg
  even e =
      let r = c.args in
      let reg = c.in_ok-reg.reg in
      write-even (state_at r.s.now) v x p q (lent (goal.at.In_ok-reg c).After-whole_refusal) (done-refuses c.in_ok-whole_refusal.was)
      (main_number reg) r.odd r.byte (main-below reg) e ∙ ap by_number c.in_ok-reg.ensures

pub returns-in_err-odd_refusal-clause-number : goal.returns-in_err-odd_refusal-clause-number
returns-in_err-odd_refusal-clause-number c =
    λ v x p q. error-handed-on c.in_err-odd_refusal.was _ c.from_residual-in_err-odd_refusal.ensures.1 ∙ c.odd_refusal.ensures v x
    ∙ odd (goal.at.returns-in_err-odd_refusal-clause-number c).In_ok-reg v x p q c.if-odd.true

pub returns-in_ok-odd_refusal-clause-number : goal.returns-in_ok-odd_refusal-clause-number
returns-in_ok-odd_refusal-clause-number c =
    λ v x p q. sym (done-refuses c.in_ok-odd_refusal.was) ∙ c.odd_refusal.ensures v x
    ∙ odd (goal.at.returns-in_ok-odd_refusal-clause-number c).In_ok-reg v x p q c.if-odd.true

pub returns-else-odd-clause-number : goal.returns-else-odd-clause-number
returns-else-odd-clause-number c =
    λ v x p q. even (goal.at.returns-else-odd-clause-number c).In_ok-reg v x p q c.if-odd.false
