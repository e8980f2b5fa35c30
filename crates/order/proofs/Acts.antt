-- What a call does is what the paper's words say of it: whether it starts a blit, which word it writes, which it loads. These are
-- equations, so words that say too much are refused as well as words that say too little.
use mathlib.Core.Path.{◌≡◌, refl, sym, ap, ◌∙◌}
use mathlib.Core.Bool.{Bool, true, false, not, ◌&&◌, ◌||◌, and-false, and_assoc}
use Prim.Native.Nat.{ℕ}
use native.Mathlib.Omega.{arith}
use lib.Dec.{eqb}
use lib.ListN.{get_or}
use borrow.Author.Tests.{eqb-true, ne_eqb}
use Rattle.xosera.specs.State.{is_set}
use Rattle.xosera.specs.Memories.{place, no_store}
use Rattle.xosera.specs.Adapter.{Side, Adapter}
use Rattle.xosera.specs.Plan.{StatusChange, Act}
use Rattle.xosera.specs.XrSpace.{is_blit_register, xr_write}
use Rattle.xosera.specs.HostBytes.{word_of, latched, xr_loaded, vram_load, write_xdata, write_rd_addr, write_data, write_nothing}
use Rattle.xosera.specs.HostBytes.{writes, write_word, write_byte, read_byte, read_data}
use Rattle.xosera.specs.TimerTick as TimerTick
use Rattle.xosera.specs.Copper.{arrived, beam_step}
use Rattle.xosera.specs.Events.{Call, write, read, tick, beam, line, call}
use Rattle.calls.specs.Refusals.{blitter_full}
use Rattle.xosera.specs.Acts.{act_of}
use Rattle.xosera.proofs.Branches.{cond_either, cond_cases, clash, not-passed, and_both, or-eq-false-iff}
use Rattle.xosera.proofs.Tables.{◌and◌, get_or-each}
use Rattle.xosera.proofs.XrLaws.{blit-write-outside}
use Rattle.xosera.proofs.BeamLaws.{stopped-step}
use Rattle.order.specs.Order.{accepted, call_writes, call_loads, call_starts}
use Rattle.order.specs.Work.{call_tries}
use Rattle.order.proofs.StoreLaws.{touches}

-- The copper does nothing in a beam step from here.
abbrev pub Still : Adapter → Type 0
Still a = is_set (arrived a.side).beam.running ≡ false

-- What the paper says of a call, for what the call asks. What the copper starts is not said of any call.
record Exact (a : Adapter) (c : Call) (p : Act) : Type 0 where
  starts : Still a → call_starts a c ≡ accepted a (call c) && p.start
  writes : (w : ℕ) → call_writes a c w ≡ accepted a (call c) && touches p.store a.vram w
  loads : (w : ℕ) → call_loads a c w ≡ accepted a (call c) && (p.load && eqb (place a.vram p.side.host.vram.rdaddr.0) w)
  waits : Still a → call_tries a c ≡ false → is_set a.queued ≡ true → p.side.blit ≡ a.side.blit

-- A call of which the paper says none of the three.
abbrev Unsaid : Adapter → Call → Type 0
Unsaid a c = (call_starts a c ≡ false) × ((w : ℕ) → call_writes a c w ≡ false) × ((w : ℕ) → call_loads a c w ≡ false)

-- It asks to store, load and start nothing and to leave the blitter's registers alone.
silent : {a : Adapter} {c : Call} {s : Side} {x : StatusChange} → s.blit ≡ a.side.blit → Unsaid a c →
    Exact a c (record { side = s; store = no_store; load = false; start = false; status = x })
unfolding touches
silent {a} {c} e unsaid =
    let none : false ≡ accepted a (call c) && false = sym (and-false (accepted a (call c))) in
    record { starts = λ _. unsaid.0 ∙ none; writes = λ w. unsaid.1 w ∙ none; loads = λ w. unsaid.2 w ∙ none; waits = λ _ t q. e }

module _ (a : Adapter) (b : ℕ) where
  -- What an odd write to register r asks, if f is what the register does.
  abbrev OddWrite : ℕ → (Side → ℕ → Act) → Type 0
  OddWrite r f = Exact a (write r true b) (f a.side (word_of (get_or a.side.host.latches r 0) b))

  none : (r : ℕ) → false ≡ accepted a (call (write r true b)) && false
  none r = sym (and-false (accepted a (call (write r true b))))

  xdata-exact : OddWrite 5 write_xdata
  unfolding xr_write call_starts call_writes call_loads call_tries blitter_full touches
  xdata-exact =
      let at : ℕ = a.side.host.xr.wrxaddr.0 in
      record {
        starts = λ _. refl;
        writes = λ w. none 5;
        loads = λ w. none 5;
        waits = λ _ t q. blit-write-outside a.side.blit at _ (not-passed (is_blit_register at) (λ i. clash (and_both i q) t));
      }

  rdaddr-exact : OddWrite 7 write_rd_addr
  unfolding vram_load call_starts call_writes call_loads touches
  rdaddr-exact = record { starts = λ _. none 7; writes = λ w. none 7; loads = λ w. refl; waits = λ _ t q. refl }

  data-exact : (r : ℕ) → eqb r 5 || eqb r 7 ≡ false → eqb r 10 || eqb r 11 ≡ true → OddWrite r write_data
  unfolding call_starts call_writes call_loads touches
  data-exact r others port =
      let k = simp or-eq-false-iff at others in
      let vram = a.side.host.vram in
      record {
        starts = λ _. rw k.0 (none r);
        writes = λ w. rw port (and_assoc (accepted a (call (write r true b))) (not (eqb vram.nibbles 0)) (eqb (place a.vram vram.wraddr.0) w));
        loads = λ w. rw k.1 (none r);
        waits = λ _ t q. refl;
      }

  -- Any other register.
  unsaid : (r : ℕ) → (eqb r 5 || eqb r 7) || (eqb r 10 || eqb r 11) ≡ false → Unsaid a (write r true b)
  unfolding call_starts call_writes call_loads
  unsaid r others =
      let k = simp or-eq-false-iff at others in
      (rw k.0.0, λ w. rw (k.1.0, k.1.1), λ w. rw k.0.1)

  odd-write : (r : ℕ) → OddWrite r (write_word r)
  unfolding write_word xr_loaded
  odd-write =
      get_or-each OddWrite write_nothing writes
      (silent refl (unsaid 0 refl) and silent refl (unsaid 1 refl) and silent refl (unsaid 2 refl) and silent refl (unsaid 3 refl)
      and silent refl (unsaid 4 refl) and xdata-exact and silent refl (unsaid 6 refl) and rdaddr-exact and silent refl (unsaid 8 refl)
      and silent refl (unsaid 9 refl) and data-exact 10 refl refl and data-exact 11 refl refl and tt)
      (λ r past. silent refl (unsaid r (rw (ne_eqb r 5 (omega arith), ne_eqb r 7 (omega arith), ne_eqb r 10 (omega arith), ne_eqb r 11 (omega arith)))))

module _ (a : Adapter) (r : ℕ) where
  even-read : Exact a (read r false) (read_byte a.side r false)
  unfolding read_byte call_starts call_writes call_loads
  even-read =
      cond_either (Exact a (read r false)) (eqb r 2) _ _ (silent refl (refl, λ _. refl, λ _. refl)) (silent refl (refl, λ _. refl, λ _. refl))

  unread : eqb r 10 || eqb r 11 ≡ false → Unsaid a (read r true)
  unfolding call_starts call_writes call_loads
  unread h = (refl, λ w. refl, λ w. rw h)

  data-read : eqb r 10 || eqb r 11 ≡ true → Exact a (read r true) (read_data a.side)
  unfolding vram_load call_starts call_writes call_loads touches
  data-read port =
      let none : false ≡ accepted a (call (read r true)) && false = sym (and-false (accepted a (call (read r true)))) in
      record { starts = λ _. none; writes = λ w. none; loads = λ w. rw port; waits = λ _ t q. refl }

  odd-read : Exact a (read r true) (read_byte a.side r true)
  unfolding read_byte xr_loaded
  odd-read =
      cond_cases (Exact a (read r true)) (eqb r 5) _ _ (λ five. silent refl (unread (rw (eqb-true r 5 five))))
      (λ _. cond_cases (Exact a (read r true)) (eqb r 10 || eqb r 11) _ _ data-read (λ h. silent refl (unread h)))

-- A beam step stores and loads no VRAM word; where the copper does nothing it starts no blit either.
module _ (a : Adapter) where
  abbrev beam_act : Act
  beam_act = beam_step (is_set a.queued) a.side

  beam-starts-none : Still a → beam_act.start ≡ false
  beam-starts-none still = ap (λ (p : Act). p.start) (stopped-step (is_set a.queued) a.side still)

  beam-waits : Still a → beam_act.side.blit ≡ a.side.blit
  unfolding arrived
  beam-waits still = ap (λ (p : Act). p.side.blit) (stopped-step (is_set a.queued) a.side still)

  beam-exact : Exact a beam beam_act
  unfolding beam_step call_starts call_writes call_loads touches
  beam-exact =
      let none : false ≡ accepted a (call beam) && false = sym (and-false (accepted a (call beam))) in
      record {
        starts = λ still. none ∙ sym (ap (λ (b : Bool). accepted a (call beam) && b) (beam-starts-none still));
        writes = λ w. none;
        loads = λ w. none;
        waits = λ still t q. beam-waits still;
      }

exact : (a : Adapter) (c : Call) → Exact a c (act_of a c)
unfolding act_of write_byte latched TimerTick.tick call_starts call_writes call_loads
exact a (write r true b) = odd-write a b r
exact a (write r false b) = silent refl (refl, λ _. refl, λ _. refl)
exact a (read r true) = odd-read a r
exact a (read r false) = even-read a r
exact a tick = silent refl (refl, λ _. refl, λ _. refl)
exact a beam = beam-exact a
exact a line = silent refl (refl, λ _. refl, λ _. refl)

module _ (a : Adapter) (c : Call) where
  pub call-starts-exactly : Still a → call_starts a c ≡ accepted a (call c) && (act_of a c).start
  call-starts-exactly = (exact a c).starts

  pub call-writes-exactly : (w : ℕ) → call_writes a c w ≡ accepted a (call c) && touches (act_of a c).store a.vram w
  call-writes-exactly = (exact a c).writes

  pub call-loads-exactly : (w : ℕ) →
      call_loads a c w ≡ accepted a (call c) && ((act_of a c).load && eqb (place a.vram (act_of a c).side.host.vram.rdaddr.0) w)
  call-loads-exactly = (exact a c).loads

  -- While a blit is queued, a call that tries no write to the blitter's registers leaves them alone.
  pub call-waits : Still a → call_tries a c ≡ false → is_set a.queued ≡ true → (act_of a c).side.blit ≡ a.side.blit
  call-waits = (exact a c).waits

-- Two adapters with the same side ask the same of a call, if the copper does nothing: whether a blit is queued is looked at by the
-- copper alone.
pub act-alike : (a r : Adapter) (c : Call) → r.side ≡ a.side → Still a → act_of r c ≡ act_of a c
unfolding act_of
act-alike a r (write n odd b) e still = rw e
act-alike a r (read n odd) e still = rw e
act-alike a r tick e still = rw e
act-alike a r beam e still =
    ap (beam_step (is_set r.queued)) e ∙ stopped-step (is_set r.queued) a.side still ∙ sym (stopped-step (is_set a.queued) a.side still)
act-alike a r line e still = rw e
