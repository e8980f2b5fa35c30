-- A call answers the same before and after the pending work, but for the bits that show whether it is done.
use mathlib.Core.Path.{◌≡◌, refl, sym, ap, ◌∙◌}
use mathlib.Core.Bool.{Bool, true, false, cond, true≢false}
use mathlib.Core.List.{List, [], ◌∷◌, map}
use Prim.Native.Nat.{ℕ, ◌/◌, ◌%◌}
use lib.Dec.{eqb}
use lib.ListN.{get_or, get_or-map}
use Rattle.xosera.specs.declared.Engine.{Engine}
use Rattle.xosera.specs.State.{Host, is_set}
use Rattle.xosera.specs.Words.{without_bit}
use Rattle.xosera.specs.Fields.{Flags, flag_bits}
use Rattle.xosera.specs.Adapter.{Side, Adapter, state_of}
use Rattle.xosera.specs.HostBytes.{shown, flags_of, high_byte, low_byte}
use Rattle.xosera.specs.Copper.{beam_step}
use Rattle.xosera.specs.Events.{Call, write, read, tick, beam, line, call}
use Rattle.calls.specs.Refusals.{refusal}
use Rattle.xosera.specs.Acts.{act_of, given, wrote}
use Rattle.calls.specs.Calls.{answer}
use Rattle.xosera.proofs.Branches.{cond_same}
use Rattle.xosera.proofs.Tables.{Each, ◌and◌, get_or-each}
use Rattle.xosera.proofs.RangeLaws.{in-range-status}
use Rattle.order.specs.Order.{agreed}
use Rattle.order.specs.Work.{without_full, agreed_work}
use Rattle.order.proofs.Status.{without-alike}
use Rattle.order.proofs.Finish.{Finishes}

-- The registers by their number, for two values of what they show: alike where each of them is.
shown-alike : {A : Type 0} (see : ℕ → ℕ → ℕ) (else : ℕ) (l : List (A → ℕ)) (x y : A) → Each (λ r f. see r (f x) ≡ see r (f y)) l → (r : ℕ) →
    see r (get_or (map (λ (f : A → ℕ). f x) l) r else) ≡ see r (get_or (map (λ (f : A → ℕ). f y) l) r else)
shown-alike {A} see else l x y each r =
    ap (see r) (get_or-map (λ (f : A → ℕ). f x) l r (λ _. else))
    ∙ get_or-each (λ k f. see k (f x) ≡ see k (f y)) (λ _. else) l each (λ _ _. refl) r
    ∙ sym (ap (see r) (get_or-map (λ (f : A → ℕ). f y) l r (λ _. else)))

-- Odd reads show the status at 1 alone, so they agree but for bit 6 there.
low_alike : (full : Bool) (h : Host) (s t n : ℕ) → without_bit 6 s ≡ without_bit 6 t →
    agreed_work full (read n true) (low_byte h s n) ≡ agreed_work full (read n true) (low_byte h t n)
unfolding agreed_work without_full agreed low_byte
low_alike full h s t n e =
    shown-alike (λ r. agreed_work full (read r true)) (shown h n % 256) ((λ _. h.vram.nibbles) ∷ (λ status. status) ∷ (λ _. h.timer.saved) ∷ []) s t
    (refl and simp cond_same e and refl and tt) n

-- Even reads show whether the blitter is full and busy at 0 alone; it is not full where no blit was queued at first. The beam is
-- where it is.
abbrev idle_flags : Flags → Flags
idle_flags f = record { full = false; busy = false; hblank = f.hblank; vblank = f.vblank }

each-blank : (P : Bool → Bool → Type 0) → P true true → P true false → P false true → P false false → (h v : Bool) → P h v
each-blank P a b c d true true = a
each-blank P a b c d true false = b
each-blank P a b c d false true = c
each-blank P a b c d false false = d

abbrev FlagsAlike : Bool → Bool → Bool → Bool → Bool → Type 0
FlagsAlike full queued busy h v =
    agreed_work full (read 0 false) (flag_bits (record { full = false; busy = false; hblank = h; vblank = v })) ≡
    agreed_work full (read 0 false) (flag_bits (record { full = queued; busy = busy; hblank = h; vblank = v }))

flags-alike : (full queued busy h v : Bool) → (full ≡ false → queued ≡ false) → FlagsAlike full queued busy h v
unfolding agreed_work without_full agreed flag_bits without_bit
flags-alike true true true h v alone = each-blank (FlagsAlike true true true) refl refl refl refl h v
flags-alike true true false h v alone = each-blank (FlagsAlike true true false) refl refl refl refl h v
flags-alike true false true h v alone = each-blank (FlagsAlike true false true) refl refl refl refl h v
flags-alike true false false h v alone = each-blank (FlagsAlike true false false) refl refl refl refl h v
flags-alike false false true h v alone = each-blank (FlagsAlike false false true) refl refl refl refl h v
flags-alike false false false h v alone = each-blank (FlagsAlike false false false) refl refl refl refl h v
flags-alike false true busy h v alone = absurd (true≢false (alone refl))

high-alike : (full : Bool) (h : Host) (f : Flags) (n : ℕ) → (full ≡ false → f.full ≡ false) →
    agreed_work full (read n false) (high_byte h (idle_flags f) n) ≡ agreed_work full (read n false) (high_byte h f n)
unfolding high_byte
high-alike full h f n alone =
    shown-alike (λ r. agreed_work full (read r false)) (shown h n / 256) (flag_bits ∷ (λ _. h.intmask) ∷ (λ _. h.timer.count / 256) ∷ []) (idle_flags f) f
    (flags-alike full f.full f.busy f.hblank f.vblank alone and refl and refl and tt) n

module _ {full : Bool} (a r : Adapter) (f : Finishes full a r) where
  host-alike : r.side.host ≡ a.side.host
  host-alike = ap (λ (s : Side). s.host) f.side

  beam-alike : r.side.beam ≡ a.side.beam
  beam-alike = ap (λ (s : Side). s.beam) f.side

  reference-off : is_set r.engine.running ≡ false
  reference-off = ap (λ (e : Engine). is_set e.running) f.engine

  pub status-alike : without_bit 6 r.status ≡ without_bit 6 a.status
  status-alike =
      without-alike r.status a.status (in-range-status (state_of r) f.fit-ref.state) (in-range-status (state_of a) f.fit.state) f.status

  given-alike : (c : Call) → agreed_work full c (given r (call c)) ≡ agreed_work full c (given a (call c))
  unfolding given agreed_work agreed
  given-alike (write n odd b) = refl
  given-alike (read n true) = rw host-alike (low_alike full a.side.host r.status a.status n status-alike)
  given-alike (read n false) =
      rw (host-alike, beam-alike, f.unqueued, reference-off) (high-alike full a.side.host (flags_of (state_of a)) n f.alone)
  given-alike tick = refl
  given-alike beam = refl
  given-alike line = refl

  pub value-alike : (c : Call) → refusal r (call c) ≡ refusal a (call c) →
      agreed_work full c (answer r (call c)).value ≡ agreed_work full c (answer a (call c)).value
  unfolding answer
  value-alike c e = rw e (go (eqb (refusal a (call c)) 0))
    where
      go : (b : Bool) → agreed_work full c (cond b (given r (call c)) 0) ≡ agreed_work full c (cond b (given a (call c)) 0)
      go true = given-alike c
      go false = refl

  -- A call's mask is its own store's, and the store is the same; a beam step has none.
  wrote-alike : (c : Call) → wrote r (call c) ≡ wrote a (call c)
  unfolding wrote act_of beam_step
  wrote-alike (write n odd b) = rw f.side
  wrote-alike (read n odd) = rw f.side
  wrote-alike tick = rw f.side
  wrote-alike beam = refl
  wrote-alike line = refl

  pub mask-alike : (c : Call) → refusal r (call c) ≡ refusal a (call c) → (answer r (call c)).mask ≡ (answer a (call c)).mask
  unfolding answer
  mask-alike c e = rw (e, wrote-alike c)
