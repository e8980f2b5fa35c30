-- A call beside the blit: done before or after the pending work it leaves the same. Its store moves across the steps, and what it
-- loads is not written by them.
use mathlib.Core.Path.{◌≡◌, refl, sym, ap, subst, ◌∙◌}
use mathlib.Core.Bool.{Bool, true, false, cond}
use mathlib.Core.List.{List}
use Prim.Native.Nat.{ℕ, ◌+◌}
use lib.Dec.{eqb}
use borrow.Author.Tests.{eq-eqb}
use Rattle.xosera.specs.State.{is_set}
use Rattle.xosera.specs.Memories.{place, word, Store, stored}
use Rattle.xosera.specs.Adapter.{Side, Adapter, state_of}
use Rattle.xosera.specs.Blitter.{blit_words, engine_left, words_left}
use Rattle.xosera.specs.Plan.{Act, vram_loaded, carried_out, perform}
use Rattle.xosera.specs.Events.{Call, call}
use Rattle.calls.specs.Refusals.{Fit, refusal}
use Rattle.xosera.specs.Acts.{act_of, done}
use Rattle.calls.specs.Calls.{after}
use Rattle.xosera.proofs.Branches.{cond_yes, cond_no, cond_either}
use Rattle.xosera.proofs.RangeLaws.{in-range-copper}
use Rattle.xosera.proofs.BeamLaws.{disabled-arrives-stopped}
use Rattle.calls.proofs.AfterLaws.{after-fit}
use Rattle.order.specs.Order.{accepted, blit_writes}
use Rattle.order.specs.Work.{call_tries}
use Rattle.order.proofs.StoreLaws.{stored-place}
use Rattle.order.proofs.Footprint.{steps-word}
use Rattle.order.proofs.StoreAcross.{Beside, waiting-same, Clear, steps-beside, SameWords, same-words}
use Rattle.order.proofs.Acts.{Still, call-starts-exactly, call-writes-exactly, call-loads-exactly, call-waits, act-alike}
use Rattle.order.proofs.Fit.{unqueued-tries-none, refused-alike}
use Rattle.order.proofs.Status.{changed-alike}
use Rattle.order.proofs.Finish.{finished, Finishes, OnCourse}
use Rattle.order.proofs.CallsApart.{Apart}

-- A store beside the blit leaves as many words.
beside-left : (k : Store) (a b : Adapter) → Beside k a b → words_left b ≡ words_left a
unfolding words_left
beside-left k a b h =
    rw (h.engine, h.queued)
    (ap (λ (n : ℕ). engine_left a.engine + n) (waiting-same blit_words 0 (is_set a.queued) a.side.blit b.side.blit h.waiting))

-- The address that an act leaves in 7.
abbrev read_address : Act → ℕ
read_address p = p.side.host.vram.rdaddr.0

-- What pending work asks of an act: to store to no word that it reads or writes, load no word that it writes, and leave the
-- registers of a queued blit alone.
record Aside (p : Act) (a : Adapter) : Type 0 where
  clear : Clear (words_left a) p.store a
  unwritten : p.load ≡ true → blit_writes (words_left a) a (place a.vram (read_address p)) ≡ false
  waits : is_set a.queued ≡ true → p.side.blit ≡ a.side.blit

module _ (p : Act) (a : Adapter) (aside : Aside p a) where
  carried-beside : Beside p.store a (carried_out p a)
  unfolding vram_loaded
  carried-beside = record {
    engine = refl;
    queued = refl;
    waiting = λ q. cond_either (λ (s : Side). s.blit ≡ p.side.blit) p.load _ p.side refl refl ∙ aside.waits q;
    vram = refl;
  }

  carried-left : words_left (carried_out p a) ≡ words_left a
  carried-left = beside-left p.store a (carried_out p a) carried-beside

  carried-words : SameWords (words_left a) a (carried_out p a)
  carried-words = same-words (words_left a) p.store a (carried_out p a) carried-beside aside.clear

  -- The work finished after the store is the store made after the work.
  carried-finished : (finished (carried_out p a)).vram ≡ stored p.store (finished a).vram
  carried-finished = rw carried-left (steps-beside (words_left a) p.store a (carried_out p a) carried-beside aside.clear).vram

  -- The word that is loaded is the same before and after the work.
  loads-alike : p.load ≡ true → word (finished (carried_out p a)).vram (read_address p) ≡ word (carried_out p a).vram (read_address p)
  loads-alike load =
      let here : place (carried_out p a).vram (read_address p) ≡ place a.vram (read_address p) = stored-place p.store a.vram (read_address p) in
      rw carried-left
      (steps-word (words_left a) (carried_out p a) (read_address p)
      (rw here (carried-words.writes (place a.vram (read_address p)) ∙ aside.unwritten load)))

  module _ (r : Adapter) (vram : r.vram ≡ (finished a).vram) where
    vram-alike : (carried_out p r).vram ≡ (finished (carried_out p a)).vram
    vram-alike = ap (stored p.store) vram ∙ sym carried-finished

    side-alike : (carried_out p r).side ≡ (carried_out p a).side
    unfolding vram_loaded
    side-alike = go p.load refl
      where
        go : (b : Bool) → p.load ≡ b →
            cond b (vram_loaded p.side (carried_out p r).vram) p.side ≡ cond b (vram_loaded p.side (carried_out p a).vram) p.side
        go true load = rw (ap (λ (v : List ℕ). word v (read_address p)) vram-alike ∙ loads-alike load)
        go false none = refl

carried-finishes : {full : Bool} (p : Act) (a r : Adapter) → Aside p a → Finishes full a r → Fit (carried_out p a) → Fit (carried_out p r) →
    Finishes full (carried_out p a) (carried_out p r)
carried-finishes p a r aside f fit fit-ref = record {
  fit = fit;
  fit-ref = fit-ref;
  side = side-alike p a aside r f.vram;
  engine = f.engine;
  unqueued = f.unqueued;
  vram = vram-alike p a aside r f.vram;
  status = changed-alike p.status r.status a.status f.status;
  alone = f.alone;
}

-- A call that is accepted and starts nothing, and one that is refused.
after-carried : (a : Adapter) (c : Call) → accepted a (call c) ≡ true → (act_of a c).start ≡ false → after a (call c) ≡ carried_out (act_of a c) a
unfolding accepted after done perform
after-carried a c ok starts = cond_yes _ a ok ∙ cond_no _ _ starts

after-refused : (a : Adapter) (c : Call) → accepted a (call c) ≡ false → after a (call c) ≡ a
unfolding accepted after
after-refused a c nope = cond_no _ a nope

module _ {full : Bool} {reads writes : ℕ → Bool} {n : ℕ} (a r : Adapter) (c : Call) (course : OnCourse full reads writes n a r)
    (apart : Apart full reads writes a c) where
  still : Still a
  still =
      let f = course.finishes in
      disabled-arrives-stopped a.side apart.disabled (in-range-copper (state_of a) f.fit.state)

  tries-none : call_tries a c ≡ false
  tries-none = go full refl
    where
      go : (b : Bool) → full ≡ b → call_tries a c ≡ false
      go true e = apart.patient e
      go false e = unqueued-tries-none a c (course.finishes.alone e)

  -- Both orders refuse the call, or neither does.
  pub call-refused-alike : refusal r (call c) ≡ refusal a (call c)
  call-refused-alike =
      let f = course.finishes in
      refused-alike a r c f.fit f.fit-ref f.side tries-none (unqueued-tries-none r c (ap is_set f.unqueued))

  accepted-alike : accepted r (call c) ≡ accepted a (call c)
  unfolding accepted
  accepted-alike = ap (λ (k : ℕ). eqb k 0) call-refused-alike

  module _ (ok : accepted a (call c) ≡ true) where
    starts_none : (act_of a c).start ≡ false
    starts_none = sym (rw ok at (call-starts-exactly a c still)) ∙ apart.starts_none

    call-aside : Aside (act_of a c) a
    call-aside =
        let at : ℕ = place a.vram (read_address (act_of a c)) in
        record {
          clear = record {
            unread = λ w t. course.within.unread w (apart.writes-none-read w (rw ok at (call-writes-exactly a c w) ∙ t));
            unwritten = λ w t. course.within.unwritten w (apart.writes-none-written w (rw ok at (call-writes-exactly a c w) ∙ t));
          };
          unwritten = λ l. course.within.unwritten at (apart.loads-none-written at (call-loads-exactly a c at ∙ rw (ok, l) (eq-eqb at at refl)));
          waits = call-waits a c still tries-none;
        }

    after-adapter : after a (call c) ≡ carried_out (act_of a c) a
    after-adapter = after-carried a c ok starts_none

    after-reference : after r (call c) ≡ carried_out (act_of a c) r
    after-reference =
        subst (λ (p : Act). p.start ≡ false → after r (call c) ≡ carried_out p r) (act-alike a r c course.finishes.side still)
        (after-carried r c (accepted-alike ∙ ok)) starts_none

    carried-on-course : OnCourse full reads writes n (carried_out (act_of a c) a) (carried_out (act_of a c) r)
    carried-on-course =
        let p : Act = act_of a c in
        let fit : Fit (carried_out p a) = subst Fit after-adapter (after-fit a (call c) course.finishes.fit) in
        let fit-ref : Fit (carried_out p r) = subst Fit after-reference (after-fit r (call c) course.finishes.fit-ref) in
        record {
          finishes = carried-finishes p a r call-aside course.finishes fit fit-ref;
          within = record {
            unread = λ w h. rw (carried-left p a call-aside) ((carried-words p a call-aside).reads w ∙ course.within.unread w h);
            unwritten = λ w h. rw (carried-left p a call-aside) ((carried-words p a call-aside).writes w ∙ course.within.unwritten w h);
          };
          words_left = rw (carried-left p a call-aside) course.words_left;
        }

  pub call-on-course : OnCourse full reads writes n (after a (call c)) (after r (call c))
  call-on-course = go (accepted a (call c)) refl
    where
      go : (b : Bool) → accepted a (call c) ≡ b → OnCourse full reads writes n (after a (call c)) (after r (call c))
      go true ok = rw (after-adapter ok, after-reference ok) (carried-on-course ok)
      go false nope = rw (after-refused a c nope, after-refused r c (accepted-alike ∙ nope)) course
