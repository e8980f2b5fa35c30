-- What requests 1 and 3 say of saved adapters, proved of the definitions. Most of it follows from `held (saved a) ≡ a`, at rest.
use mathlib.Core.Path.{◌≡◌, refl, sym, ap, subst, ◌∙◌}
use mathlib.Core.Bool.{Bool, true, false, not}
use mathlib.Core.List.{List, [], ◌∷◌, ◌++◌}
use Prim.Native.Nat.{ℕ, ◌≤◌, ◌<◌}
use native.Mathlib.Omega.{arith}
use borrow.Author.Tests.{eq-eqb, ne_eqb, eqb-true, le-ltb, lt-ltb}
use lib.Dec.{eqb}
use lib.ListN.{length, take, drop}
use lib.Seq.{drop-append_seam}
use Rattle.xosera.specs.State.{state_words}
use Rattle.xosera.specs.Adapter.{Adapter, state_of}
use Rattle.xosera.specs.Beam.{at_rest}
use Rattle.calls.specs.Refusals.{Fit, ◌when◌, lent_tests, first}
use Rattle.xosera.proofs.Branches.{cond_yes, cond_no, cond_cases, and_both, not-passed}
use Rattle.calls.proofs.RefusalLaws.{fit-passes, none-fit}
use Rattle.xosera.proofs.WordLaws.{same-state-same-words}
use Rattle.saved_file.specs.SavedFile.{bytes_of, entry, entries, contents, saved, words_of, held_words, held, same_bytes, is_saved}
use Rattle.saved_file.specs.SaveLoad.{short_room, not_at_rest, not_saved, other_length, save_refusal, room_after, load_refusal, loaded}
use Rattle.saved_file.specs.Claims.{AllBelow, Words, adapter_of, Resting, NoAdapters, SavedAdapters}
use Rattle.saved_file.proofs.SameLaws.{same_refl}
use Rattle.saved_file.proofs.ByteLaws.{words-16, drop-below, take_below}
use Rattle.saved_file.proofs.RestLaws.{at_rest_lem, rest-passes, off-rest-fails, held-16}
use Rattle.saved_file.proofs.SavedLaws.{held-saved, held-words, saved-facts}

-- The file of a fit adapter at rest is a saved adapter.
pub fit-is-saved : (w : Words) → Fit (adapter_of w) → Resting (adapter_of w) → is_saved (saved (adapter_of w)) ≡ true
unfolding is_saved first
fit-is-saved w fit rests =
    let a = adapter_of w in
    let back = held-saved w.state w.vram w.xr fit.xr rests in
    and_both
    (subst (λ (f : List ℕ). same_bytes f (saved a) ≡ true) (sym (ap saved back)) (same_refl (saved a)))
    (eq-eqb _ 0 (ap (λ (b : Adapter). first (lent_tests b [])) back ∙ fit-passes a fit []))

-- What follows where none of 1 to 3 applies.
pub save-tests : (a : Adapter) (room : List ℕ) → Fit a → save_refusal a room ≡ first ((7 when short_room a room) ∷ (10 when not_at_rest a) ∷ [])
unfolding save_refusal
save-tests a room fit = fit-passes a fit _

pub load-tests : (a : Adapter) (file : List ℕ) → Fit a → load_refusal a file ≡ first ((8 when not_saved file) ∷ (9 when other_length a file) ∷ [])
unfolding load_refusal
load-tests a file fit = fit-passes a fit _

-- A save that is done is of an adapter at rest.
pub done-rests : (a : Adapter) (room : List ℕ) → save_refusal a room ≡ 0 → Resting a
unfolding save_refusal not_at_rest first
done-rests a room h =
    let fit = none-fit a ((7 when short_room a room) ∷ (10 when not_at_rest a) ∷ []) h in
    at_rest_lem a.side.beam (go (short_room a room) (at_rest a.side.beam) (sym (save-tests a room fit) ∙ h))
  where
    go : (s r : Bool) → first ((7 when s) ∷ (10 when not r) ∷ []) ≡ 0 → r ≡ true
    go true r e = absurd (omega arith)
    go false true e = refl
    go false false e = absurd (omega arith)

-- "Loading what was saved gives that adapter".
pub saved-loads : (w : Words) (a : Adapter) → Fit (adapter_of w) → Resting (adapter_of w) → Fit a → length a.vram ≡ length w.vram
    → (load_refusal a (saved (adapter_of w)) ≡ 0) × (loaded a (saved (adapter_of w)) ≡ adapter_of w)
unfolding not_saved other_length loaded first
saved-loads w a fw rests fa size =
    let back = held-saved w.state w.vram w.xr fw.xr rests in
    let long = eq-eqb (length w.vram) (length a.vram) (sym size) in
    let none : load_refusal a (saved (adapter_of w)) ≡ 0 = load-tests a _ fa ∙ rw (fit-is-saved w fw rests, back, long) in
    (none, cond_yes (held _) a (eq-eqb _ 0 none) ∙ back)

-- "One adapter has one file": equal files are of equal words.
pub same-words : (w u : Words) → length w.state ≡ state_words → length u.state ≡ state_words → adapter_of w ≡ adapter_of u → w ≡ u
same-words w u p q e =
    let state = same-state-same-words w.state u.state p q (ap state_of e) in
    λ i. record { state = state i; vram = (e i).vram; xr = (e i).side.xr }

pub same-file : (w u : Words) → length w.state ≡ state_words → length u.state ≡ state_words
    → Fit (adapter_of w) → Resting (adapter_of w) → Fit (adapter_of u) → Resting (adapter_of u)
    → saved (adapter_of w) ≡ saved (adapter_of u) → w ≡ u
same-file w u p q fw wrests fu urests e =
    same-words w u p q
    (sym (held-saved w.state w.vram w.xr fw.xr wrests) ∙ ap held e ∙ held-saved u.state u.vram u.xr fu.xr urests)

-- A file that a load accepts is a saved adapter, and the file of the adapter that it gives.
pub accepted-is-saved : (a : Adapter) (file : List ℕ) → load_refusal a file ≡ 0 → is_saved file ≡ true
unfolding load_refusal not_saved first
accepted-is-saved a file h = go (is_saved file) (sym (load-tests a file (none-fit a ((8 when not_saved file) ∷ (9 when other_length a file) ∷ []) h)) ∙ h)
  where
    go : (b : Bool) → first ((8 when not b) ∷ (9 when other_length a file) ∷ []) ≡ 0 → b ≡ true
    go true e = refl
    go false e = absurd (omega arith)

pub accepted-file : (a : Adapter) (file : List ℕ) → load_refusal a file ≡ 0 → saved (loaded a file) ≡ file
unfolding loaded
accepted-file a file h =
    ap saved (cond_yes (held file) a (eq-eqb (load_refusal a file) 0 h)) ∙ (saved-facts file (accepted-is-saved a file h)).same

-- "Any other file is refused".
saver : (file : List ℕ) → AllBelow 256 file → is_saved file ≡ true → NoAdapters file → ⊥
unfolding held
saver file bytes h none =
    let facts = saved-facts file h in
    let state : List ℕ = take 150 (drop 28 file) in
    let xr : List ℕ = take 13312 (drop 178 file) in
    none (record { state = held_words state; vram = words_of (drop 13490 file); xr = words_of xr })
    (record {
      size = held-words file (omega (arith, facts.size));
      state = held-16 state (take_below 256 150 (drop 28 file) (omega arith) (drop-below 256 28 file bytes));
      vram = words-16 (drop 13490 file) (drop-below 256 13490 file bytes);
      xr = words-16 xr (take_below 256 13312 (drop 178 file) (omega arith) (drop-below 256 178 file bytes));
      fit = facts.fit;
      rests = facts.rests;
    }) facts.same

pub other-file : (a : Adapter) (file : List ℕ) → Fit a → AllBelow 256 file → NoAdapters file → load_refusal a file ≡ 8
unfolding not_saved first
other-file a file fit bytes none = load-tests a file fit ∙ rw (not-passed (is_saved file) (λ h. saver file bytes h none))

-- What a load leaves is fit to go on, and at rest where it is done.
pub loaded-fit : (a : Adapter) (file : List ℕ) → Fit a → Fit (loaded a file)
unfolding loaded
loaded-fit a file fit =
    cond_cases Fit (eqb (load_refusal a file) 0) (held file) a
    (λ yes. (saved-facts file (accepted-is-saved a file (eqb-true (load_refusal a file) 0 yes))).fit) (λ _. fit)

pub loaded-rests : (a : Adapter) (file : List ℕ) → load_refusal a file ≡ 0 → Resting (loaded a file)
unfolding loaded
loaded-rests a file h =
    subst Resting (sym (cond_yes (held file) a (eq-eqb (load_refusal a file) 0 h))) (saved-facts file (accepted-is-saved a file h)).rests

-- A room that is long enough or not, at rest or not; what is behind the file; refusals.
pub room-enough : (a : Adapter) (room : List ℕ) → Fit a → Resting a → length (saved a) ≤ length room → save_refusal a room ≡ 0
unfolding short_room first
room-enough a room fit rests l = save-tests a room fit ∙ rw (le-ltb (length room) (length (saved a)) l, rest-passes a rests)

pub off_rest : (a : Adapter) (room : List ℕ) → Fit a → (Resting a → ⊥) → length (saved a) ≤ length room → save_refusal a room ≡ 10
unfolding short_room first
off_rest a room fit off l = save-tests a room fit ∙ rw (le-ltb (length room) (length (saved a)) l, off-rest-fails a off)

pub short-first : (a : Adapter) (room : List ℕ) → Fit a → length room < length (saved a) → save_refusal a room ≡ 7
unfolding short_room first
short-first a room fit l = save-tests a room fit ∙ rw (lt-ltb (length room) (length (saved a)) l)

room-behind : (a : Adapter) (room : List ℕ) → save_refusal a room ≡ 0 → drop (length (saved a)) (room_after a room) ≡ drop (length (saved a)) room
unfolding room_after
room-behind a room h =
    ap (drop (length (saved a))) (cond_yes (saved a ++ drop (length (saved a)) room) room (eq-eqb _ 0 h)) ∙ drop-append_seam (saved a) _

pub refused-save : (a : Adapter) (room : List ℕ) → (save_refusal a room ≡ 0 → ⊥) → room_after a room ≡ room
unfolding room_after
refused-save a room n = cond_no _ room (ne_eqb _ 0 n)

pub refused-load : (a : Adapter) (file : List ℕ) → (load_refusal a file ≡ 0 → ⊥) → loaded a file ≡ a
unfolding loaded
refused-load a file n = cond_no (held file) a (ne_eqb _ 0 n)

pub saved-adapters : SavedAdapters
unfolding contents entries entry bytes_of
saved-adapters = record {
  contents-for-256 = refl;
  saved-loads = λ w a lw fa size. saved-loads w a lw.fit lw.rests fa size;
  same-file = λ w u lw lu. same-file w u lw.size lu.size lw.fit lw.rests lu.fit lu.rests;
  accepted-file = accepted-file;
  other-file = other-file;
  loaded-fit = loaded-fit;
  loaded-rests = loaded-rests;
  room-enough = room-enough;
  off_rest = off_rest;
  short-first = short-first;
  room-behind = room-behind;
  refused-save = refused-save;
  refused-load = refused-load;
}
