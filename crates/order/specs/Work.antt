-- The order of things for all work that is pending, a queued blit's included: what demand 3 says of one blit, said of any
-- adapter to which none of the refusals 1 to 3 applies. With a blit queued, one condition and one exception more (request 14).
use Rattle.std.specs.Prelude.{◌≡◌, Bool, true, false, cond, List, ℕ, eqb}
use Rattle.xosera.specs.State.{is_set}
use Rattle.xosera.specs.Words.{without_bit}
use Rattle.xosera.specs.Adapter.{Adapter}
use Rattle.xosera.specs.Blitter.{words_left}
use Rattle.xosera.specs.Events.{Call, Event, write, read, tick, beam, line}
use Rattle.calls.specs.Refusals.{Fit, blitter_full}
use Rattle.order.specs.Order.{AllCalls, Keeps, agreed, Alike, blit_first}

-- A call that tries to write a blitter register while a blit is queued; a refused one counts as tried.
unfoldable pub call_tries : Adapter → Call → Bool
call_tries a (write r odd b) = blitter_full a r odd
call_tries a (read r odd) = false
call_tries a tick = false
call_tries a beam = false
call_tries a line = false

-- The bits of an answer that must agree: where a blit was queued at first, bit 14 as read at 0 (bit 6 of its high byte) may
-- differ too.
unfoldable pub without_full : Call → ℕ → ℕ
without_full (read r true) v = v
without_full (read r false) v = cond (eqb r 0) (without_bit 6 v) v
without_full (write r odd b) v = v
without_full tick v = v
without_full beam v = v
without_full line v = v

unfoldable pub agreed_work : Bool → Call → ℕ → ℕ
agreed_work full c v = agreed c (cond full (without_full c v) v)

-- The order of things for all pending work: with at least as many steps in the list as words are left, it may as well be done first.
abbrev pub OrderOfWork : Type 0
OrderOfWork =
    (a : Adapter) (es : List Event) →
    Fit a →
    Keeps (words_left a) a es →
    AllCalls (λ b c. call_tries b c ≡ false) a es →
    Alike (agreed_work (is_set a.queued)) a es a (blit_first (words_left a) es)
