-- Timer ticks (document 01, "Host bytes", last paragraph).
use Rattle.std.specs.Prelude.{Bool, false, cond, ℕ, ◌-◌, eqb}
use Rattle.xosera.specs.State.{Timer}
use Rattle.xosera.specs.Words.{wrap}
use Rattle.xosera.specs.Fields.{timer_expired}
use Rattle.xosera.specs.Memories.{no_store}
use Rattle.xosera.specs.Adapter.{Side, with_host, with_timer}
use Rattle.xosera.specs.Plan.{Act, unchanged, raised}

-- The countdown that this tick brings to 0.
unfoldable pub expires : Timer → Bool
expires t = eqb t.countdown 1

-- The countdown after a tick: one less, the interval again where that is 0; a stopped one stays 0.
unfoldable pub lowered : Timer → ℕ
lowered t = cond (expires t) t.interval (t.countdown - 1)

-- A tick adds 1 to the timer, 0 after 65,535, and lowers a running countdown.
unfoldable pub ticked : Timer → Timer
ticked t = record { count = wrap t.count 1; countdown = lowered t; interval = t.interval; saved = t.saved }

-- A countdown that reaches 0 sets status bit 5.
unfoldable pub tick : Side → Act
tick s = record {
  side = with_host s (with_timer s.host (ticked s.host.timer));
  store = no_store;
  load = false;
  start = false;
  status = cond (expires s.host.timer) (raised timer_expired) unchanged;
}
