-- Four words of the state tested at once.
use Rattle.std.specs.Prelude.{◌≡◌, ℕ, ◌+◌, ◌*◌, ◌<◌}

-- `r` is the four words, `a` the lowest.
pub record Lanes (a b c d r : ℕ) : Type 0 where
  pub sum : r ≡ ((d * 65536 + c) * 65536 + b) * 65536 + a
  pub a-fits : a < 65536
  pub b-fits : b < 65536
  pub c-fits : c < 65536
  pub d-fits : d < 65536
