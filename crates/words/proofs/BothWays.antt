-- What a test shows of both truth values holds of each; and so for four of them.
use mathlib.Core.Bool.{Bool, true, false, ◌&&◌}
use lib.Dec.{T}
use Rattle.xosera.proofs.Branches.{both}

abbrev pub both_ways : (Bool → Bool) → Bool
both_ways p = p true && p false

either : (p : Bool → Bool) → T (both_ways p) → (b : Bool) → T (p b)
either p t true = (both (p true) (p false) t).0
either p t false = (both (p true) (p false) t).1

abbrev pub all_ways : (Bool → Bool → Bool → Bool → Bool) → Bool
all_ways f = both_ways (λ p. both_ways (λ q. both_ways (λ r. both_ways (f p q r))))

pub ways : (f : Bool → Bool → Bool → Bool → Bool) → T (all_ways f) → (p q r s : Bool) → T (f p q r s)
ways f t p q r =
    let at_p : T (both_ways (λ q. both_ways (λ r. both_ways (f p q r)))) = either (λ p. both_ways (λ q. both_ways (λ r. both_ways (f p q r)))) t p in
    let at-q : T (both_ways (λ r. both_ways (f p q r))) = either (λ q. both_ways (λ r. both_ways (f p q r))) at_p q in
    either (f p q r) (either (λ r. both_ways (f p q r)) at-q r)
