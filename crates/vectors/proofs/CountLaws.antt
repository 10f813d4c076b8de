-- What is counted of a call that is as wanted, and of one that differs. Assumes nothing.
use Rattle.std.proofs.Common.{◌≡◌, ℕ, Bool, true, false, not, List, sym, true≢false}
use Rattle.vectors.specs.Counts.{counted, answered, tallied}

pub tallied_same : (before after : List (List ℕ)) (kind number : ℕ) (same : Bool) → not same ≡ false → after ≡ answered before kind number
    → after ≡ tallied before kind number same
unfolding tallied
tallied_same before after kind number true s e = e
tallied_same before after kind number false s e = absurd (true≢false s)

pub tallied_other : (before between after : List (List ℕ)) (kind number : ℕ) (same : Bool) → not same ≡ true → between ≡ answered before kind number
    → after ≡ counted between kind 31 → after ≡ tallied before kind number same
unfolding tallied
tallied_other before between after kind number true s e f = absurd (true≢false (sym s))
tallied_other before between after kind number false s e f = rw (← e) f
