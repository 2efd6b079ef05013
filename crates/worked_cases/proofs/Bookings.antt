-- Two bookings on three lines with nothing owed: as much as a line takes, and one unit more. Assumes nothing.
use Rattle.std.proofs.Common.{◌≡◌, ℕ, Some, None, refl, ap, ◌∙◌}
use Rattle.lines.specs.declared.Line.TheVariants.{Up}
use Rattle.lines.specs.Matrix.{Matrix, uplink, downlink}
use Rattle.lines.specs.Verdicts.{or_same}
use Rattle.owed.specs.declared.decline.OwedDecline.TheVariants.{LineFull}
use Rattle.owed.specs.Calls.{add_decline, added}

pub first_taken : (n : ℕ) (m : Matrix) → n ≡ 3 → ((a b : ℕ) → m a b ≡ 0) → add_decline n m (uplink 0) (downlink 0) 65535 ≡ None
first_taken n m e z = rw (e, z 0 0, z 0 1, z 0 2, z 1 0, z 2 0) refl

pub second_declined : (n k : ℕ) (m q : Matrix) → n ≡ 3 → k ≡ n → ((a b : ℕ) → m a b ≡ 0)
    → ((a b : ℕ) → q a b ≡ or_same (add_decline n m (uplink 0) (downlink 0) 65535) (added m 0 0 65535) m a b)
    → add_decline k q (uplink 0) (downlink 1) 1 ≡ Some (LineFull (Up (uplink 0)))
second_declined n k m q e same z h =
    let at : (a b : ℕ) → q a b ≡ added m 0 0 65535 a b = λ a b. h a b ∙ ap (λ d. or_same d (added m 0 0 65535) m a b) (first_taken n m e z) in
    rw (same, e, at 0 0, at 0 1, at 0 2, z 0 0, z 0 1, z 0 2) refl
