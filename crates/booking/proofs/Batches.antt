-- Reservations, as they are read and posted in turn. Assumes nothing.
use Rattle.std.proofs.Common.{◌≡◌, ℕ, ◌+◌, ◌<◌, List, Some, Ok, Err, Option, Result, MatchResult, IsErrAnd, sym, ap, ◌∙◌}
use Rattle.lines.specs.Matrix.{Matrix}
use Rattle.lines.specs.Verdicts.{answered, or_same}
use Rattle.owed.specs.declared.decline.OwedDecline.{OwedDecline}
use Rattle.owed.specs.Calls.{add_decline, added}
use Rattle.records.specs.declared.reservation.Reservation.{Reservation}
use Rattle.records.specs.Reservations.{how_many, reservation_at, reservations}
use Rattle.law.specs.declared.decline.SessionDecline.{SessionDecline}
use Rattle.law.specs.declared.decline.SessionDecline.TheVariants.{Record}
use Rattle.law.specs.Refusals.{records_decline}
use Rattle.law.proofs.Said.{none_answered, some_answered}
use Rattle.law.proofs.Batches.{Batched, batched_declines, batched_more}

-- the decline that a `?` hands on
pub failed : {A E : Type 0} (P : A → Type 0) (R : E → Type 0) (r : Result A E) (Q : E → Type 0) → IsErrAnd r Q → ((d : E) → Q d → R d) → MatchResult r P R
failed P R (Ok x) Q h k = absurd h
failed P R (Err d) Q h k = k d h

-- reservation k was read as x
module _ {n k : ℕ} (bytes : List ℕ) {first next : Matrix} (w : Batched n bytes first next k) (x : Reservation) (reads_on : k < how_many bytes) (is : x ≡ reservation_at bytes k) where
  abbrev declined : Reservation → Option OwedDecline
  declined r = add_decline n next r.up r.down r.units

  module _ (l u : ℕ) (lines : l ≡ n) (units : u ≡ x.units) where
    same : add_decline l next x.up x.down u ≡ declined (reservation_at bytes k)
    same = ap (λ (y : ℕ). add_decline y next x.up x.down u) lines ∙ ap (λ (y : ℕ). add_decline n next x.up x.down y) units ∙ ap declined is

    pub posting_declines : (d : OwedDecline) → Err d ≡ answered (add_decline l next x.up x.down u) → (y : SessionDecline) → y ≡ Record k x.station d → records_decline n 0 (reservations bytes) first ≡ Some y
    posting_declines d e y y-is = batched_declines n bytes first next k w reads_on d (sym same ∙ some_answered _ d e) ∙ ap (λ (r : Reservation). Some (Record k r.station d)) (sym is) ∙ ap Some (sym y-is)

    pub posting_more : Ok tt ≡ answered (add_decline l next x.up x.down u) → (after : Matrix) →
        ((a b : ℕ) → after a b ≡ or_same (add_decline l next x.up x.down u) (added next x.up.0 x.down.0 u) next a b) → Batched n bytes first after (k + 1)
    posting_more e after raised =
        let free = none_answered _ e in
        batched_more n bytes first next k w reads_on (sym same ∙ free) after
        (λ a b. raised a b ∙ ap (λ (v : Option OwedDecline). or_same v (added next x.up.0 x.down.0 u) next a b) free ∙ ap (λ (y : ℕ). added next x.up.0 x.down.0 y a b) units ∙ ap (λ (r : Reservation). added next r.up.0 r.down.0 r.units a b) is)
