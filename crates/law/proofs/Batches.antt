-- Batches, as a session shows them: records posted one after the other. Assumes nothing.
use Rattle.std.proofs.Common.{◌≡◌, ℕ, ◌+◌, ◌<◌, ◌≤◌, List, [], ◌∷◌, drop, Some, None, Option, sym, ap, ◌∙◌, subst, arith, Bor}
use Rattle.std.proofs.lemmas.List.{drop_all}
use Rattle.lines.specs.Matrix.{Matrix}
use Rattle.lines.specs.Verdicts.{or_else}
use Rattle.owed.specs.declared.decline.OwedDecline.{OwedDecline}
use Rattle.owed.specs.Calls.{add_decline, added}
use Rattle.records.specs.declared.reservation.Reservation.{Reservation}
use Rattle.records.specs.Reservations.{how_many, reservation_at, reservations}
use Rattle.records.proofs.Reservations.{length_reservations, drop_reservations}
use Rattle.law.specs.declared.call.Call.TheVariants.{Batch}
use Rattle.law.specs.declared.answer.Answer.{Answer}
use Rattle.law.specs.declared.decline.SessionDecline.TheVariants.{Record}
use Rattle.law.specs.States.{State}
use Rattle.law.specs.Runs.{ModeRun}
use Rattle.law.specs.Refusals.{unless_planned, of_record, records_decline, batch_decline}
use Rattle.law.specs.Calls.{Maker, reserved, Books, Does, does, does_not, wants_memory}

same_units : (f g : Matrix) → ((a b : ℕ) → f a b ≡ g a b) → f ≡ g
same_units f g h i a b = h a b i

-- the first k records have been posted
pub record Batched (n : ℕ) (bytes : List ℕ) (first here : Matrix) (k : ℕ) : Type 0 where
  pub sums : (a b : ℕ) → here a b + reserved (drop k (reservations bytes)) a b ≡ first a b + reserved (reservations bytes) a b
  pub verdict : records_decline n 0 (reservations bytes) first ≡ records_decline n k (drop k (reservations bytes)) here

module _ (n : ℕ) (bytes : List ℕ) (first here : Matrix) (k : ℕ) (w : Batched n bytes first here k) (inside : k < how_many bytes) where
  abbrev x : Reservation
  x = reservation_at bytes k

  abbrev rest : List Reservation
  rest = drop (k + 1) (reservations bytes)

  next : drop k (reservations bytes) ≡ x ∷ rest
  next = drop_reservations bytes k inside

  said : records_decline n 0 (reservations bytes) first ≡ or_else (of_record k x (add_decline n here x.up x.down x.units)) (records_decline n (k + 1) rest (added here x.up.0 x.down.0 x.units))
  said = w.verdict ∙ ap (λ (l : List Reservation). records_decline n k l here) next

  -- record k is declined
  pub batched_declines : (e : OwedDecline) → add_decline n here x.up x.down x.units ≡ Some e → records_decline n 0 (reservations bytes) first ≡ Some (Record k x.station e)
  batched_declines e h = said ∙ ap (λ (o : Option OwedDecline). or_else (of_record k x o) (records_decline n (k + 1) rest (added here x.up.0 x.down.0 x.units))) h

  -- record k is posted
  pub batched_more : add_decline n here x.up x.down x.units ≡ None → (after : Matrix) → ((a b : ℕ) → after a b ≡ added here x.up.0 x.down.0 x.units a b) → Batched n bytes first after (k + 1)
  batched_more h after e = record {
    sums = λ a b. omega (arith, w.sums a b, e a b, ap (λ (l : List Reservation). reserved l a b) next);
    verdict =
        said
        ∙ ap (λ (o : Option OwedDecline). or_else (of_record k x o) (records_decline n (k + 1) rest (added here x.up.0 x.down.0 x.units))) h
        ∙ ap (λ (m : Matrix). records_decline n (k + 1) rest m) (sym (same_units after (added here x.up.0 x.down.0 x.units) e));
  }

-- all records have been posted
module _ (n : ℕ) (bytes : List ℕ) (first here : Matrix) (k : ℕ) (w : Batched n bytes first here k) (end : how_many bytes ≤ k) where
  over : drop k (reservations bytes) ≡ []
  over = drop_all k (reservations bytes) (omega (arith, length_reservations bytes))

  pub batched_free : records_decline n 0 (reservations bytes) first ≡ None
  batched_free = w.verdict ∙ ap (λ (l : List Reservation). records_decline n k l here) over

  pub batched_sums : (a b : ℕ) → here a b ≡ first a b + reserved (reservations bytes) a b
  batched_sums a b = omega (arith, w.sums a b, ap (λ (l : List Reservation). reserved l a b) over)

-- what a batch does depends on its bytes alone
pub same_bytes : {M : Maker} (x y : Bor (List ℕ)) {r : Answer} {rs : List ModeRun} {before after : List ℕ} {s t : State} → x.now ≡ y.now → Does M (Batch x) r rs before after s t → Does M (Batch y) r rs before after s t
same_bytes x y {r} {rs} {before} {after} {s} {t} e (does h k) =
    does (subst (λ (l : List ℕ). unless_planned s.plan (batch_decline s.lines s.owed l) ≡ None) e h) (subst (λ (l : List ℕ). Books (reserved (reservations l)) (λ _ _. 0) r rs before after s t) e k)
same_bytes x y {s = s} e (does_not d h a k) = does_not d (subst (λ (l : List ℕ). unless_planned s.plan (batch_decline s.lines s.owed l) ≡ Some d) e h) a k
same_bytes x y e (wants_memory _ p _ _) = let z : ◌≡◌ {A = ℕ} 0 1 = cc in absurd (omega arith)
