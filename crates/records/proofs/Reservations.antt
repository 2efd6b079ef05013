-- The list of reservations, place by place. Assumes nothing.
use Rattle.std.proofs.Common.{◌≡◌, ℕ, ◌+◌, ◌*◌, ◌<◌, ◌≤◌, ltb, List, [], ◌∷◌, length, get_or, take, drop, Some, None, Option, MatchOption, if◌then◌else◌, nat_lt, sym, ap, ◌∙◌, inl, inr, arith, get_or-drop, get_or-take}
use Rattle.std.proofs.lemmas.Bool.{cases_lt, cond-true, cond-false, lt-ltb, le-ltb}
use Rattle.std.proofs.lemmas.List.FromFn.{length-map-range_with_len, get_or-map-range_with_len}
use Rattle.std.proofs.lemmas.List.{drop_more, drop_all}
use Rattle.records.specs.declared.reservation.Reservation.{Reservation}
use Rattle.records.specs.Reservations.{how_many, reservation_at, reservations, numbered}

pub length_reservations : (bytes : List ℕ) → length (reservations bytes) ≡ how_many bytes
unfolding reservations
length_reservations bytes = length-map-range_with_len (reservation_at bytes) 0 (how_many bytes)

pub getD_reservations : (bytes : List ℕ) (k : ℕ) (d : Reservation) → k < how_many bytes → get_or (reservations bytes) k d ≡ reservation_at bytes k
unfolding reservations
getD_reservations bytes k d l = get_or-map-range_with_len (reservation_at bytes) 0 (how_many bytes) k k d l (omega arith)

-- those from k on: reservation k, then those after it
pub drop_reservations : (bytes : List ℕ) (k : ℕ) → k < how_many bytes → drop k (reservations bytes) ≡ reservation_at bytes k ∷ drop (k + 1) (reservations bytes)
drop_reservations bytes k l =
    drop_more (reservations bytes) k (reservation_at bytes k) (omega (arith, length_reservations bytes))
    ∙ ap (λ (x : Reservation). x ∷ drop (k + 1) (reservations bytes)) (getD_reservations bytes k (reservation_at bytes k) l)

length_numbered : (bytes : List ℕ) → length (numbered bytes) ≡ how_many bytes
unfolding numbered
length_numbered bytes = length-map-range_with_len (λ k. (k, reservation_at bytes k)) 0 (how_many bytes)

drop_numbered : (bytes : List ℕ) (k : ℕ) → k < how_many bytes → drop k (numbered bytes) ≡ (k, reservation_at bytes k) ∷ drop (k + 1) (numbered bytes)
unfolding numbered
drop_numbered bytes k l =
    drop_more (numbered bytes) k (k, reservation_at bytes k) (omega (arith, length_numbered bytes))
    ∙ ap (λ (x : ℕ × Reservation). x ∷ drop (k + 1) (numbered bytes)) (get_or-map-range_with_len (λ h. (h, reservation_at bytes h)) 0 (how_many bytes) k k (k, reservation_at bytes k) l (omega arith))

drop_numbered_none : (bytes : List ℕ) (k : ℕ) → how_many bytes ≤ k → drop k (numbered bytes) ≡ []
drop_numbered_none bytes k g = drop_all k (numbered bytes) (omega (arith, length_numbered bytes))

-- what reading reservation k tells of those from k on
pub drop_read : (bytes : List ℕ) (k : ℕ) (r : Option Reservation) → r ≡ (if nat_lt k (how_many bytes) then Some (reservation_at bytes k) else None)
    → MatchOption r (drop k (numbered bytes) ≡ []) (λ x. drop k (numbered bytes) ≡ (k, x) ∷ drop (k + 1) (numbered bytes))
drop_read bytes k r e =
    elim (cases_lt k (how_many bytes)) [
      | inl l ↦ rw (e, cond-true (ltb k (how_many bytes)) (Some (reservation_at bytes k)) None (lt-ltb k (how_many bytes) l)) (drop_numbered bytes k l)
      | inr g ↦ rw (e, cond-false (ltb k (how_many bytes)) (Some (reservation_at bytes k)) None (le-ltb k (how_many bytes) g)) (drop_numbered_none bytes k g)
    ]

-- one turn of a loop over the reservations, at reservation k
pub turn : (bytes : List ℕ) (k : ℕ) (x : ℕ × Reservation) (before after : List (ℕ × Reservation)) → before ≡ drop k (numbered bytes) → before ≡ x ∷ after
    → (k < how_many bytes) × (x.0 ≡ k) × (x.1 ≡ reservation_at bytes k) × (after ≡ drop (k + 1) (numbered bytes))
turn bytes k x before after at gives =
    elim (cases_lt k (how_many bytes)) [
      | inl l ↦
          let both : x ∷ after ≡ (k, reservation_at bytes k) ∷ drop (k + 1) (numbered bytes) = sym gives ∙ at ∙ drop_numbered bytes k l in
          let first : x ≡ (k, reservation_at bytes k) = cc in
          let rest : after ≡ drop (k + 1) (numbered bytes) = cc in
          (l, ap (λ (y : ℕ × Reservation). y.0) first, ap (λ (y : ℕ × Reservation). y.1) first, rest)
      | inr g ↦
          let none : x ∷ after ≡ [] = sym gives ∙ at ∙ drop_numbered_none bytes k g in
          absurd cc
    ]

-- and its end
pub turns_end : (bytes : List ℕ) (k : ℕ) (before : List (ℕ × Reservation)) → before ≡ drop k (numbered bytes) → before ≡ [] → how_many bytes ≤ k
turns_end bytes k before at none =
    elim (cases_lt k (how_many bytes)) [
      | inl l ↦
          let some : [] ≡ (k, reservation_at bytes k) ∷ drop (k + 1) (numbered bytes) = sym none ∙ at ∙ drop_numbered bytes k l in
          absurd cc
      | inr g ↦ g
    ]

-- a reservation stands in its six bytes
pub reservation_in_part : (bytes : List ℕ) (k : ℕ) → reservation_at (take 6 (drop (6 * k) bytes)) 0 ≡ reservation_at bytes k
reservation_in_part bytes k =
    let byte : (t a : ℕ) → t < 6 → 6 * k + t ≡ a → get_or (take 6 (drop (6 * k) bytes)) t 0 ≡ get_or bytes a 0 =
    λ t a l e. get_or-take 6 (drop (6 * k) bytes) t 0 l ∙ get_or-drop (6 * k) bytes t 0 ∙ ap (λ (i : ℕ). get_or bytes i 0) e in
    let up = byte 0 (6 * k) (omega arith) (omega arith) in
    let down = byte 1 (6 * k + 1) (omega arith) (omega arith) in
    let units_high = byte 2 (6 * k + 2) (omega arith) (omega arith) in
    let units_low = byte 3 (6 * k + 2 + 1) (omega arith) (omega arith) in
    let station_high = byte 4 (6 * k + 4) (omega arith) (omega arith) in
    let station_low = byte 5 (6 * k + 4 + 1) (omega arith) (omega arith) in
    λ i. record {
      up = record { 0 = up i };
      down = record { 0 = down i };
      units = 256 * units_high i + units_low i;
      station = 256 * station_high i + station_low i;
    }
