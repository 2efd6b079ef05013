-- Reservations of 6 bytes. Assumes nothing.
use Rattle.std.specs.Prelude.{ℕ, ◌+◌, ◌*◌, ◌/◌, List, map, length, drop, slice_index}
use Rattle.std.specs.List.{range_with_len}
use Rattle.lines.specs.Matrix.{uplink, downlink}
use Rattle.records.specs.declared.reservation.Reservation.{Reservation}
use Rattle.records.specs.declared.reservation.ReservationIter.{ReservationIter}
use Rattle.records.specs.Layout.{word}

-- how many whole reservations the bytes hold
abbrev pub how_many : List ℕ → ℕ
how_many bytes = length bytes / 6

-- reservation k
abbrev pub reservation_at : List ℕ → ℕ → Reservation
reservation_at bytes k = record {
  up = uplink (slice_index bytes (6 * k));
  down = downlink (slice_index bytes (6 * k + 1));
  units = word bytes (6 * k + 2);
  station = word bytes (6 * k + 4);
}

-- all whole reservations
unfoldable pub reservations : List ℕ → List Reservation
reservations bytes = map (reservation_at bytes) (range_with_len 0 (how_many bytes))

-- all of them, each with its number
unfoldable pub numbered : List ℕ → List (ℕ × Reservation)
numbered bytes = map (λ k. (k, reservation_at bytes k)) (range_with_len 0 (how_many bytes))

-- those that an iterator has still to give
abbrev pub left : ReservationIter → List (ℕ × Reservation)
left s = drop s.next (numbered s.bytes.now)
