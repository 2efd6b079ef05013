-- The grants of a record, place by place. Assumes nothing.
use Rattle.std.proofs.Common.{◌≡◌, ℕ, ◌<◌, List, length, get_or, Option, arith}
use Rattle.std.proofs.lemmas.List.FromFn.{length-map-range_with_len, get_or-map-range_with_len}
use Rattle.schedule.specs.declared.Join.{Join}
use Rattle.records.specs.Layout.{entry_at, grant_in, row_in}

pub length_row : (r : List ℕ) → length (row_in r) ≡ 16
unfolding row_in
length_row r = length-map-range_with_len (λ i. grant_in (entry_at r i)) 0 16

pub getD_row : (r : List ℕ) (i : ℕ) (d : Option Join) → i < 16 → get_or (row_in r) i d ≡ grant_in (entry_at r i)
unfolding row_in
getD_row r i d l = get_or-map-range_with_len (λ k. grant_in (entry_at r k)) 0 16 i i d l (omega arith)
