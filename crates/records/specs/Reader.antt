-- Records as parts of a file. Assumes nothing.
use Rattle.std.specs.Prelude.{◌≡◌, ℕ, ◌+◌, ◌*◌, ◌/◌, ◌≤◌, List, map, length, take, drop}
use Rattle.std.specs.List.{range_with_len}
use Rattle.records.specs.declared.record.Record.{Record}
use Rattle.records.specs.declared.record.RecordIter.{RecordIter}

-- record k of a file
abbrev pub part : List ℕ → ℕ → List ℕ
part file k = take 52 (drop (52 * k) file)

-- record k is wholly there
abbrev pub There : List ℕ → ℕ → Type 0
There file k = 52 * k + 52 ≤ length file

abbrev pub bytes_of : Record → List ℕ
bytes_of p = p.bytes.now

abbrev pub place_of : Record → ℕ
place_of p = p.place

-- p is record k of the file
pub record Shows (file : List ℕ) (k : ℕ) (p : Record) : Type 0 where
  pub there : There file k
  pub bytes : bytes_of p ≡ part file k
  pub place : place_of p ≡ k

-- what is read of a record
abbrev pub shown : Record → ℕ × List ℕ
shown p = (place_of p, bytes_of p)

-- the whole records of a file, each with its place
unfoldable pub parts : List ℕ → List (ℕ × List ℕ)
parts file = map (λ k. (k, part file k)) (range_with_len 0 (length file / 52))

-- those that an iterator has still to give
abbrev pub left : RecordIter → List (ℕ × List ℕ)
left s = drop s.next (parts s.file.now)
