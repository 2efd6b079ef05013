-- The modes of a file, record after record. Assumes nothing.
use Rattle.std.proofs.Common.{◌≡◌, ℕ, zero, suc, ◌+◌, ◌<◌, ◌≤◌, List, [], ◌∷◌, ◌++◌, length, get_or, drop, refl, sym, ap, ◌∙◌, inl, inr, arith}
use Rattle.std.proofs.lemmas.Bool.{cases_eq, cases_lt}
use Rattle.std.proofs.lemmas.List.FromFn.{length-map-range_with_len, get_or-map-range_with_len, map-range_with_len_more}
use Rattle.std.proofs.lemmas.List.{drop_more, drop_all}
use Rattle.schedule.specs.declared.Mode.{Mode}
use Rattle.schedule.specs.Modes.{Sound, AllSound}
use Rattle.records.specs.declared.record.Record.{Record}
use Rattle.records.specs.Layout.{mode_of, Proper}
use Rattle.records.specs.Reader.{part, Shows, shown, parts}
use Rattle.records.specs.Files.{count, AllProper, modes_below}

pub modes_none : (file : List ℕ) → modes_below 0 file ≡ []
unfolding modes_below
modes_none file = refl

pub modes_more : (k : ℕ) (file : List ℕ) → modes_below (k + 1) file ≡ modes_below k file ++ mode_of (part file k) ∷ []
unfolding modes_below
modes_more k file = map-range_with_len_more (λ h. mode_of (part file h)) 0 k k (omega arith)

pub length_modes : (k : ℕ) (file : List ℕ) → length (modes_below k file) ≡ k
unfolding modes_below
length_modes k file = length-map-range_with_len (λ h. mode_of (part file h)) 0 k

pub getD_modes : (k : ℕ) (file : List ℕ) (h : ℕ) (d : Mode) → h < k → get_or (modes_below k file) h d ≡ mode_of (part file h)
unfolding modes_below
getD_modes k file h d l = get_or-map-range_with_len (λ x. mode_of (part file x)) 0 k h h d l (omega arith)

-- one proper record more
pub proper_none : (n : ℕ) (file : List ℕ) → AllProper n 0 file
proper_none n file h l = absurd (omega arith)

pub proper_more : (n k : ℕ) (file : List ℕ) → AllProper n k file → Proper n (part file k) → AllProper n (k + 1) file
proper_more n k file all here h l = elim (cases_eq h k) [ inl e ↦ rw e here | inr ne ↦ all h (omega arith) ]

sound_push : (n : ℕ) (ms : List Mode) (m : Mode) → AllSound n ms → Sound n m → AllSound n (ms ++ m ∷ [])
sound_push n [] m h s = (s, tt)
sound_push n (x ∷ xs) m h s = (h.0, sound_push n xs m h.1 s)

-- proper records say sound modes
pub all_sound : (n k : ℕ) (file : List ℕ) → AllProper n k file → AllSound n (modes_below k file)
all_sound n zero file h = rw (modes_none file) tt
all_sound n (suc k) file h =
    let next : suc k ≡ k + 1 = omega arith in
    rw (next, modes_more k file) (sound_push n (modes_below k file) (mode_of (part file k)) (all_sound n k file (λ x l. h x (omega arith))) (h k (omega arith)).sound)

length_parts : (file : List ℕ) → length (parts file) ≡ count file
unfolding parts
length_parts file = length-map-range_with_len (λ k. (k, part file k)) 0 (count file)

-- the records from k on: record k, then those after it
pub drop_parts : (file : List ℕ) (k : ℕ) → k < count file → drop k (parts file) ≡ (k, part file k) ∷ drop (k + 1) (parts file)
unfolding parts
drop_parts file k l =
    drop_more (parts file) k (k, part file k) (omega (arith, length_parts file))
    ∙ ap (λ (x : ℕ × List ℕ). x ∷ drop (k + 1) (parts file)) (get_or-map-range_with_len (λ h. (h, part file h)) 0 (count file) k k (k, part file k) l (omega arith))

pub drop_shown : (file : List ℕ) (k : ℕ) (p : Record) → Shows file k p → drop k (parts file) ≡ shown p ∷ drop (k + 1) (parts file)
drop_shown file k p shows =
    let there : k < count file = omega (arith, shows.there) in
    drop_parts file k there ∙ (λ i. (sym shows.place i, sym shows.bytes i) ∷ drop (k + 1) (parts file))

-- and none, where there are no more than k
pub drop_parts_none : (file : List ℕ) (k : ℕ) → count file ≤ k → drop k (parts file) ≡ []
drop_parts_none file k g = drop_all k (parts file) (omega (arith, length_parts file))

-- one turn of a loop over the records of a file, at record k
pub turn : (file : List ℕ) (k : ℕ) (p : Record) (before after : List (ℕ × List ℕ)) → before ≡ drop k (parts file) → before ≡ shown p ∷ after
    → Shows file k p × (after ≡ drop (k + 1) (parts file))
turn file k p before after at gives =
    elim (cases_lt k (count file)) [
      | inl l ↦
          let both : shown p ∷ after ≡ (k, part file k) ∷ drop (k + 1) (parts file) = sym gives ∙ at ∙ drop_parts file k l in
          let first : shown p ≡ (k, part file k) = cc in
          let rest : after ≡ drop (k + 1) (parts file) = cc in
          (record { there = omega arith; bytes = ap (λ (x : ℕ × List ℕ). x.1) first; place = ap (λ (x : ℕ × List ℕ). x.0) first }, rest)
      | inr g ↦
          let none : shown p ∷ after ≡ [] = sym gives ∙ at ∙ drop_parts_none file k g in
          absurd cc
    ]

-- and its end
pub turns_end : (file : List ℕ) (k : ℕ) (before : List (ℕ × List ℕ)) → before ≡ drop k (parts file) → before ≡ [] → count file ≤ k
turns_end file k before at none =
    elim (cases_lt k (count file)) [
      | inl l ↦
          let some : [] ≡ (k, part file k) ∷ drop (k + 1) (parts file) = sym none ∙ at ∙ drop_parts file k l in
          absurd cc
      | inr g ↦ g
    ]
