-- Written modes are read back. Assumes nothing.
use Rattle.std.proofs.Common.{◌≡◌, ℕ, zero, suc, ◌+◌, ◌*◌, ◌/◌, ◌%◌, ◌<◌, ltb, List, [], ◌∷◌, length, get_or, drop, Some, None, Option, sym, refl, ap, ◌∙◌, subst, arith, get_or-drop, get_or-take, get_or-append-add}
use native.Mathlib.Nat.{div-add-mod}
use Rattle.std.specs.List.{flat_map, AllByRecursion as All}
use Rattle.std.proofs.lemmas.Bool.{lt-ltb, cond-true}
use Rattle.std.proofs.lemmas.List.{ext_get_or}
use Rattle.std.proofs.ByRecursion.{All-get_or}
use Rattle.schedule.specs.declared.Join.{Join}
use Rattle.schedule.specs.declared.Mode.{Mode}
use Rattle.schedule.specs.Modes.{grant_of, Sound, AllSound, Serves}
use Rattle.records.specs.declared.record.Entry.{Entry}
use Rattle.records.specs.Layout.{word, lines_in, entry_at, grant_in, row_in, mode_of, Neat, Proper}
use Rattle.records.specs.Reader.{part}
use Rattle.records.specs.Files.{count, modes_in}
use Rattle.records.proofs.Rows.{length_row, getD_row}
use Rattle.records.proofs.Files.{length_modes, getD_modes}
use Rattle.plan_files.specs.Encoding.{grant_bytes, header, encode, encoded, Full, ComesBack, ServesOn}
use Rattle.plan_files.specs.Reading.{Lines}
use Rattle.plan_files.proofs.Parts.{joined_part, all_any, grant_size, encode_length, encoded_length}

-- the entry that the bytes of a grant say
abbrev said : Option Join → Entry
said g = record { down = record { 0 = get_or (grant_bytes g) 0 0 }; units = word (grant_bytes g) 1 }

-- of a grant that an entry can name, its downlink and its units
named : (x : Join) → x.down.0 < 254 → said (Some x) ≡ record { down = x.down; units = x.units }
named x l =
    let bytes : grant_bytes (Some x) ≡ (x.down.0 ∷ x.units / 256 ∷ x.units % 256 ∷ []) = cond-true (ltb x.down.0 254) _ _ (lt-ltb x.down.0 254 l) in
    let units : 256 * (x.units / 256) + x.units % 256 ≡ x.units = div-add-mod x.units 256 in
    ap (λ (b : List ℕ). record { down = record { 0 = get_or b 0 0 }; units = word b 1 }) bytes ∙ ap (λ (u : ℕ). record { down = x.down; units = u }) units

-- so it is read back
grant_back : (g : Option Join) → ((x : Join) → g ≡ Some x → x.down.0 < 254) → grant_in (said g) ≡ g
grant_back None h = refl
grant_back (Some x) h =
    let l : x.down.0 < 254 = h x refl in
    ap grant_in (named x l) ∙ cond-true (ltb x.down.0 254) _ _ (lt-ltb x.down.0 254 l)

-- and keeps the layout
neat : (n i : ℕ) (g : Option Join) → ((x : Join) → g ≡ Some x → (i < n) × (x.down.0 < 254)) → Neat n i (said g)
neat n i None h = record { idle = λ _. refl; spare = λ _. refl }
neat n i (Some x) h =
    let k = h x refl in
    subst (Neat n i) (sym (named x k.1)) (record { idle = λ ge. absurd (omega (arith, k.1)); spare = λ ge. absurd (omega (arith, k.0)) })

module _ (n : ℕ) (m : Mode) (full : Full m) where
  -- byte t of entry i
  byte : (i t a : ℕ) → i < 16 → t < 3 → a ≡ 4 + (3 * i + t) → get_or (encode n m) a 0 ≡ get_or (grant_bytes (grant_of m i)) t 0
  byte i t a li lt e =
      let rest : List ℕ = flat_map grant_bytes m.row in
      ap (λ (k : ℕ). get_or (encode n m) k 0) e
      ∙ get_or-append-add (header n m) rest (3 * i + t) 0
      ∙ sym (get_or-drop (3 * i) rest t 0)
      ∙ sym (get_or-take 3 (drop (3 * i) rest) t 0 lt)
      ∙ ap (λ (l : List ℕ). get_or l t 0) (joined_part 3 grant_bytes (λ _. Unit {0}) (λ g _. grant_size g) m.row i None (all_any m.row) (omega arith))

  entry_back : (i : ℕ) → i < 16 → entry_at (encode n m) i ≡ said (grant_of m i)
  entry_back i l =
      let down = byte i 0 (4 + 3 * i) l (omega arith) (omega arith) in
      let high = byte i 1 (5 + 3 * i) l (omega arith) (omega arith) in
      let low = byte i 2 (5 + 3 * i + 1) l (omega arith) (omega arith) in
      λ k. record { down = record { 0 = down k }; units = 256 * high k + low k }

  module _ (lines : Lines n) (sound : Sound n m) where
    row_back : row_in (encode n m) ≡ m.row
    row_back =
        ext_get_or None (row_in (encode n m)) m.row (length_row (encode n m) ∙ sym full) (λ i l.
        let inside : i < 16 = omega (arith, length_row (encode n m)) in
        getD_row (encode n m) i None inside ∙ ap grant_in (entry_back i inside) ∙ grant_back (grant_of m i) (λ x e. omega (arith, sound.downlinks i x e)))

    mode_back : mode_of (encode n m) ≡ m
    mode_back =
        let d : 256 * (m.dwell / 256) + m.dwell % 256 ≡ m.dwell = div-add-mod m.dwell 256 in
        let r = row_back in
        λ k. record { dwell = d k; row = r k }

    lines_back : lines_in (encode n m) ≡ n
    lines_back = omega arith

    proper_back : Proper n (encode n m)
    proper_back = record {
      layout = record {
        lines = lines_back;
        blank = refl;
        entries = λ i l. subst (Neat n i) (sym (entry_back i l)) (neat n i (grant_of m i) (λ x e. (sound.uplinks i x e, omega (arith, sound.downlinks i x e))));
      };
      sound = subst (Sound n) (sym mode_back) sound;
    }

sound_at : (n : ℕ) (ms : List Mode) (k : ℕ) (d : Mode) → AllSound n ms → k < length ms → Sound n (get_or ms k d)
sound_at n [] k d h l = absurd (omega arith)
sound_at n (m ∷ ms) zero d h l = h.0
sound_at n (m ∷ ms) (suc k) d h l = sound_at n ms k d h.1 (omega arith)

-- some mode, for a place that no list has
abbrev no_mode : Mode
no_mode = record { dwell = 0; row = [] }

module _ (n : ℕ) (ms : List Mode) (full : All Full ms) where
  written_part : (k : ℕ) → k < length ms → part (encoded n ms) k ≡ encode n (get_or ms k no_mode)
  written_part k l = joined_part 52 (encode n) Full (encode_length n) ms k no_mode full l

  written_count : count (encoded n ms) ≡ length ms
  written_count = omega (arith, encoded_length n ms full)

  pub comes_back : ComesBack n ms
  comes_back lines sound =
      let whole : length (encoded n ms) ≡ 52 * length ms = encoded_length n ms full in
      let many = written_count in
      record {
        whole = omega arith;
        lines = λ some. ap lines_in (written_part 0 some) ∙ lines_back n (get_or ms 0 no_mode) (All-get_or Full ms 0 no_mode some full) lines (sound_at n ms 0 no_mode sound some);
        proper = λ h l.
            let inside : h < length ms = omega arith in
            subst (Proper n) (sym (written_part h inside)) (proper_back n (get_or ms h no_mode) (All-get_or Full ms h no_mode inside full) lines (sound_at n ms h no_mode sound inside));
        modes = ext_get_or no_mode (modes_in (encoded n ms)) ms (length_modes (count (encoded n ms)) (encoded n ms) ∙ many) (λ i l.
            let there : i < count (encoded n ms) = omega (arith, length_modes (count (encoded n ms)) (encoded n ms)) in
            let inside : i < length ms = omega arith in
            getD_modes (count (encoded n ms)) (encoded n ms) i no_mode there
            ∙ ap mode_of (written_part i inside)
            ∙ mode_back n (get_or ms i no_mode) (All-get_or Full ms i no_mode inside full) lines (sound_at n ms i no_mode sound inside));
      }

  pub serves_on : ServesOn n ms
  serves_on m lines few serves =
      let says = comes_back lines serves.sound in
      let many = written_count in
      record { whole = says.whole; few = omega arith; proper = says.proper; serves = subst (λ (s : List Mode). Serves n s m) (sym says.modes) serves }
