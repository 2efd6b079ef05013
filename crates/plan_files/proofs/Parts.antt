-- Parts of equal size one after the other, and those of a record. Assumes nothing.
use Rattle.std.proofs.Common.{◌≡◌, ℕ, zero, suc, ◌+◌, ◌*◌, ◌<◌, ltb, List, [], ◌∷◌, ◌++◌, length, get_or, take, drop, Some, None, Option, sym, refl, ap, ◌∙◌, mul-suc, arith, length-append, drop-drop, take_at, drop_at}
use Rattle.std.specs.List.{flat_map, AllByRecursion as All}
use Rattle.std.proofs.lemmas.Bool.{cond_both}
use Rattle.schedule.specs.declared.Join.{Join}
use Rattle.schedule.specs.declared.Mode.{Mode}
use Rattle.plan_files.specs.Encoding.{grant_bytes, header, encode, encoded, Full}

module _ {X A : Type 0} (w : ℕ) (f : X → List A) (P : X → Type 0) (each : (x : X) → P x → length (f x) ≡ w) where
  pub joined_length : (xs : List X) → All P xs → length (flat_map f xs) ≡ w * length xs
  joined_length [] h = omega arith
  joined_length (x ∷ xs) h = omega (arith, length-append (f x) (flat_map f xs), each x h.0, joined_length xs h.1, mul-suc w (length xs))

  pub joined_part : (xs : List X) (k : ℕ) (d : X) → All P xs → k < length xs → take w (drop (w * k) (flat_map f xs)) ≡ f (get_or xs k d)
  joined_part [] k d h l = absurd (omega arith)
  joined_part (x ∷ xs) zero d h l =
      let e : w * 0 ≡ 0 = omega arith in
      ap (λ (n : ℕ). take w (drop n (f x ++ flat_map f xs))) e ∙ take_at (f x) (flat_map f xs) w (each x h.0)
  joined_part (x ∷ xs) (suc k) d h l =
      let e : w * suc k ≡ w + w * k = omega (arith, mul-suc w k) in
      ap (λ (n : ℕ). take w (drop n (f x ++ flat_map f xs))) e
      ∙ ap (take w) (sym (drop-drop (w * k) w (f x ++ flat_map f xs)))
      ∙ ap (λ (ys : List A). take w (drop (w * k) ys)) (drop_at (f x) (flat_map f xs) w (each x h.0))
      ∙ joined_part xs k d h.1 (omega arith)

pub all_any : {X : Type 0} (xs : List X) → All (λ _. Unit {0}) xs
all_any [] = tt
all_any (x ∷ xs) = (tt, all_any xs)

pub grant_size : (g : Option Join) → length (grant_bytes g) ≡ 3
grant_size None = refl
grant_size (Some x) = cond_both (ltb x.down.0 254) _ _ (λ bytes. length bytes ≡ 3) (λ _. refl) (λ _. refl)

pub encode_length : (n : ℕ) (m : Mode) → Full m → length (encode n m) ≡ 52
encode_length n m full =
    omega (arith, length-append (header n m) (flat_map grant_bytes m.row), joined_length 3 grant_bytes (λ _. Unit {0}) (λ g _. grant_size g) m.row (all_any m.row))

pub encoded_length : (n : ℕ) (ms : List Mode) → All Full ms → length (encoded n ms) ≡ 52 * length ms
encoded_length n ms h = joined_length 52 (encode n) Full (encode_length n) ms h
