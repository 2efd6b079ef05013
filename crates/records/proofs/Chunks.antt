-- Chunks of equal size. Assumes nothing.
use Rattle.std.proofs.Common.{◌≡◌, ℕ, zero, suc, ◌+◌, ◌*◌, ◌<◌, List, get_or, take, drop, sym, ap, ◌∙◌, mul-suc, arith, drop-drop}
use Rattle.std.specs.Simd.{first_chunks}

-- chunk h of the first k
pub chunk_at : {X : Type 0} (n k : ℕ) (xs : List X) (h : ℕ) (d : List X) → h < k → get_or (first_chunks n k xs) h d ≡ take n (drop (n * h) xs)
chunk_at n zero xs h d l = absurd (omega arith)
chunk_at n (suc k) xs zero d l =
    let e : n * 0 ≡ 0 = omega arith in
    ap (λ (m : ℕ). take n (drop m xs)) (sym e)
chunk_at n (suc k) xs (suc h) d l =
    let e : n + n * h ≡ n * suc h = omega (arith, mul-suc n h) in
    chunk_at n k (drop n xs) h d (omega arith)
    ∙ ap (take n) (drop-drop (n * h) n xs)
    ∙ ap (λ (m : ℕ). take n (drop m xs)) e
