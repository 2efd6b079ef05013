-- A tally, record after record. Assumes nothing.
use Rattle.std.proofs.Common.{◌≡◌, ℕ, ◌+◌, ◌<◌, ◌≤◌, List, [], ◌∷◌, ◌++◌, sym, ap, ◌∙◌, arith}
use Rattle.lines.specs.Matrix.{Matrix}
use Rattle.schedule.specs.declared.Mode.{Mode}
use Rattle.schedule.specs.Modes.{AllSound, span, granted, grants}
use Rattle.schedule.proofs.Modes.{granted_within}
use Rattle.records.specs.Layout.{mode_of, Proper}
use Rattle.records.specs.Reader.{part}
use Rattle.records.specs.Files.{modes_below}
use Rattle.records.proofs.Files.{modes_none, modes_more, proper_none, proper_more, all_sound}
use Rattle.checker.specs.Check.{Tallied}

span_push : (ms : List Mode) (m : Mode) → span (ms ++ m ∷ []) ≡ span ms + m.dwell
span_push [] m = omega arith
span_push (x ∷ xs) m = omega (arith, span_push xs m)

grants_push : (ms : List Mode) (m : Mode) (i j : ℕ) → grants (ms ++ m ∷ []) i j ≡ grants ms i j + granted m i j
grants_push [] m i j = omega arith
grants_push (x ∷ xs) m i j = omega (arith, grants_push xs m i j)

-- no crosspoint is granted more than the schedule is long
within : (n : ℕ) (ms : List Mode) → AllSound n ms → (i j : ℕ) → grants ms i j ≤ span ms
within n [] h i j = omega arith
within n (m ∷ ms) h i j = omega (arith, granted_within n m h.0 i j, within n ms h.1 i j)

pub tally_within : (n : ℕ) (file : List ℕ) (k long : ℕ) (p : Matrix) → Tallied n file k long p → (x y : ℕ) → x < n → p x y ≤ long
tally_within n file k long p t x y l = omega (arith, t.total x y l, t.lasts, within n (modes_below k file) (all_sound n k file t.proper) x y)

pub tallied_none : (n : ℕ) (file : List ℕ) (p : Matrix) → ((x y : ℕ) → x < n → p x y ≡ 0) → Tallied n file 0 0 p
tallied_none n file p zeros = record {
  proper = proper_none n file;
  lasts = sym (ap span (modes_none file));
  total = λ x y l. zeros x y l ∙ sym (ap (λ (ms : List Mode). grants ms x y) (modes_none file));
}

pub tallied_more : (n : ℕ) (file : List ℕ) (k long d : ℕ) (p q : Matrix) (m : Mode) → Tallied n file k long p → Proper n (part file k) → m ≡ mode_of (part file k) → d ≡ m.dwell → ((x y : ℕ) → x < n → q x y ≡ p x y + granted m x y) → Tallied n file (k + 1) (long + d) q
tallied_more n file k long d p q m t proper is lasts adds =
    let next : modes_below (k + 1) file ≡ modes_below k file ++ m ∷ [] = modes_more k file ∙ ap (λ (x : Mode). modes_below k file ++ x ∷ []) (sym is) in
    record {
      proper = proper_more n k file t.proper proper;
      lasts = omega (arith, t.lasts, span_push (modes_below k file) m, ap span next);
      total = λ x y l. omega (arith, adds x y l, t.total x y l, grants_push (modes_below k file) m x y, ap (λ (ms : List Mode). grants ms x y) next);
    }
