-- What every plan keeps true, and what follows from it. Assumes nothing.
use Rattle.std.proofs.Common.{◌≡◌, ℕ, zero, suc, ◌<◌, ◌≤◌, List, [], ◌∷◌, length, Some, sym, refl, ap, ◌∙◌, arith}
use Rattle.lines.specs.declared.Downlink.{Downlink}
use Rattle.lines.specs.Matrix.{Matrix, busiest}
use Rattle.matching.specs.Answers.{May, AllRight}
use Rattle.schedule.specs.declared.Join.{Join}
use Rattle.schedule.specs.declared.Mode.{Mode}
use Rattle.schedule.specs.Modes.{grant_of, Sound, AllSound, span}
use Rattle.planning.specs.Making.{dwell_of, padded_left, owed_left, modes_from, MadeBy}
use Rattle.planning.specs.Best.{Best}
use Rattle.planning.specs.Kept.{mode_at, GrantIn, DwellsFit, LinesFit, UnitsFit, Single, RowsWhole, Kept}
use Rattle.planning.proofs.Grants.{row_long}
use Rattle.planning.proofs.Serving.{Fit, best}

-- each mode of a list is sound where each is by its place
all_from : (n : ℕ) (ms : List Mode) → ((k : ℕ) → k < length ms → Sound n (mode_at ms k)) → AllSound n ms
all_from n [] h = tt
all_from n (m ∷ ms) h = (h 0 (omega arith), all_from n ms (λ k l. h (suc k) (omega arith)))

sound_at : (n : ℕ) (ms : List Mode) → AllSound n ms → (k : ℕ) → k < length ms → Sound n (mode_at ms k)
sound_at n [] h k l = absurd (omega arith)
sound_at n (m ∷ ms) h zero l = h.0
sound_at n (m ∷ ms) h (suc k) l = sound_at n ms h.1 k (omega arith)

-- the facts of a plan say that each of its modes keeps the rules
pub mode_kept : (n : ℕ) (ms : List Mode) → DwellsFit ms → LinesFit n ms → UnitsFit ms → Single ms → (k : ℕ) → k < length ms → Sound n (mode_at ms k)
mode_kept n ms dwells lines units single k l = record {
  lasts = (dwells k l).0;
  ends = (dwells k l).1;
  uplinks = λ i x e. (lines (at i x e)).0;
  downlinks = λ i x e. (lines (at i x e)).1;
  some = λ i x e. (units (at i x e)).0;
  within = λ i x e. (units (at i x e)).1;
  apart = λ i h x y ei eh same. single (at i x ei) (at h y eh) (refl, same);
}
  where
    at : (i : ℕ) (x : Join) → grant_of (mode_at ms k) i ≡ Some x → GrantIn ms
    at i x e = record { mode = k; up = i; join = x; there = l; is = e }

pub all_kept : (n : ℕ) (ms : List Mode) → DwellsFit ms → LinesFit n ms → UnitsFit ms → Single ms → AllSound n ms
all_kept n ms dwells lines units single = all_from n ms (mode_kept n ms dwells lines units single)

-- a row has sixteen places
rows_whole : (n : ℕ) (p q : Matrix) (matchings : List (List Downlink)) → RowsWhole (modes_from n p q matchings)
rows_whole n p q [] k l = absurd (omega arith)
rows_whole n p q (mates ∷ rest) zero l = row_long n (dwell_of n p mates) q mates
rows_whole n p q (mates ∷ rest) (suc k) l = rows_whole n (padded_left n p mates) (owed_left n p q mates) rest k (omega arith)

-- a schedule with a length has a mode
pub some_mode : (ms : List Mode) → 0 < span ms → 1 ≤ length ms
some_mode [] l = absurd (omega arith)
some_mode (m ∷ ms) l = omega arith

pub kept : (may : May) → AllRight may → (n long : ℕ) (owed : Matrix) (ms : List Mode) → Fit n owed → long ≡ busiest n owed → MadeBy may n owed ms → Kept n long ms
kept may right n long owed ms fit is made = record {
  some_line = fit.some;
  few_lines = fit.few;
  some_mode = some_mode ms (omega (arith, all.tight, fit.owes));
  few_modes = all.at_most;
  dwells = λ k l. ((sound k l).lasts, (sound k l).ends);
  lines = λ g. ((sound g.mode g.there).uplinks g.up g.join g.is, (sound g.mode g.there).downlinks g.up g.join g.is);
  units = λ g. ((sound g.mode g.there).some g.up g.join g.is, (sound g.mode g.there).within g.up g.join g.is);
  single = λ g h same. (sound g.mode g.there).apart g.up h.up g.join h.join g.is (ap (λ k. grant_of (mode_at ms k) h.up) same.0 ∙ h.is) same.1;
  rows = rw made.modes (rows_whole n made.padded owed made.matchings);
  total = is ∙ sym all.tight;
  short = omega (arith, is, fit.short);
}
  where
    all : Best n owed ms
    all = best may right n owed ms fit made

    sound : (k : ℕ) → k < length ms → Sound n (mode_at ms k)
    sound k l = sound_at n ms all.serves.sound k l
