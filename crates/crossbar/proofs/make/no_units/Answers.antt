use Rattle.std.proofs.Common.{◌≡◌, ℕ, List, [], get_or, replicate, refl}
use Rattle.crossbar.proofs.Rows.{all_replicate}
use Rattle.crossbar.proofs.make.no_units.Goals as goal

pub returns-clause-none : goal.returns-clause-none
returns-clause-none c = λ i j.
    all_replicate (λ (r : List ℕ). get_or r j 0 ≡ 0) 16 (replicate 16 0) [] (all_replicate (λ (v : ℕ). v ≡ 0) 16 0 0 refl refl j) refl i
