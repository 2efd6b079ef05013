-- `==` of two modes, and of their parts, tells whether they are the same. Assumes nothing.
use Rattle.std.proofs.Common.{◌≡◌, Bool, List, Option, Some, None, refl, ap, arith}
use Rattle.std.specs.Bool.{Decides}
use Rattle.std.specs.Option.{option_eq}
use Rattle.std.proofs.lemmas.Slice.Eq.{slice_eq-Decides}
use Rattle.schedule.specs.declared.Join.{Join}
use Rattle.schedule.specs.declared.Mode.{Mode}
use Rattle.schedule.specs.Equal.{same_join, same_rows, same_mode}

join_told : (x y : Join) → Decides (same_join x y) (x ≡ y)
join_told x y = grind arith

grant_told : (x y : Option Join) → Decides (option_eq same_join x y) (x ≡ y)
grant_told None None = ((λ _. refl), λ _. refl)
grant_told None (Some y) = ((λ e. cc), λ e. cc)
grant_told (Some x) None = ((λ e. cc), λ e. cc)
grant_told (Some x) (Some y) =
    let d = join_told x y in
    ((λ e. ap Some (d.0 e)), λ e. d.1 cc)

-- what `==` of two rows answers tells whether they are the same
pub rows_told : (xs ys : List (Option Join)) (r : Bool) → r ≡ same_rows xs ys → Decides r (xs ≡ ys)
rows_told = slice_eq-Decides grant_told

-- `==` of two modes is true exactly where they are the same
pub mode_told : (x y : Mode) → Decides (same_mode x y) (x ≡ y)
mode_told x y =
    let rows = rows_told x.row y.row (same_rows x.row y.row) refl in
    grind (arith, rows)
