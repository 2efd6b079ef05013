use Rattle.std.proofs.Common.{◌≡◌, ◌*◌, [], ◌++◌, take, drop}
use Rattle.std.specs.List.{flat_map, AllByRecursion as All}
use Rattle.plan_files.specs.Encoding.{encode, Full}
use Rattle.plan_files.proofs.write.write_all.Given as goal

-- the modes so far are written, and what lies after them is as it was
abbrev pub invariant-loop-i : goal.invariant-loop-i
invariant-loop-i l =
    (take (52 * l.i) l.out ≡ [] ++ flat_map (encode l.lines) (take l.i l.modes))
    × (drop (52 * l.i) l.out ≡ drop (52 * l.i) l.initial.out)
    × All Full (take l.i l.modes)
