use Rattle.std.proofs.Common.{◌≡◌, map, length, take}
use Rattle.plan_files.specs.Encoding.{grant_bytes}
use Rattle.plan_files.proofs.write.entries_of.Given as goal

-- the entries so far are written
abbrev pub invariant-loop-i : goal.invariant-loop-i
invariant-loop-i l = (length l.entries ≡ 16) × (take l.i l.entries ≡ map grant_bytes (take l.i l.row))
