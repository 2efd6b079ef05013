-- The bytes of each answer line. Assumes nothing.
use Rattle.std.specs.Prelude.{ℕ, List, ◌++◌, Some, None, codes, decimal, Option}
use Rattle.std.proofs.Math.Utf8.{encode}
use Rattle.runs.specs.declared.Shortfall.{Shortfall}
use Rattle.runs.specs.Causes.{stop_word}
use Rattle.replies.specs.declared.Reply.{Reply}
use Rattle.replies.specs.declared.Reply.TheVariants.{Ok, Planned, Mode, Ran, Owed, No}

-- the line of a mode that was run, and what follows its dwell where units fell short
abbrev pub mode_line : ℕ → ℕ → Option Shortfall → List ℕ
mode_line number dwell None = codes "mode " ++ (decimal number ++ (codes " " ++ decimal dwell))
mode_line number dwell (Some s) =
    codes "mode " ++ (decimal number ++ (codes " " ++ (decimal dwell
    ++ (codes " short " ++ (decimal s.up.0 ++ (codes " " ++ (decimal s.down.0 ++ (codes " " ++ (decimal s.missing ++ (codes " " ++ decimal s.total))))))))))

abbrev pub line_of : Reply → List ℕ
line_of Ok = codes "ok"
line_of (Planned modes length letter) = codes "plan " ++ (decimal modes ++ (codes " " ++ (decimal length ++ (codes " " ++ encode letter))))
line_of (Mode number dwell short) = mode_line number dwell short
line_of (Ran count cause) = codes "ran " ++ (decimal count ++ (codes " " ++ stop_word cause))
line_of (Owed units) = codes "owed " ++ decimal units
line_of (No number) = codes "no " ++ decimal number
