-- The commands of a script, each a letter and words. Assumes nothing.
use Rattle.std.specs.Prelude.{◌≡◌, ℕ, ◌<◌, Bool, true, false, cond, ◌&&◌, List, [], ◌∷◌, ◌++◌, length, Some, None, codes, Option, ◌==◌, nat_le}
use Rattle.std.specs.Borrow.{Bor}
use Rattle.script.specs.Words.{split}
use Rattle.script.specs.declared.commands.Command.{Command}
use Rattle.script.specs.declared.commands.Command.TheVariants.{Lines, Fault, Post, Withdraw, Plan, Step, Run, Drop, Owed}

-- the most bytes that a line may have
abbrev pub longest : ℕ
longest = 80

-- the letter of a command
abbrev pub letter : {U D N : Type 0} → Command U D N → List ℕ
letter (Lines n) = codes "n"
letter (Fault i j c t) = codes "f"
letter (Post i j u) = codes "p"
letter (Withdraw i j u) = codes "w"
letter Plan = codes "m"
letter Step = codes "s"
letter (Run b) = codes "r"
letter Drop = codes "d"
letter (Owed i j) = codes "o"

-- what stands after the letter, in its order on the line, each part told by its kind
abbrev pub parts : {U D N A : Type 0} → (U → A) → (D → A) → (N → A) → Command U D N → List A
parts f g h (Lines n) = h n ∷ []
parts f g h (Fault i j c t) = f i ∷ g j ∷ h c ∷ h t ∷ []
parts f g h (Post i j u) = f i ∷ g j ∷ h u ∷ []
parts f g h (Withdraw i j u) = f i ∷ g j ∷ h u ∷ []
parts f g h Plan = []
parts f g h Step = []
parts f g h (Run b) = h b ∷ []
parts f g h Drop = []
parts f g h (Owed i j) = f i ∷ g j ∷ []

-- a command whose parts are words of a line
abbrev pub Words : Type 0
Words = Command (Bor (List ℕ)) (Bor (List ℕ)) (Bor (List ℕ))

-- a command's words in their order on the line
abbrev pub words : Words → List (List ℕ)
words c = parts (λ w. w.now) (λ w. w.now) (λ w. w.now) c

-- a command's letter, then its words
abbrev pub pieces : Words → List (List ℕ)
pieces c = letter c ∷ words c

-- whether k words follow the letter c: n, f, p, w, m, s, r, d or o
abbrev pub takes : ℕ → ℕ → Bool
takes c k =
    cond (c == 110) (k == 1)
    (cond (c == 102) (k == 4)
    (cond (c == 112) (k == 3)
    (cond (c == 119) (k == 3)
    (cond (c == 109) (k == 0)
    (cond (c == 115) (k == 0)
    (cond (c == 114) (k == 1)
    (cond (c == 100) (k == 0)
    (cond (c == 111) (k == 2) false))))))))

-- whether w is one letter that k words follow
abbrev pub fits : List ℕ → ℕ → Bool
fits [] k = false
fits (c ∷ []) k = takes c k
fits (c ∷ d ∷ cs) k = false

-- whether pieces are a command's: a letter, and as many words as it takes
abbrev pub shaped : List (List ℕ) → Bool
shaped [] = false
shaped (w ∷ ws) = fits w (length ws)

-- whether a line is a command's, whatever its words are
abbrev pub readable : List ℕ → Bool
readable line = nat_le (length line) longest && shaped (split line)

-- the command of a letter takes its words off the front of ws, which leaves rest, or there are too few
abbrev pub Takes : ℕ → List (List ℕ) → Option Words → List (List ℕ) → Type 0
Takes l ws None rest = (k : ℕ) → takes l k ≡ true → length ws < k
Takes l ws (Some c) rest = (letter c ≡ l ∷ []) × (takes l (length (words c)) ≡ true) × (ws ≡ words c ++ rest)
