-- The preemptive open shop of Gonzalez and Sahni (1976): uplinks are jobs, downlinks are machines. Assumes nothing.
use Rattle.std.specs.Prelude.{◌≡◌, ℕ, zero, suc, ◌+◌, ◌-◌, ◌<◌, ◌≤◌, cond, ◌⊎◌, List, [], ◌∷◌, ◌++◌, ◌==◌, ◌≢◌, nat_lt}
use Rattle.lines.specs.Matrix.{Matrix}
use Rattle.schedule.specs.declared.Mode.{Mode}
use Rattle.schedule.specs.Modes.{granted}

-- a machine works on a job from a start to a finish
pub record Tuple : Type 0 where
  pub job : ℕ
  pub start : ℕ
  pub finish : ℕ

-- for each machine the sequence of its tuples
abbrev pub Shop : Type 0
Shop = ℕ → List Tuple

-- tuples in the order of time, between two times: each is over when the next starts. Neighbours may be of one job, so that a stretch of work may be told in pieces
abbrev pub InTurn : ℕ → List Tuple → ℕ → Type 0
InTurn from [] to = from ≤ to
InTurn from (x ∷ xs) to = (from ≤ x.start) × (x.start < x.finish) × InTurn x.finish xs to

-- x is one of the tuples
abbrev pub Among : Tuple → List Tuple → Type 0
Among x [] = ⊥
Among x (y ∷ ys) = (x ≡ y) ⊎ Among x ys

-- one of the two is over before the other starts
abbrev pub Clear : Tuple → Tuple → Type 0
Clear x y = (x.finish ≤ y.start) ⊎ (y.finish ≤ x.start)

-- the time that tuples give to job i
abbrev pub time_for : ℕ → List Tuple → ℕ
time_for i [] = 0
time_for i (x ∷ xs) = cond (x.job == i) (x.finish - x.start) 0 + time_for i xs

-- a schedule of n jobs on n machines that is over by time t and gives each job what it needs of each machine
pub record OpenShop (n t : ℕ) (shop : Shop) (needs : Matrix) : Type 0 where
  pub jobs : (j : ℕ) → j < n → (x : Tuple) → Among x (shop j) → x.job < n
  pub machines : (j : ℕ) → j < n → InTurn 0 (shop j) t
  pub one_place : (j k : ℕ) → j < n → k < n → (j ≢ k) → (x y : Tuple) → Among x (shop j) → Among y (shop k) → x.job ≡ y.job → Clear x y
  pub exact : (i j : ℕ) → i < n → j < n → time_for i (shop j) ≡ needs i j

-- the tuple of uplink i on downlink j in a mode that starts at a time, if it has a grant there
abbrev pub tuple_of : Mode → ℕ → ℕ → ℕ → List Tuple
tuple_of m time i j = cond (nat_lt 0 (granted m i j)) (record { job = i; start = time; finish = time + granted m i j } ∷ []) []

-- the tuples of the uplinks below n
abbrev pub tuples_of : ℕ → Mode → ℕ → ℕ → List Tuple
tuples_of zero m time j = []
tuples_of (suc i) m time j = tuples_of i m time j ++ tuple_of m time i j

-- a schedule of modes as a shop: one mode after the other, and each grant from its mode's start on
abbrev pub unfold_from : ℕ → ℕ → List Mode → Shop
unfold_from n time [] j = []
unfold_from n time (m ∷ ms) j = tuples_of n m time j ++ unfold_from n (time + m.dwell) ms j

abbrev pub unfolded : ℕ → List Mode → Shop
unfolded n ms = unfold_from n 0 ms
