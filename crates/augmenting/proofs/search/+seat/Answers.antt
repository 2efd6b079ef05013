use Rattle.std.proofs.Common.{◌≡◌, ℕ, ◌<◌, length, get_or, set, Some, None, sym, ap, ◌∙◌, subst, true≢false, arith}
use Rattle.std.proofs.lemmas.Bool.{both_ways}
use Rattle.lines.specs.declared.Uplink.{Uplink}
use Rattle.lines.specs.Matrix.{uplink}
use Rattle.augmenting.specs.Holders.{Holders, number_or_16, holder, Known, Apart, Tried, Searched, Seated}
use Rattle.augmenting.proofs.Seats.{fewer_inside, fewer_after, closed_more, holder_tried, known_after, seated_free, seated_moved}
use Rattle.augmenting.proofs.search.+seat.Goals as goal
use Rattle.augmenting.proofs.search.+seat.Goals.{Else-free, in-Some-holders, in-None}

pub seat-free-requires : goal.seat-free-requires
seat-free-requires t c =
    let hs = c.loop-down.holders in
    let d = c.in-Some.down in
    let up : holder hs d ≡ c.from.result = ap number_or_16 c.in-Some-holders.is ∙ sym c.from.ensures in
    let row = get_or c.args.rows.now c.args.up 0 in
    let f = c.in-Some.ensures in
    let less = fewer_inside row c.args.tried.now c.loop-down.tried c.pick.new.tried d f c.loop-down.invariant.0.grows in
    let known : Known hs = (let P : Holders → Type 0 = Known in subst P (sym c.loop-down.invariant.1) c.requires.known) in
    let apart : Apart hs = (let P : Holders → Type 0 = Apart in subst P (sym c.loop-down.invariant.1) c.requires.apart) in
    let small : c.from.result < 16 = omega (arith, known d c.in-Some-holders.holder c.in-Some-holders.is) in
    let Q : ℕ → Type 0 = λ z. Tried hs z c.pick.new.tried in (
      omega (arith, less, c.decreases),
      (small, (known, (apart, subst Q up (holder_tried hs row c.loop-down.tried c.pick.new.tried d apart f (omega (arith, up)))))),
    )

pub returns-then-free : goal.returns-then-free
returns-then-free t c =
    let rows = c.args.rows.now in
    let hs = c.args.holders.now in
    let up = c.args.up in
    let t0 = c.args.tried.now in
    let d = c.in-Some.down in
    let f = c.in-Some.ensures in
    let same : c.loop-down.holders ≡ hs = c.loop-down.invariant.1 in
    let Done : Holders → ℕ → Type 0 = λ x y. Known (set x d (Some (uplink up))) × Seated rows hs (set x d (Some (uplink up))) up t0 y in
    let to : (x : Holders) (y : ℕ) → c.match-holders-down.holders ≡ x → c.match-holders-down.tried ≡ y → Known x → (length x ≡ 16 → Seated rows hs (set x d (Some (uplink up))) up t0 y) → Done c.match-holders-down.holders c.match-holders-down.tried =
    λ x y p q k s. (let P : Holders → Type 0 = λ z. Done z c.match-holders-down.tried in
    let Q : ℕ → Type 0 = λ z. Done x z in
    let long : length x ≡ 16 = ap length (sym p) ∙ c.match-holders-down.array_long in
    subst P (sym p) (subst Q (sym q) (known_after x up d (omega (arith, long, f.below)) c.requires.line k, s long))) in
    let done : Done c.match-holders-down.holders c.match-holders-down.tried =
    elim c.match-holders-down.branch [
      | in-None w ↦
          let free : get_or hs d None ≡ None = ap (λ x. get_or x d None) (sym same) ∙ w.in-None.is in
          to hs c.pick.new.tried (w.holders-is ∙ same) w.tried-is c.requires.known (λ long.
          seated_free rows hs up t0 c.loop-down.tried c.pick.new.tried d long c.requires.line c.requires.apart c.requires.own f c.loop-down.invariant.0.grows (omega (arith, ap number_or_16 free)))
      | in-Some-holders w ↦
          let is : get_or hs d None ≡ Some w.in-Some-holders.holder = ap (λ x. get_or x d None) (sym same) ∙ w.in-Some-holders.is in
          let at : holder hs d ≡ w.from.result = ap number_or_16 is ∙ sym w.from.ensures in
          let P : Holders → Type 0 = λ x. Seated rows x w.seat-free.new.holders w.from.result c.pick.new.tried w.seat-free.new.tried in
          let Q : ℕ → Type 0 = λ z. Seated rows hs w.seat-free.new.holders z c.pick.new.tried w.seat-free.new.tried in
          to w.seat-free.new.holders w.seat-free.new.tried w.holders-is w.tried-is w.seat-free.ensures.known (λ long.
          seated_moved rows hs w.seat-free.new.holders up t0 c.loop-down.tried c.pick.new.tried w.seat-free.new.tried d long c.requires.line c.requires.apart c.requires.own f c.loop-down.invariant.0.grows
          (omega (arith, at, w.from.ensures, c.requires.known d w.in-Some-holders.holder is)) (subst Q (sym at) (subst P same (w.seat-free.ensures.seated (sym w.free-is ∙ c.if-free.true)))))
    ] in
    record { known = done.0; seated = λ _. done.1; failed = λ e. absurd (true≢false e) }

-- the search from the holder failed
failed : (t : ℕ) (c : Else-free t) → (h : Uplink) × (get_or c.loop-down.holders c.in-Some.down None ≡ Some h) × Searched c.args.rows.now c.loop-down.holders h.0 c.pick.new.tried c.match-holders-down.tried × (c.match-holders-down.holders ≡ c.loop-down.holders)
failed t c =
    elim c.match-holders-down.branch [
      | in-None w ↦ absurd (both_ways c.match-holders-down.free c.if-free.false w.free-is)
      | in-Some-holders w ↦
          let f = w.seat-free.ensures.failed (sym w.free-is ∙ c.if-free.false) in
          let P : ℕ → Type 0 = λ z. Searched c.args.rows.now c.loop-down.holders w.in-Some-holders.holder.0 c.pick.new.tried z in
          let Q : ℕ → Type 0 = λ z. Searched c.args.rows.now c.loop-down.holders z c.pick.new.tried w.seat-free.new.tried in
          (w.in-Some-holders.holder, w.in-Some-holders.is, subst P (sym w.tried-is) (subst Q w.from.ensures f.0), w.holders-is ∙ f.1)
    ]

pub loop-down-smaller : goal.loop-down-smaller
loop-down-smaller t c =
    fewer_after (get_or c.args.rows.now c.args.up 0) c.loop-down.tried c.pick.new.tried c.match-holders-down.tried c.in-Some.down c.in-Some.ensures
    (failed t c).2.0.grows

pub loop-down-preserved : goal.loop-down-preserved
loop-down-preserved t c =
    let rows = c.args.rows.now in
    let hs = c.args.holders.now in
    let d = c.in-Some.down in
    let same : c.loop-down.holders ≡ hs = c.loop-down.invariant.1 in
    let s = failed t c in
    let is : get_or hs d None ≡ Some s.0 = ap (λ x. get_or x d None) (sym same) ∙ s.1 in
    let at : holder hs d ≡ s.0.0 = ap number_or_16 is in
    let P : Holders → Type 0 = λ x. Searched rows x s.0.0 c.pick.new.tried c.match-holders-down.tried in
    let Q : ℕ → Type 0 = λ z. Searched rows hs z c.pick.new.tried c.match-holders-down.tried in (
      closed_more rows hs (get_or rows c.args.up 0) c.args.tried.now c.loop-down.tried c.pick.new.tried c.match-holders-down.tried d
          c.loop-down.invariant.0 c.in-Some.ensures (omega (arith, at, c.requires.known d s.0 is)) (subst Q (sym at) (subst P same s.2)),
      s.3 ∙ same,
    )
