-- The edges of a valid cell's outline: each is a valid edge of the target's resolution, owned by the cell or by a cell under it.
--     OutlineEdge      what is said of an edge
--     outline_edges    it holds of each edge of an outline
-- Assumes nothing.
use mathlib.Core.Path.{◌≡◌, refl, ◌∙◌, sym, subst}
use mathlib.Core.Bool.{Bool, true, false, cond, ◌&&◌}
use mathlib.Core.List.Memᴰ
use mathlib.Core.List.{List, ◌∷◌, Memᴰ}
use mathlib.Core.Logic.{◌⊎◌, inl, inr, ⊎_elim}
use Prim.Native.Nat.{ℕ, zero, suc, ◌+◌, ◌-◌, ◌*◌, ◌/◌, ◌^◌, ◌<◌, ◌≤◌}
use native.Mathlib.Nat.{eq-or-lt_of_le}
use native.Mathlib.Omega.{arith}
use lib.Dec.{eqb, leb, ltb, lit<}
use borrow.Author.Tests.{eq-eqb, le-leb, lt-leb, lt-ltb, le-ltb, leb-true, ltb-true, eqb-true}
use Rattle.scope.specs.Lists.{at, member}
use Rattle.scope.specs.Cells.{mode_of, edge_number, resolution_of, base_cell, digit, digit_fits, digit_zero, pentagon_base_cells, valid_cell, is_pentagon, owner_of, valid_edge, under}
use Rattle.scope.specs.Walk.{Walk, walk_digit, walk_digits, edge_direction, edge_directions, walked_digit, spell, edge_at, step, passed_over, edges, first_walk, outline}
use Rattle.scope.proofs.Tests.{le_or_lt, never, and_right, all_at, all_from}
use Rattle.scope.proofs.Cells.{valid_cell_is}
use Rattle.scope.proofs.ValidCells.{cell_base, cell_digit, cell_head}
use Rattle.scope.proofs.Entries.{every, entry}
use Rattle.scope.proofs.Spell.{built, built_top, built_mode, built_edge, built_resolution, built_base, spell_read, spell_same, spell_high, spell_own}
use Rattle.scope.proofs.Walks.{digits_at, digits_lt, walk_digit_lt, walked_digit_lt, edge_direction_lt, edge_is}
use Rattle.scope.proofs.WalkStarts.{own_digit}
use Rattle.scope.proofs.Odometer.{Fine, first_fine, step_fine}

pub step_turns : (c t : ℕ) (w : Walk) → (step c t w).edge_position < 6
unfolding step
step_turns c t w = omega arith

pub record OutlineEdge (x t e : ℕ) : Type 0 where
  pub valid : valid_edge e ≡ true
  pub resolution : resolution_of e ≡ t
  pub owner : (owner_of e ≡ x) ⊎ (under (owner_of e) x ≡ true)

module _ (x t : ℕ) (w : Walk) (valid : valid_cell x ≡ true) (down : resolution_of x ≤ t) (deep : t ≤ 15) where
  abbrev c : ℕ
  c = resolution_of x

  abbrev f : ℕ → ℕ
  f = walked_digit x c t w

  abbrev d : ℕ
  d = edge_direction w.edge_position

  abbrev e : ℕ
  e = edge_at x c t w

  eight : d < 8
  eight = omega (arith, edge_direction_lt w.edge_position)

  base : base_cell x < 128
  base = omega arith

  -- ---- the owner, by its fields

  abbrev owner : ℕ
  owner = spell ((8 * 16 + t) * 128 + base_cell x) f 15

  owner_built : owner ≡ built 1 0 t (base_cell x) (digits_at x c t w)
  owner_built = spell_high ((8 * 16 + t) * 128 + base_cell x) f 15

  edge_number_lem : edge_number e ≡ d
  edge_number_lem = rw (edge_is x c t w) (built_edge 2 d t (base_cell x) (digits_at x c t w) eight (omega arith) base (digits_lt x c t w))

  owner_is : owner_of e ≡ owner
  unfolding owner_of
  owner_is = rw (edge_number_lem, edge_is x c t w, owner_built) (omega arith)

  owner_resolution : resolution_of owner ≡ t
  owner_resolution = rw owner_built (built_resolution 1 0 t (base_cell x) (digits_at x c t w) (lit< tt) (omega arith) base (digits_lt x c t w))

  owner_base : base_cell owner ≡ base_cell x
  owner_base = rw owner_built (built_base 1 0 t (base_cell x) (digits_at x c t w) (lit< tt) (omega arith) base (digits_lt x c t w))

  owner_digit : (k : ℕ) → 0 < k → k ≤ 15 → digit owner k ≡ f k
  owner_digit k p q = spell_read ((8 * 16 + t) * 128 + base_cell x) f (walked_digit_lt x c t w) 15 k p q

  owner_fits : (k : ℕ) → 0 < k → k ≤ 15 → digit_fits owner k ≡ true
  owner_fits k p q =
      rw (owner_resolution, owner_digit k p q)
      (⊎_elim
      (λ (h : k ≤ t).
      rw (le-leb k t h)
      (⊎_elim
      (λ (g : k ≤ c). rw (le-leb k c g) (lt-ltb _ _ (cell_digit x valid k p g)))
      (λ (g : c < k). rw (lt-leb k c g) (lt-ltb _ _ (walk_digit_lt (at w.positions k))))
      (le_or_lt k c)))
      (λ (h : t < k). rw (lt-leb k t h, lt-leb k c (omega arith)))
      (le_or_lt k t))

  owner_valid : valid_cell owner ≡ true
  owner_valid =
      let h : owner / 2 ^ 56 ≡ 8 =
      rw owner_built (built_top 1 0 t (base_cell x) (digits_at x c t w) (lit< tt) (omega arith) base (digits_lt x c t w)) in
      rw (valid_cell_is owner, eq-eqb _ _ h, owner_base, le-leb _ _ (cell_base x valid)) (all_from (digit_fits owner) 15 owner_fits)

  owner_under : c < t → under owner x ≡ true
  unfolding under
  owner_under l =
      rw (owner_resolution, owner_base, lt-ltb c t l, eq-eqb (base_cell x) (base_cell x) refl)
      (all_from _ 15
      (λ k p q.
      ⊎_elim
      (λ (g : k ≤ c). rw (le-ltb c k g) (eq-eqb _ _ (owner_digit k p q ∙ rw (le-leb k c g))))
      (λ (g : c < k). rw (lt-ltb c k g))
      (le_or_lt k c)))

  owner_same : c ≡ t → owner ≡ x
  owner_same i =
      subst (λ (u : ℕ). spell ((8 * 16 + u) * 128 + base_cell x) (walked_digit x c u w) 15 ≡ x) i
      (rw (← cell_head x valid) (spell_same (x / 2 ^ 45) (walked_digit x c c w) (digit x) 15 (own_digit x valid w) ∙ spell_own x))

  -- below the cell's resolution the owner's last digit is no 0, so that it is no pentagon
  owner_hexagon : at w.positions t < 18 → c < t → is_pentagon owner ≡ false
  unfolding is_pentagon every
  owner_hexagon round l =
      never _
      (λ p.
      let z : digit_zero owner t ≡ true = all_at (digit_zero owner) 15 (and_right (member (base_cell owner) pentagon_base_cells) _ p) t (omega arith) deep in
      let o : digit owner t ≡ 0 = eqb-true _ _ (rw (owner_resolution, le-leb t t (omega arith)) at z) in
      let q : 0 < walk_digit (at w.positions t) = ltb-true _ _ (entry (λ k v. ltb 0 v) walk_digits refl (at w.positions t) round) in
      let r : f t ≡ walk_digit (at w.positions t) = rw (lt-leb t c l, le-leb t t (omega arith)) in
      omega (arith, owner_digit t (omega arith) deep))

  -- ---- the edge

  -- a pentagon's edge 1 is passed over
  no_deleted : at w.positions t < 18 → passed_over (is_pentagon x) c t w ≡ false → (is_pentagon owner && eqb d 1) ≡ false
  unfolding passed_over
  no_deleted round given =
      ⊎_elim
      (λ (i : c ≡ t). rw (owner_same i) (rw (le-ltb c t (omega arith)) at given))
      (λ (l : c < t). rw (owner_hexagon round l))
      (eq-or-lt_of_le down)

  edge_holds : Fine w.positions → w.edge_position < 6 → passed_over (is_pentagon x) c t w ≡ false → OutlineEdge x t e
  unfolding valid_edge every
  edge_holds fine turns given =
      let bounds : 1 ≤ d = leb-true _ _ (entry (λ k v. leb 1 v) edge_directions refl w.edge_position turns) in
      let l : d ≤ 6 = omega (arith, edge_direction_lt w.edge_position) in
      let m : mode_of e ≡ 2 = rw (edge_is x c t w) (built_mode 2 d t (base_cell x) (digits_at x c t w) eight (omega arith) base (digits_lt x c t w) (lit< tt)) in
      record {
        valid =
            rw (
              eq-eqb _ _ m,
              owner_is,
              owner_valid,
              edge_number_lem,
              le-leb _ _ bounds,
              le-leb _ _ l,
              no_deleted (fine.round t) given,
            );
        resolution = rw (edge_is x c t w) (built_resolution 2 d t (base_cell x) (digits_at x c t w) eight (omega arith) base (digits_lt x c t w));
        owner =
            rw owner_is
            (⊎_elim (λ (i : c ≡ t). inl (owner_same i)) (λ (l : c < t). inr (owner_under l)) (eq-or-lt_of_le down));
      }

-- ---- what holds of the edge at each walk that is not passed over holds of each edge of an outline

pick : (P : ℕ → Type 0) (b : Bool) (a : ℕ) (l : List ℕ) (e : ℕ) → Memᴰ e (cond b l (a ∷ l)) → (b ≡ false → P a) → (Memᴰ e l → P e) → P e
pick P true a l e m f g = g m
pick P false a l e m f g = ⊎_elim (λ (i : e ≡ a). subst P (sym i) (f refl)) g (Memᴰ.cases_cons m)

edges_each : (P : ℕ → Type 0) (p : Bool) (x c t n : ℕ) (w : Walk) → Fine w.positions → w.edge_position < 6
    → ((v : Walk) → Fine v.positions → v.edge_position < 6 → passed_over p c t v ≡ false → P (edge_at x c t v))
    → (e : ℕ) → Memᴰ e (edges p x c t n w) → P e
unfolding edges
edges_each P p x c t zero w f s each e m = absurd (Memᴰ.not-nil m)
edges_each P p x c t (suc n) w f s each e m =
    pick P (passed_over p c t w) (edge_at x c t w) (edges p x c t n (step c t w)) e m (each w f s)
    (edges_each P p x c t n (step c t w) (step_fine c t w f) (step_turns c t w) each e)

pub outline_edges : (x t : ℕ) → valid_cell x ≡ true → t ≤ 15 → (e : ℕ) → Memᴰ e (outline x t) → OutlineEdge x t e
unfolding outline first_walk
outline_edges x t valid deep e m =
    let c = resolution_of x in
    ⊎_elim
    (λ (h : c ≤ t).
    edges_each (OutlineEdge x t) (is_pentagon x) x c t (6 * 3 ^ (t - c)) (first_walk c t) (first_fine c t) (lit< tt)
    (λ v f s g. edge_holds x t v valid h deep f s g) e (rw (le-leb c t h) at m))
    (λ (h : t < c). absurd (Memᴰ.not-nil (rw (lt-leb c t h) at m)))
    (le_or_lt c t)
