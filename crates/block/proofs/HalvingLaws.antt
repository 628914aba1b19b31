-- The lookup by halving: the turns of its loop, the place that it gives, and how many keys it compares with. Assumes nothing.
use mathlib.Core.Path.{◌≡◌, refl, sym, ap, subst, ◌∙◌}
use mathlib.Core.Bool.{cond}
use mathlib.Core.List.{List}
use Prim.Native.Nat.{ℕ, zero, suc, ◌+◌, ◌-◌, ◌*◌, ◌^◌, ◌≤◌, ◌<◌}
use native.Mathlib.Numerals.{unary_clauses}
use native.Mathlib.Omega.{arith}
use lib.Dec.{eqb, ltb}
use lib.ListN.{length, get_or}
use borrow.Author.Tests.{eqb-true, eqb-false, ltb-true, ltb-false, lt-ltb, le-ltb, eq-eqb, ne_eqb}
use Rattle.octets.specs.Numbers.{be_at}
use Rattle.octets.proofs.BoolLaws.{by_bool, by-eq}
use Rattle.block.specs.Layout.{most_rows}
use Rattle.block.specs.Rows.{rows_at}
use Rattle.block.specs.Lookup.{Place, find_key, Ascending, middle, one_more, halve, halving}
use Rattle.std.specs.Prelude.{Ok, Err}
use Rattle.block.proofs.FindLaws.{Before, Told, told}

-- the keys of w octets that n rows start with
abbrev pub keys_at : ℕ → ℕ → List ℕ → ℕ → ℕ → List ℕ
keys_at w width b p n = rows_at (λ x q. be_at x q w) width b p n

module _ (k : ℕ) (ks : List ℕ) where
  module _ (a : Ascending ks) where
    before_above : (m : ℕ) → m < length ks → get_or ks m 0 < k → Before k ks (m + 1)
    before_above m l h j q = by-eq j m (λ e. rw e h) (λ e. omega (arith, a j m (omega arith) l))

    -- the place that halving gives is the key's
    halve-told : (n low high : ℕ) → low ≤ high → high ≤ length ks → high - low ≤ n → Before k ks low → (high < length ks → k < get_or ks high 0)
        → Told k ks (halve n k low high ks).0
    unfolding halve
    halve-told zero low high l h f b u = (omega arith, b, λ q. let e : low ≡ high = omega arith in rw e (u (omega arith)))
    halve-told (suc n) low high l h f b u =
        by_bool (ltb low high)
        (λ t.
        let less : low < high = ltb-true low high t in
        let m : ℕ = middle low high in
        rw t
        (by_bool (eqb (get_or ks m 0) k)
        (λ d.
        let e : get_or ks m 0 ≡ k = eqb-true (get_or ks m 0) k d in
        rw d (omega arith, λ j q. omega (arith, a j m q (omega arith)), e))
        (λ d. by_bool (ltb k (get_or ks m 0))
        (λ e. rw (d, e) (halve-told n low m (omega arith) (omega arith) (omega arith) b (λ q. ltb-true k (get_or ks m 0) e)))
        (λ e. rw (d, e)
        (halve-told n (m + 1) high (omega arith) h (omega arith)
        (before_above m (omega arith) (omega (arith, eqb-false (get_or ks m 0) k d, ltb-false k (get_or ks m 0) e))) u)))))
        (λ t. rw t (omega arith, b, λ q. let e : low ≡ high = omega (arith, ltb-false low high t) in rw e (u (omega arith))))

  -- a place is told in one way
  at-absent : (i j : ℕ) → Told k ks (Ok i) → Told k ks (Err j) → ⊥
  at-absent i j s t =
      by_bool (ltb i j) (λ l. omega (arith, t.1 i (ltb-true i j l), s.2))
      (λ l. by-eq i j (λ e. omega (arith, subst (λ (x : ℕ). k < get_or ks x 0) (sym e) (t.2 (omega arith)), s.2))
      (λ e. omega (arith, s.1 j (omega (arith, ltb-false i j l)), t.2 (omega (arith, ltb-false i j l)))))

  one_place : (p q : Place) → Told k ks p → Told k ks q → p ≡ q
  one_place (Ok i) (Ok j) s t =
      ap Ok (by-eq i j (λ e. e) (λ e. absurd (by_bool (ltb i j) (λ l. omega (arith, t.1 i (ltb-true i j l), s.2))
      (λ l. omega (arith, s.1 j (omega (arith, ltb-false i j l)), t.2)))))
  one_place (Ok i) (Err j) s t = absurd (at-absent i j s t)
  one_place (Err i) (Ok j) s t = absurd (at-absent j i t s)
  one_place (Err i) (Err j) s t =
      ap Err (by-eq i j (λ e. e) (λ e. absurd (by_bool (ltb i j)
      (λ l. omega (arith, t.1 i (ltb-true i j l), s.2 (omega (arith, ltb-true i j l))))
      (λ l. omega (arith, s.1 j (omega (arith, ltb-false i j l)), t.2 (omega (arith, ltb-false i j l)))))))

  -- how many keys are compared with
  halve-few : (j n low high : ℕ) → high - low < 2 ^ j → (halve n k low high ks).1 ≤ j
  unfolding halve
  halve-few j zero low high h = omega arith
  halve-few zero (suc n) low high h = rw (le-ltb low high (omega arith)) (omega arith)
  halve-few (suc j) (suc n) low high h =
      by_bool (ltb low high)
      (λ t.
      let m : ℕ = middle low high in
      let less : low < high = ltb-true low high t in
      let size : 2 ^ suc j ≡ 2 ^ j * 2 = simp unary_clauses in
      rw t
      (by_bool (eqb (get_or ks m 0) k) (λ d. rw d (omega arith))
      (λ d. by_bool (ltb k (get_or ks m 0)) (λ e. rw (d, e) (omega (arith, halve-few j n low m (omega arith)))) (λ e. rw (d, e) (omega (arith, halve-few j n (m + 1) high (omega arith)))))))
      (λ t. rw t (omega arith))

  -- "at most 9"
  pub halving-quick : length ks ≤ most_rows → (halving k ks).1 ≤ 9
  halving-quick h = halve-few 9 _ 0 _ (omega arith)

-- halving gives the key's place
pub halving-finds : (k : ℕ) (ks : List ℕ) → Ascending ks → (halving k ks).0 ≡ find_key k ks
halving-finds k ks a =
    one_place k ks (halving k ks).0 (find_key k ks)
    (halve-told k ks a _ 0 _ (omega arith) (omega arith) (omega arith) (λ j h. absurd (omega arith)) (λ h. absurd (omega arith)))
    (told k ks (find_key k ks) refl)

-- c keys more were compared with
abbrev plus : ℕ → Place × ℕ → Place × ℕ
plus c r = (r.0, r.1 + c)

plus_one : (c : ℕ) (r : Place × ℕ) → plus c (one_more r) ≡ plus (c + 1) r
plus_one c r = let e : r.1 + 1 + c ≡ r.1 + (c + 1) = omega arith in λ z. (r.0, e z)

module _ (k : ℕ) (ks : List ℕ) where
  halve-end : (n low high : ℕ) → high ≤ low → halve n k low high ks ≡ (Err low, 0)
  unfolding halve
  halve-end zero low high h = refl
  halve-end (suc n) low high h = rw (le-ltb low high h)

  -- one turn
  abbrev next : ℕ → ℕ → ℕ → Place × ℕ
  next n low high =
      cond (eqb (get_or ks (middle low high) 0) k) (Ok (middle low high), 0)
      (cond (ltb k (get_or ks (middle low high) 0)) (halve n k low (middle low high) ks) (halve n k (middle low high + 1) high ks))

  halve-turn : (n low high : ℕ) → low < high → halve (suc n) k low high ks ≡ one_more (next n low high)
  unfolding halve
  halve-turn n low high h = rw (lt-ltb low high h)

  -- what a loop has left after c comparisons: the whole answer is that of the keys from low on to before high
  pub record Left (low high c : ℕ) : Type 0 where
    pub inside : (low ≤ high) × (high ≤ length ks)
    pub fewer : c + (high - low) ≤ length ks
    pub whole : halving k ks ≡ plus c (halve (length ks - c) k low high ks)

  pub left-all : Left 0 (length ks) 0
  left-all =
      let r : Place × ℕ = halving k ks in
      let e : length ks - 0 ≡ length ks = omega arith in
      let f : r.1 ≡ r.1 + 0 = omega arith in
      record { inside = (omega arith, omega arith); fewer = omega arith; whole = rw e (λ z. (r.0, f z)) }

  module _ {low high c : ℕ} (w : Left low high c) where
    pub left_end : high ≤ low → (Err low, c) ≡ halving k ks
    left_end h =
        let e : 0 + c ≡ c = omega arith in
        sym (w.whole ∙ ap (plus c) (halve-end (length ks - c) low high h) ∙ (λ z. (Err low, e z)))

    module _ (h : low < high) where
      turn : halving k ks ≡ plus (c + 1) (next (length ks - (c + 1)) low high)
      turn =
          let n : length ks - c ≡ suc (length ks - (c + 1)) = omega (arith, w.fewer) in
          w.whole
          ∙ ap (λ (m : ℕ). plus c (halve m k low high ks)) n
          ∙ ap (plus c) (halve-turn (length ks - (c + 1)) low high h)
          ∙ plus_one c (next (length ks - (c + 1)) low high)

      pub left-found : get_or ks (middle low high) 0 ≡ k → (Ok (middle low high), c + 1) ≡ halving k ks
      left-found e =
          let q : 0 + (c + 1) ≡ c + 1 = omega arith in
          sym (turn ∙ rw (eq-eqb (get_or ks (middle low high) 0) k e) (λ z. (Ok (middle low high), q z)))

      pub left_below : (get_or ks (middle low high) 0 ≡ k → ⊥) → k < get_or ks (middle low high) 0 → Left low (middle low high) (c + 1)
      left_below n l =
          record {
            inside = (omega (arith, w.inside), omega (arith, w.inside));
            fewer = omega (arith, w.fewer);
            whole = turn ∙ rw (ne_eqb (get_or ks (middle low high) 0) k n, lt-ltb k (get_or ks (middle low high) 0) l);
          }

      pub left-above : (get_or ks (middle low high) 0 ≡ k → ⊥) → get_or ks (middle low high) 0 ≤ k → Left (middle low high + 1) high (c + 1)
      left-above n l =
          record {
            inside = (omega (arith, w.inside), omega (arith, w.inside));
            fewer = omega (arith, w.fewer);
            whole = turn ∙ rw (ne_eqb (get_or ks (middle low high) 0) k n, le-ltb k (get_or ks (middle low high) 0) l);
          }
