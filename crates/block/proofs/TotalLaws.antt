-- How many VLAN rows are active, when a row comes, goes or changes its status. Assumes nothing.
use mathlib.Core.Path.{◌≡◌, ap, ◌∙◌}
use mathlib.Core.List.{List, [], ◌∷◌, ◌++◌}
use Prim.Native.Nat.{ℕ, suc, ◌+◌, ◌≤◌, ◌<◌}
use native.Mathlib.Omega.{arith}
use lib.Dec.{eqb}
use lib.ListN.{length, take, drop, get_or, set, take-append-drop}
use lib.Seq.{set_split, split_at}
use Rattle.octets.proofs.BoolLaws.{one-or-none}
use Rattle.block.specs.Rows.{insert_at, remove_at}
use Rattle.block.specs.Lookup.{one_if_active, active_vlans, exchanged, no_vlan}
use Rattle.block.specs.declared.rows.VlanRow.{VlanRow}

-- a row counts once at the most
pub one_at_most : (status : ℕ) → one_if_active status ≤ 1
one_at_most status = one-or-none (eqb status 1)

-- as many as there are rows at the most
pub active-few : (vs : List (ℕ × VlanRow)) → active_vlans vs ≤ length vs
unfolding active_vlans
active-few [] = omega arith
active-few (e ∷ es) = omega (arith, one_at_most e.1.status, active-few es)

active-append : (xs ys : List (ℕ × VlanRow)) → active_vlans (xs ++ ys) ≡ active_vlans xs + active_vlans ys
unfolding active_vlans
active-append [] ys = omega arith
active-append (x ∷ xs) ys = omega (arith, active-append xs ys)

active-with : (xs : List (ℕ × VlanRow)) (e : ℕ × VlanRow) (ys : List (ℕ × VlanRow))
    → active_vlans (xs ++ (e ∷ ys)) ≡ active_vlans xs + (one_if_active e.1.status + active_vlans ys)
unfolding active_vlans
active-with xs e ys = active-append xs (e ∷ ys)

-- a row put in
pub active-in : (vs : List (ℕ × VlanRow)) (i : ℕ) (e : ℕ × VlanRow) → active_vlans (insert_at vs i e) ≡ exchanged (active_vlans vs) 0 e.1.status
unfolding insert_at
active-in vs i e =
    let all = ap active_vlans (take-append-drop i vs) in
    omega (arith, active-with (take i vs) e (drop i vs), active-append (take i vs) (drop i vs))

module _ (vs : List (ℕ × VlanRow)) (i : ℕ) (h : i < length vs) where
  abbrev was : ℕ
  was = one_if_active (get_or vs i no_vlan).1.status

  active-at : active_vlans vs ≡ active_vlans (take i vs) + (was + active_vlans (drop (suc i) vs))
  active-at = ap active_vlans (split_at vs i no_vlan h) ∙ active-with (take i vs) (get_or vs i no_vlan) (drop (suc i) vs)

  -- a row written anew, when the old one is no longer counted
  pub active-again : (e : ℕ × VlanRow) → active_vlans (set vs i e) ≡ exchanged (active_vlans (remove_at vs i)) 0 e.1.status
  unfolding remove_at
  active-again e =
      ap active_vlans (set_split vs i e h)
      ∙ active-with (take i vs) e (drop (suc i) vs)
      ∙ omega (arith, active-append (take i vs) (drop (suc i) vs))

  -- a row taken out
  pub active-out : active_vlans (remove_at vs i) ≡ exchanged (active_vlans vs) (get_or vs i no_vlan).1.status 0
  unfolding remove_at
  active-out = active-append (take i vs) (drop (suc i) vs) ∙ omega (arith, active-at)
