-- Laws of the rows that stay, and of the rows while they close up. Assumes nothing.
use Prim.Native.Nat.{ℕ, zero, suc, ◌+◌, ◌-◌, ◌≤◌, ◌<◌}
use native.Mathlib.Nat.{not-suc-le-zero, le_of_suc-le-suc}
use native.Mathlib.Omega.{arith}
use mathlib.Core.Path.{◌≡◌, refl, sym, ap, subst, ◌∙◌}
use mathlib.Core.Bool.{Bool, true, false, cond}
use mathlib.Core.List.{List, [], ◌∷◌, ◌++◌, append_assoc}
use lib.ListN.{length, take, drop, get_or, set, length-append, length-drop}
use lib.Seq.{drop-cons, take-length, take-append_seam, length-take-le, get_or-append-add, get_or-drop}
use Rattle.octets.specs.Ascending.{All, Rising}
use Rattle.octets.proofs.AllLaws.{all_append, all_take, all_drop}
use Rattle.block.specs.Content.{Content, WellFormed, with_statics}
use Rattle.block.specs.Image.{image, content_of}
use Rattle.block.specs.Lookup.{Sized, keys_of, no_static}
use Rattle.block.specs.declared.rows.StaticRow.{StaticRow}
use Rattle.block.specs.declared.tables.Table.TheVariants.{Vlan as vlan, Static as static, Pair as pair}
use Rattle.block.proofs.ReadLaws.{many-in}
use Rattle.block.proofs.ImageLaws.{length-image}
use Rattle.block.specs.Stored.{StaticFits, Storable}
use Rattle.block.proofs.RoundLaws.{content_of-stored}
use Rattle.reset.specs.Reset.{goes, stay, after_reset}
use Rattle.reset.specs.Closing.{closing, IsImage, row_at, moved, next_free}

abbrev Entry : Type 0
Entry = ℕ × StaticRow

-- no more rows than there were
pub stay-short : (es : List Entry) → length (stay es) ≤ length es
unfolding stay
stay-short [] = omega arith
stay-short (e ∷ es) = go (goes e.1) (stay-short es)
  where
    go : (b : Bool) → length (stay es) ≤ length es → length (cond b (stay es) (e ∷ stay es)) ≤ length (e ∷ es)
    go true h = omega arith
    go false h = omega arith

-- what every row has, every row that stays has
pub all_stay : (P : Entry → Type 0) (es : List Entry) → All P es → All P (stay es)
unfolding stay
all_stay P [] h = tt
all_stay P (e ∷ es) h = go (goes e.1) (all_stay P es h.1)
  where
    go : (b : Bool) → All P (stay es) → All P (cond b (stay es) (e ∷ stay es))
    go true r = r
    go false r = (h.0, r)

all-keys : (Q : ℕ → Type 0) (es : List Entry) → All Q (keys_of es) → All Q (keys_of (stay es))
unfolding stay
all-keys Q [] h = tt
all-keys Q (e ∷ es) h = go (goes e.1) (all-keys Q es h.1)
  where
    go : (b : Bool) → All Q (keys_of (stay es)) → All Q (keys_of (cond b (stay es) (e ∷ stay es)))
    go true r = r
    go false r = (h.0, r)

-- the rows that stay ascend as they did
pub rising-stay : (es : List Entry) → Rising (keys_of es) → Rising (keys_of (stay es))
unfolding stay
rising-stay [] h = tt
rising-stay (e ∷ es) h = go (goes e.1) (rising-stay es h.1)
  where
    go : (b : Bool) → Rising (keys_of (stay es)) → Rising (keys_of (cond b (stay es) (e ∷ stay es)))
    go true r = r
    go false r = (all-keys (λ k. e.0 < k) es h.0, r)

-- rows that stay stay again
pub stay-twice : (es : List Entry) → stay (stay es) ≡ stay es
unfolding stay
stay-twice [] = refl
stay-twice (e ∷ es) = go (goes e.1) refl (stay-twice es)
  where
    go : (b : Bool) → goes e.1 ≡ b → stay (stay es) ≡ stay es → stay (cond b (stay es) (e ∷ stay es)) ≡ cond b (stay es) (e ∷ stay es)
    go true q r = r
    go false q r = rw (q, r)

-- the next row stays, or goes
pub stay-next : (es : List Entry) (i : ℕ) (d : Entry) → i < length es
    → stay (take (suc i) es) ≡ cond (goes (get_or es i d).1) (stay (take i es)) (stay (take i es) ++ (get_or es i d ∷ []))
unfolding stay
stay-next [] i d h = absurd (not-suc-le-zero h)
stay-next (x ∷ es) zero d h = refl
stay-next (x ∷ es) (suc i) d h =
    go (goes x.1) (goes (get_or es i d).1) (stay (take (suc i) es)) (stay (take i es)) (stay-next es i d (le_of_suc-le-suc h))
  where
    go : (a b : Bool) (s r : List Entry) → s ≡ cond b r (r ++ (get_or es i d ∷ []))
        → cond a s (x ∷ s) ≡ cond b (cond a r (x ∷ r)) (cond a r (x ∷ r) ++ (get_or es i d ∷ []))
    go true true s r e = e
    go true false s r e = e
    go false true s r e = ap (λ (l : List Entry). x ∷ l) e
    go false false s r e = ap (λ (l : List Entry). x ∷ l) e

-- the place behind the rows that were written, where the first i rows were looked at
pub written-short : (es : List Entry) (i : ℕ) → i ≤ length es → length (stay (take i es)) ≤ i
written-short es i h = omega (arith, stay-short (take i es), length-take-le i es h)

module _ (es : List Entry) (i : ℕ) where
  pub all-closing : (P : Entry → Type 0) → All P es → All P (closing (take i es) es)
  all-closing P h =
      all_append P (stay (take i es)) (drop (length (stay (take i es))) es) (all_stay P (take i es) (all_take P i es h))
      (all_drop P (length (stay (take i es))) es h)

  pub length-closing : i ≤ length es → length (closing (take i es) es) ≡ length es
  length-closing h = simp (length-append, length-drop) (omega (arith, written-short es i h))

  -- the next row is where it was
  pub next_row : (d : Entry) → i ≤ length es → get_or (closing (take i es) es) i d ≡ get_or es i d
  next_row d h =
      let j : ℕ = length (stay (take i es)) in
      let m : ℕ = i - j in
      let e : i ≡ j + m = omega (arith, written-short es i h) in
      ap (λ (q : ℕ). get_or (closing (take i es) es) q d) e ∙ get_or-append-add (stay (take i es)) (drop j es) m d ∙ get_or-drop j es m d
      ∙ ap (λ (q : ℕ). get_or es q d) (sym e)

set-seam : (xs : List Entry) (y e : Entry) (ys : List Entry) → set (xs ++ (y ∷ ys)) (length xs) e ≡ xs ++ (e ∷ ys)
set-seam [] y e ys = refl
set-seam (x ∷ xs) y e ys = ap (λ (l : List Entry). x ∷ l) (set-seam xs y e ys)

module _ (es : List Entry) (i : ℕ) (d : Entry) (h : i < length es) where
  -- a row that stays is written behind the others
  pub closing-keeps : goes (get_or es i d).1 ≡ false
      → (set (closing (take i es) es) (length (stay (take i es))) (get_or es i d) ≡ closing (take (suc i) es) es)
      × (length (stay (take (suc i) es)) ≡ length (stay (take i es)) + 1)
  closing-keeps q =
      let k : List Entry = stay (take i es) in
      let j : ℕ = length k in
      let e : Entry = get_or es i d in
      let l : j < length es = omega (arith, written-short es i (omega arith)) in
      let n : stay (take (suc i) es) ≡ k ++ (e ∷ []) = stay-next es i d h ∙ ap (λ (b : Bool). cond b k (k ++ (e ∷ []))) q in
      let s : length (k ++ (e ∷ [])) ≡ suc j = simp length-append (omega arith) in (
        ap (λ (r : List Entry). set (k ++ r) j e) (drop-cons es j d l) ∙ set-seam k (get_or es j d) e (drop (suc j) es)
            ∙ sym (append_assoc k (e ∷ []) (drop (suc j) es))
            ∙ ap (λ (m : ℕ). (k ++ (e ∷ [])) ++ drop m es) (sym s)
            ∙ ap (λ (r : List Entry). r ++ drop (length r) es) (sym n),
        ap length n ∙ omega (arith, s),
      )

  -- a row that goes is passed over
  pub closing-drops : goes (get_or es i d).1 ≡ true → stay (take (suc i) es) ≡ stay (take i es)
  closing-drops q = stay-next es i d h ∙ ap (λ (b : Bool). cond b (stay (take i es)) (stay (take i es) ++ (get_or es i d ∷ []))) q

-- a content with the rows as they are after i turns, and what it needs to be read back
abbrev pub turned : Content → ℕ → Content
turned c i = with_statics c (closing (take i c.statics) c.statics)

-- before the first turn, and after the last one
pub turned-first : (c : Content) → turned c 0 ≡ c
unfolding stay
turned-first c = refl

pub none_written : (c : Content) → ◌≡◌ {A = ℕ} 0 (length (stay (take 0 c.statics)))
unfolding stay
none_written c = refl

pub take_all : (c : Content) (i : ℕ) → i ≡ length c.statics → take i c.statics ≡ c.statics
take_all c i e = ap (λ (m : ℕ). take m c.statics) e ∙ take-length c.statics

pub turned-storable : (c : Content) (i : ℕ) → Storable c → i ≤ length c.statics → Storable (turned c i)
turned-storable c i s h =
    let l : length (closing (take i c.statics) c.statics) ≡ length c.statics = length-closing c.statics i h in
    record {
      shape =
          record {
            cell_count = s.shape.cell_count;
            few_vlans = s.shape.few_vlans;
            few_statics = omega (arith, s.shape.few_statics);
            few_pairs = s.shape.few_pairs;
            status_fits = s.shape.status_fits;
          };
      few_ports = s.few_ports;
      edition_fits = s.edition_fits;
      device_fits = s.device_fits;
      address_size = s.address_size;
      deletes_fit = s.deletes_fit;
      cells_fit = s.cells_fit;
      vlans_fit = s.vlans_fit;
      statics_fit = all-closing c.statics i StaticFits s.statics_fit;
      pairs_fit = s.pairs_fit;
    }

-- the image of a content that is read back is held, and has a block's size
pub stored-held : (c : Content) → Storable c → {b : List ℕ} → b ≡ image c → (content_of b ≡ c) × IsImage b
stored-held c s {b} e =
    let r : content_of b ≡ c = ap content_of e ∙ content_of-stored c s in
    (r, record { same = ap image r ∙ sym e; shape = subst WellFormed (sym r) s.shape })

pub held-sized : {b : List ℕ} → IsImage b → Sized b
held-sized {b} h =
    record {
      long = ap length (sym h.same) ∙ length-image (content_of b) h.shape;
      few_vlans = omega (arith, many-in b vlan, h.shape.few_vlans);
      few_statics = omega (arith, many-in b static, h.shape.few_statics);
      few_pairs = omega (arith, many-in b pair, h.shape.few_pairs);
    }

-- one turn
pub turn : (c : Content) (i : ℕ) → i < length c.statics
    → (moved (turned c i) (length (stay (take i c.statics))) i ≡ turned c (i + 1))
    × (next_free (turned c i) (length (stay (take i c.statics))) i ≡ length (stay (take (i + 1) c.statics)))
turn c i h = go (goes (get_or c.statics i no_static).1) refl
  where
    row : row_at (turned c i) i ≡ get_or c.statics i no_static
    row = next_row c.statics i no_static (omega arith)

    one : suc i ≡ i + 1
    one = omega arith

    go : (b : Bool) → goes (get_or c.statics i no_static).1 ≡ b
        → (moved (turned c i) (length (stay (take i c.statics))) i ≡ turned c (i + 1)) × (next_free (turned c i) (length (stay (take i c.statics))) i ≡ length (stay (take (i + 1) c.statics)))
    go true q =
        let s : stay (take i c.statics) ≡ stay (take (i + 1) c.statics) = sym (closing-drops c.statics i no_static h q) ∙ ap (λ (m : ℕ). stay (take m c.statics)) one in
        let t : goes (row_at (turned c i) i).1 ≡ true = ap (λ (e : Entry). goes e.1) row ∙ q in
        (rw t (ap (λ (r : List Entry). with_statics c (r ++ drop (length r) c.statics)) s), rw t (ap length s))
    go false q =
        let k = closing-keeps c.statics i no_static h q in
        let t : goes (row_at (turned c i) i).1 ≡ false = ap (λ (e : Entry). goes e.1) row ∙ q in (
          rw t
              (ap (λ (e : Entry). with_statics c (set (closing (take i c.statics) c.statics) (length (stay (take i c.statics))) e)) row
              ∙ ap (with_statics c) k.0 ∙ ap (λ (m : ℕ). with_statics c (closing (take m c.statics) c.statics)) one),
          rw t (sym k.1 ∙ ap (λ (m : ℕ). length (stay (take m c.statics))) one),
        )

-- after the last turn
abbrev pub closed : Content → Content
closed c = with_statics c (closing c.statics c.statics)

pub closed-storable : (c : Content) → Storable c → Storable (closed c)
closed-storable c s =
    subst (λ (r : List Entry). Storable (with_statics c (closing r c.statics))) (take-length c.statics)
    (turned-storable c (length c.statics) s (omega arith))

pub stay-few : (c : Content) → length (stay c.statics) ≤ length (closed c).statics
stay-few c = simp (length-append, length-drop) (omega (arith, stay-short c.statics))

-- the rows that were written are those that stay
pub closed-cut : (c : Content) {j : ℕ} → j ≡ length (stay c.statics) → with_statics (closed c) (take j (closed c).statics) ≡ after_reset c
closed-cut c {j} e =
    ap (λ (m : ℕ). with_statics c (take m (closed c).statics)) e
    ∙ ap (with_statics c) (take-append_seam (stay c.statics) (drop (length (stay c.statics)) c.statics))
