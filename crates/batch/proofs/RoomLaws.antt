-- Rows of the growing tables, and the absent ones that the messages name. Assumes nothing.
use Prim.Native.Nat.{ℕ, suc, ◌+◌, ◌≤◌, ◌<◌}
use native.Mathlib.Omega.{arith}
use mathlib.Core.Path.{◌≡◌, refl, sym, ap, ◌∙◌}
use mathlib.Core.Bool.{Bool, true, false, cond, not, ◌||◌, true≢false}
use mathlib.Core.Option.{Option, none, some}
use mathlib.Core.List.{List, [], ◌∷◌, ◌++◌, map}
use lib.Dec.{eqb}
use lib.ListN.{length, drop, get_or}
use borrow.Author.Tests.{eq-eqb, ne_eqb}
use Rattle.octets.proofs.BoolLaws.{by_bool}
use Rattle.block.specs.Image.{content_of}
use Rattle.block.specs.Valid.{legal}
use Rattle.block.specs.Lookup.{lookup, keys_of}
use Rattle.names.specs.declared.model.Model.{Model}
use Rattle.block.proofs.StandingLaws.{stands}
use Rattle.block.proofs.RoundLaws.{legal-valid}
use Rattle.answer.specs.Get.{elem}
use Rattle.answer.specs.Writes.{present}
use Rattle.block.specs.Tables.{rows_of}
use Rattle.block.specs.declared.tables.Table.{Table}
use Rattle.answer.specs.Tables.{first_column}
use Rattle.answer.proofs.StoredLaws.{elem-present}
use Rattle.answer.specs.Terms.{onto, absent}
use Rattle.answer.proofs.KeepValid.{valid-few}
use Rattle.console.specs.Batch.{octets_at, Means}
use Rattle.console.specs.declared.frames.Span.{Span}
use Rattle.std.specs.Prelude.{Option as Maybe, Some, None, Ok}
use Rattle.batch.specs.Names.{Group, groups_of, among, common, keys_at, all_named}
use Rattle.batch.specs.Found.{meant, named_from, SetsFrom, absent_each}
use Rattle.batch.specs.declared.groups.NamedGroup.{NamedGroup}
use Rattle.batch.proofs.NameLaws.{common-of, keys-append}
use Rattle.batch.proofs.PairLaws.{Named, NoneMeet}
use Rattle.batch.proofs.TurnLaws.{named-turn, named_end}
use Rattle.batch.proofs.GroupLaws.{meant-turn, meant_end}

-- a table of a legal block has at most 256 rows
pub few-rows : (b : List ℕ) → legal b ≡ true → (t : Table) → length (rows_of t (content_of b)) ≤ 256
few-rows b ok t = omega (arith, valid-few (content_of b) (legal-valid b ok).0 t, (stands t).4)

-- a row is there where its key is
pub there : (b : List ℕ) (t : Table) (k : ℕ) {r : Bool} → r ≡ elem k (keys_of (rows_of t (content_of b))) → r ≡ present (lookup k (rows_of t (content_of b)))
there b t k f = f ∙ elem-present k (rows_of t (content_of b))

-- a key that is named
elem-among : (t k : ℕ) (gs : List (Option Group)) → elem k (keys_at t gs) ≡ among (some (t, k)) gs
unfolding elem among keys_at
elem-among t k [] = refl
elem-among t k (none ∷ gs) = elem-among t k gs
elem-among t k (some g ∷ gs) = by_bool (eqb t g.0) (λ e. rw (e, elem-among t k gs)) (λ e. rw (e, elem-among t k gs))

-- one binding's share in the absent rows
module _ {R : Type 0} (es : List (ℕ × R)) (t : Table) (behind : List (Maybe NamedGroup)) where
  abbrev later : List (Option Group)
  later = map meant behind

  abbrev rest : ℕ
  rest = absent es (keys_at (first_column t) later)

  abbrev counted : Maybe NamedGroup → ℕ
  counted g = absent es (keys_at (first_column t) (meant g ∷ later))

  pub none-named : counted None ≡ cond false 1 0 + rest
  unfolding keys_at
  none-named = omega arith

  module _ (a : NamedGroup) {c : ℕ} (e : c ≡ first_column t) where
    pub other-table : (a.table ≡ c → ⊥) → counted (Some a) ≡ cond false 1 0 + rest
    unfolding keys_at
    other-table f = rw (ne_eqb (first_column t) a.table (λ z. f (sym z ∙ sym e))) (omega arith)

    module _ (f : a.table ≡ c) where
      meant_is : meant (Some a) ≡ some (first_column t, a.key)
      meant_is = ap (λ (k : ℕ). some (k, a.key)) (f ∙ e)

      in-table : counted (Some a) ≡ cond (among (meant (Some a)) later || present (lookup a.key es)) 0 1 + rest
      unfolding absent keys_at
      in-table =
          ap (λ (g : Option Group). absent es (onto (first_column t) g (keys_at (first_column t) later))) meant_is
          ∙ rw (eq-eqb (first_column t) (first_column t) refl, elem-among (first_column t) a.key later, ← meant_is) refl

      module _ {r : Bool} (p : r ≡ among (meant (Some a)) later) where
        pub named-later : r ≡ true → counted (Some a) ≡ cond false 1 0 + rest
        named-later q = in-table ∙ ap (λ (x : Bool). cond (x || present (lookup a.key es)) 0 1 + rest) (sym p ∙ q)

        pub not-later : {s : Bool} → r ≡ false → s ≡ present (lookup a.key es) → counted (Some a) ≡ cond (not s) 1 0 + rest
        not-later {s} q w = in-table ∙ (λ z. cond ((sym p ∙ q) z || sym w z) 0 1 + rest) ∙ flip s
          where
            flip : (s : Bool) → cond s 0 1 + rest ≡ cond (not s) 1 0 + rest
            flip true = refl
            flip false = refl

-- one message's share in the absent rows
module _ {R : Type 0} (es : List (ℕ × R)) (t : ℕ) (d : Model) where
  pub each_more : {b : List ℕ} {at i : ℕ} → SetsFrom b at i → at < length b → {s : Span} → Means b at (Ok s) → (n k : ℕ) {x : ℕ}
      → n + absent_each es t (named_from d b at i) ≡ k → x ≡ absent es (keys_at t (groups_of d (octets_at b s)))
      → n + x + absent_each es t (named_from d b (s.start + s.len) (i + 1)) ≡ k
  unfolding absent_each
  each_more {b} {at} {i} w h {s} m n k e p =
      let q : absent_each es t (named_from d b at i)
      ≡ absent es (keys_at t (groups_of d (octets_at b s))) + absent_each es t (named_from d b (s.start + s.len) (i + 1)) =
      ap (absent_each es t) (named-turn w h m d) in
      omega (arith, e, p, q)

  pub each-done : (b : List ℕ) (at i : ℕ) → length b ≤ at → absent_each es t (named_from d b at i) ≡ 0
  unfolding absent_each
  each-done b at i h = ap (absent_each es t) (named_end d b at i h)

-- messages of which no two name a common row or scalar: counted message by message, each row is counted once
elem-apart : (k : ℕ) (a b : List ℕ) → elem k b ≡ false → elem k (a ++ b) ≡ elem k a
unfolding elem
elem-apart k [] b e = e
elem-apart k (j ∷ a) b e = ap (λ (x : Bool). eqb k j || x) (elem-apart k a b e)

absent-apart : {R : Type 0} (es : List (ℕ × R)) (a b : List ℕ) → ((k : ℕ) → elem k a ≡ true → elem k b ≡ false) → absent es (a ++ b) ≡ absent es a + absent es b
unfolding absent elem
absent-apart es [] b h = omega arith
absent-apart es (k ∷ a) b h =
    let q : elem k (a ++ b) ≡ elem k a = elem-apart k a b (h k (rw (eq-eqb k k refl) refl)) in
    let t : absent es (a ++ b) ≡ absent es a + absent es b =
    absent-apart es a b (λ j e. by_bool (elem j b) (λ z. absurd (true≢false (sym z ∙ h j (by_bool (eqb j k) (λ p. rw p refl) (λ p. rw p e))))) (λ z. z)) in
    rw (q) (omega (arith, t))

pub absent-each : {R : Type 0} (es : List (ℕ × R)) (t : ℕ) (gss : List Named) → NoneMeet gss → absent es (keys_at t (all_named gss)) ≡ absent_each es t gss
unfolding all_named absent_each keys_at absent elem
absent-each es t [] h = refl
absent-each es t (gs ∷ gss) h =
    ap (absent es) (keys-append t gs (all_named gss))
    ∙ absent-apart es (keys_at t gs) (keys_at t (all_named gss)) (λ k e. later k e gss (λ l w z. h 0 (suc l) (record { lower = omega arith; within = omega (arith, w); meet = z })))
    ∙ ap (λ (x : ℕ). absent es (keys_at t gs) + x)
    (absent-each es t gss (λ k l m. h (suc k) (suc l) (record { lower = omega (arith, m.lower); within = omega (arith, m.within); meet = m.meet })))
  where
    later : (k : ℕ) → elem k (keys_at t gs) ≡ true → (hss : List Named) → ((l : ℕ) → l < length hss → common gs (get_or hss l []) ≡ true → ⊥)
        → elem k (keys_at t (all_named hss)) ≡ false
    later k e [] f = refl
    later k e (hs ∷ hss) f =
        ap (elem k) (keys-append t hs (all_named hss)) ∙ elem-apart k (keys_at t hs) (keys_at t (all_named hss)) (later k e hss (λ l w. f (suc l) (omega (arith, w))))
        ∙ by_bool (elem k (keys_at t hs))
        (λ p. absurd (f 0 (omega arith) (common-of (t, k) gs hs (sym (elem-among t k gs) ∙ e) (sym (elem-among t k hs) ∙ p))))
        (λ p. p)

-- the bindings of a message, each in turn
module _ {R : Type 0} (es : List (ℕ × R)) (t : ℕ) (xs : List (Maybe NamedGroup)) (j : ℕ) where
  pub absent-turn : j < length xs
      → absent es (keys_at t (map meant (drop j xs))) ≡ absent es (keys_at t (meant (get_or xs j None) ∷ map meant (drop (j + 1) xs)))
  absent-turn h = ap (λ (l : List (Option Group)). absent es (keys_at t l)) (meant-turn xs j h)

  pub absent-end : length xs ≤ j → absent es (keys_at t (map meant (drop j xs))) ≡ 0
  unfolding keys_at absent
  absent-end h = ap (λ (l : List (Option Group)). absent es (keys_at t l)) (meant_end xs j h)
