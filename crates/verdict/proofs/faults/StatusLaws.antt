-- Laws of the status columns: what the kept bindings of a set say of making, of removing and of room is what their writes say. Assumes nothing.
use Prim.Native.Nat.{ℕ, ◌+◌, ◌≤◌, ◌<◌}
use native.Mathlib.Omega.{arith}
use mathlib.Core.Path.{◌≡◌, refl, sym, ap, ◌∙◌}
use mathlib.Core.Bool.{Bool, true, false, cond, not, ◌||◌, ◌&&◌}
use mathlib.Core.Option.{Option}
use mathlib.Core.List.{List, [], ◌∷◌, map}
use lib.Dec.{eqb, ltb}
use lib.ListN.{length, drop, get_or, drop_of_length-le}
use borrow.Author.Tests.{eq-eqb, ne_eqb}
use Rattle.std.specs.Prelude.{Result, Ok, Err}
use Rattle.octets.specs.Parts.{part}
use Rattle.octets.proofs.BoolLaws.{by-eq, by_bool, one-or-none}
use Rattle.block.specs.Content.{Content}
use Rattle.block.specs.Image.{content_of}
use Rattle.block.specs.Lookup.{lookup, keys_of}
use Rattle.block.specs.Valid.{legal}
use Rattle.block.proofs.StandingLaws.{stands, few-rows}
use Rattle.block.proofs.RoundLaws.{legal-sized}
use Rattle.answer.specs.Get.{elem}
use Rattle.answer.specs.Writes.{status, is_status, on_status, present, those, has, count, made_by, removed_by, full}
use Rattle.block.specs.Tables.{Row, rows_of, most}
use Rattle.block.specs.declared.tables.Table.{Table}
use Rattle.block.proofs.ReadLaws.{many-in}
use Rattle.answer.specs.Tables.{ColumnOf, makes, removes}
use Rattle.answer.specs.Set.{row_write, also, gather, writes_to, is_full}
use Rattle.verdict.specs.Kept.{status_place, is_column, status_meant, column_at, meant, meant_with, is_status_of, does, if_clean, is_done, made, removed}
use Rattle.verdict.specs.declared.faults.Act.{Act}
use Rattle.verdict.specs.declared.faults.Act.TheVariants.{Makes, Removes, Fills}
use Rattle.verdict.specs.declared.judge.Kept.{Kept}
use Rattle.verdict.proofs.PastEnd.{past_end, kept_turn}
use Rattle.verdict.proofs.columns.ColumnLaws.{status-elsewhere, write-of}

-- a clean kept binding adds a status where it is one of the status column
pub status-turn : (t : Table) (s : List ℕ) (q : Kept) (ws : List (ℕ × ColumnOf t)) → those is_status (also (row_write t (meant s (Ok q))) ws)
    ≡ cond (is_status_of t q) ((q.key, status (status_meant t q.value)) ∷ those is_status ws) (those is_status ws)
unfolding those
status-turn t s q ws =
    rw (write-of t s q)
    (by_bool (is_column t q.place)
    (λ g. rw g (by_bool (eqb q.place (status_place t)) (λ h. rw h) (λ h. rw h)))
    (λ g. rw (g, status-elsewhere t q.place g)))

-- a row is there where its key is
pub present-key : {R : Type 0} (k : ℕ) (t : List (ℕ × R)) → present (lookup k t) ≡ elem k (keys_of t)
unfolding lookup elem
present-key k [] = refl
present-key k (e ∷ t) =
    by-eq k e.0
    (λ p. rw (eq-eqb k e.0 p, eq-eqb e.0 k (sym p)))
    (λ p. rw (ne_eqb k e.0 p, ne_eqb e.0 k (λ q. p (sym q))) (present-key k t))

-- what an act asks of the column that a binding writes
abbrev wanted : Act → (t : Table) → ColumnOf t → Bool
wanted Makes t = on_status (makes t)
wanted Removes t = on_status (removes t)
wanted Fills t = λ c. not (is_status c)

by-act : (P : Act → Type 0) → P Makes → P Removes → P Fills → (a : Act) → P a
by-act P m r f Makes = m
by-act P m r f Removes = r
by-act P m r f Fills = f

-- a kept binding does so where it writes such a column of the table
done-by : (t : Table) (q : Kept) (xs : List ℕ) (a : Act) → does a t q ≡ (is_column t q.place && wanted a t (column_at t q.place q.value xs))
done-by t q xs a =
    by_bool (is_column t q.place)
    (λ g. by_bool (eqb q.place (status_place t)) (λ h. by-act P (rw (g, h)) (rw (g, h)) (rw (g, h)) a) (λ h. by-act P (rw (g, h)) (rw (g, h)) (rw (g, h)) a))
    (λ g.
    let h : eqb q.place (status_place t) ≡ false = status-elsewhere t q.place g in
    by-act P (rw (g, h)) (rw (g, h)) (rw g) a)
  where
    P : Act → Type 0
    P a = does a t q ≡ (is_column t q.place && wanted a t (column_at t q.place q.value xs))

-- tests that agree on each clean binding agree
if-same : {E : Type 0} (p r : Kept → Bool) → ((q : Kept) → p q ≡ r q) → (q : Result Kept E) → if_clean p q ≡ if_clean r q
if-same p r h (Ok q) = h q
if-same p r h (Err f) = refl

module _ {E : Type 0} (n : E → ℕ) (t : Table) (s : List ℕ) where
  -- so some binding does so where some write is such a column
  done-rows : (a : Act) (k : ℕ) (qs : List (Result Kept E)) → has (wanted a t) k (writes_to t (map (meant_with n s) qs)) ≡ is_done a t k qs
  unfolding gather has is_done
  done-rows a k [] = refl
  done-rows a k (Err f ∷ qs) = done-rows a k qs
  done-rows a k (Ok q ∷ qs) =
      let xs = part s q.at q.len in
      let w : Bool = is_column t q.place in
      rw (write-of t s q, done-by t q xs a)
      (by_bool w (λ e. rw (e, done-rows a k qs)) (λ e. rw (e, done-rows a k qs) (by_bool (eqb k q.key) (λ g. rw g) (λ g. rw g))))

  pub makes-row : (k : ℕ) (qs : List (Result Kept E)) → has (on_status (makes t)) k (writes_to t (map (meant_with n s) qs)) ≡ is_done Makes t k qs
  makes-row = done-rows Makes

  pub removes-row : (k : ℕ) (qs : List (Result Kept E)) → has (on_status (removes t)) k (writes_to t (map (meant_with n s) qs)) ≡ is_done Removes t k qs
  removes-row = done-rows Removes

  pub fills-row : (k : ℕ) (qs : List (Result Kept E)) → has (λ c. not (is_status c)) k (writes_to t (map (meant_with n s) qs)) ≡ is_done Fills t k qs
  fills-row = done-rows Fills

  -- the writes of the status column
  abbrev statuses : List (Result Kept E) → List (ℕ × ColumnOf t)
  statuses qs = those is_status (writes_to t (map (meant_with n s) qs))

  count_kept : (g : ℕ → ColumnOf t → Option (Row t) → Bool) (es : List (ℕ × Row t)) (f : List (Result Kept E) → ℕ) → f [] ≡ 0
      → ((q : Result Kept E) (qs : List (Result Kept E)) → f (q ∷ qs)
      ≡ cond (if_clean (λ q. is_status_of t q && g q.key (status (status_meant t q.value)) (lookup q.key es)) q) 1 0 + f qs)
      → (qs : List (Result Kept E)) → count g es (statuses qs) ≡ f qs
  unfolding gather those count
  count_kept g es f z h [] = sym z
  count_kept g es f z h (Err e ∷ qs) = rw (h (Err e) qs, count_kept g es f z h qs) (omega arith)
  count_kept g es f z h (Ok q ∷ qs) =
      rw (status-turn t s q (writes_to t (map (meant_with n s) qs)), h (Ok q) qs)
      (by_bool (is_status_of t q) (λ e. rw (e, count_kept g es f z h qs)) (λ e. rw (e, count_kept g es f z h qs) (omega arith)))

  -- room goes by what the kept bindings make and remove
  pub full-kept : (c : Content) (qs : List (Result Kept E)) → is_full t c (map (meant_with n s) qs)
      ≡ ltb (most t + removed t (λ k. elem k (keys_of (rows_of t c))) qs)
      (length (rows_of t c) + made t (λ k. elem k (keys_of (rows_of t c))) qs)
  unfolding full made removed
  full-kept c qs =
      let es : List (ℕ × Row t) = rows_of t c in
      let there : ℕ → Bool = λ k. elem k (keys_of es) in
      rw (
        count_kept (removed_by (on_status (removes t))) es (removed t there) refl
            (λ q rest. ap (λ (b : Bool). cond b 1 0 + removed t there rest) (if-same _ _ (λ q. rw (present-key q.key es)) q)) qs,
        count_kept (made_by (on_status (makes t))) es (made t there) refl
            (λ q rest. ap (λ (b : Bool). cond b 1 0 + made t there rest) (if-same _ _ (λ q. rw (present-key q.key es)) q)) qs,
      )

-- a table of a legal block has at most 256 rows, and room for no more
pub rows_few : (b : List ℕ) → legal b ≡ true → (t : Table) → (length (rows_of t (content_of b)) ≤ 256) × (most t ≤ 256)
rows_few b e t = (omega (arith, many-in b t, few-rows b t (legal-sized b e), (stands t).4), (stands t).4)

-- a turn of the loop that looks for a binding
pub done-turn : {E : Type 0} (a : Act) (t : Table) (k : ℕ) (qs : List (Result Kept E)) (i : ℕ) → i < length qs
    → is_done a t k (drop i qs) ≡ (if_clean (λ q. eqb k q.key && does a t q) (get_or qs i past_end) || is_done a t k (drop (i + 1) qs))
unfolding is_done
done-turn a t k qs i h = rw (kept_turn qs i h)

pub done-none : {E : Type 0} (a : Act) (t : Table) (k : ℕ) (qs : List (Result Kept E)) (i : ℕ) → length qs ≤ i → is_done a t k (drop i qs) ≡ false
unfolding is_done
done-none a t k qs i h = rw (drop_of_length-le qs {i = i} h)

-- the rows that one kept binding makes, and those that it removes
abbrev pub making : {E : Type 0} → (t : Table) → (there : ℕ → Bool) → Result Kept E → Bool
making t there q = if_clean (λ q. is_status_of t q && (makes t (status_meant t q.value) && not (there q.key))) q

abbrev pub removing : {E : Type 0} → (t : Table) → (there : ℕ → Bool) → Result Kept E → Bool
removing t there q = if_clean (λ q. is_status_of t q && (removes t (status_meant t q.value) && there q.key)) q

-- what a loop has counted of made and removed rows comes to the whole with the kept bindings left
pub record Counted {E : Type 0} (t : Table) (there : ℕ → Bool) (live limit : ℕ) (qs : List (Result Kept E)) (i rows room : ℕ) : Type 0 where
  pub rows_fit : rows ≤ live + i
  pub room_fits : room ≤ limit + i
  pub more_rows : live + made t there qs ≡ rows + made t there (drop i qs)
  pub more_room : limit + removed t there qs ≡ room + removed t there (drop i qs)

module _ {E : Type 0} (t : Table) (there : ℕ → Bool) (live limit : ℕ) (qs : List (Result Kept E)) where
  pub counted_none : Counted t there live limit qs 0 live limit
  counted_none = record { rows_fit = omega arith; room_fits = omega arith; more_rows = refl; more_room = refl }

  pub counted-more : (i rows room : ℕ) → i < length qs → Counted t there live limit qs i rows room → (more less : ℕ)
      → more ≡ rows + cond (making t there (get_or qs i past_end)) 1 0
      → less ≡ room + cond (removing t there (get_or qs i past_end)) 1 0
      → Counted t there live limit qs (i + 1) more less
  unfolding made removed
  counted-more i rows room h c more less e f =
      record {
        rows_fit = omega (arith, one-or-none (making t there (get_or qs i past_end)));
        room_fits = omega (arith, one-or-none (removing t there (get_or qs i past_end)));
        more_rows = c.more_rows ∙ rw (kept_turn qs i h) (omega (arith, e));
        more_room = c.more_room ∙ rw (kept_turn qs i h) (omega (arith, f));
      }

  pub counted-all : (i rows room : ℕ) → length qs ≤ i → Counted t there live limit qs i rows room
      → ltb room rows ≡ ltb (limit + removed t there qs) (live + made t there qs)
  unfolding made removed
  counted-all i rows room h c =
      let m : live + made t there qs ≡ rows = c.more_rows ∙ rw (drop_of_length-le qs {i = i} h) (omega arith) in
      let r : limit + removed t there qs ≡ room = c.more_room ∙ rw (drop_of_length-le qs {i = i} h) (omega arith) in
      rw (m, r)
