-- The bindings of a message in turn: whether a name stands in an earlier binding, and one binding more. Assumes nothing.
use Prim.Native.Nat.{ℕ, suc, ◌+◌, ◌≤◌, ◌<◌}
use mathlib.Core.Path.{◌≡◌, refl, sym, ap, ◌∙◌}
use mathlib.Core.Bool.{Bool, true, false, cond, ◌||◌, or_assoc, or_comm, or-false}
use mathlib.Core.List.{List, [], ◌∷◌, ◌++◌, map, map-append, map-map}
use native.Mathlib.Numerals.{add-one}
use native.Mathlib.Omega.{arith}
use lib.ListN.{length, get_or, take, drop, set, length-map, drop_of_length-le, get_or-map}
use lib.Seq.{drop-cons, take-suc, take-suc-set, get_or-set_same, get_or-set_other}
use Rattle.std.specs.Prelude.{Result, Err}
use Rattle.octets.specs.Parts.{same}
use Rattle.octets.proofs.BoolLaws.{by-eq}
use Rattle.names.specs.declared.model.Model.{Model}
use Rattle.message.specs.Request.{no_binding}
use Rattle.message.specs.declared.request.Binding.{Binding}
use Rattle.answer.specs.Judge.{Asked, Judged, bad, alone, group_named, among, judged_from}
use Rattle.answer.specs.Respond.{asked_at}
use Rattle.answer.specs.declared.faults.Fault.{Fault}
use Rattle.answer.specs.declared.faults.Fault.TheVariants.{GenErr}
use Rattle.verdict.specs.declared.judge.Kept.{Kept}
use Rattle.verdict.specs.Kept.{meant, bare, meant_by, judged_in, named_before, Within}

-- a binding's name, and those of earlier ones
abbrev pub name_of : List ℕ → Binding → List ℕ
name_of s b = (asked_at s b).name

abbrev pub names_of : List ℕ → List Binding → List (List ℕ)
names_of s bs = map (name_of s) bs

module _ (s : List ℕ) (bs : List Binding) (x : List ℕ) where
  -- a turn of the comparison with the earlier names
  pub among-turn : (j : ℕ) → j < length bs
      → among x (drop j (names_of s bs)) ≡ (same x (name_of s (get_or bs j no_binding)) || among x (drop (j + 1) (names_of s bs)))
  unfolding among
  among-turn j h =
      rw (
        add-one,
        drop-cons (names_of s bs) j (name_of s no_binding) (omega (arith, length-map bs (name_of s))),
        get_or-map (name_of s) bs j no_binding,
      )

  pub among-end : (j : ℕ) → length bs ≤ j → among x (drop j (names_of s bs)) ≡ false
  unfolding among
  among-end j h = rw (drop_of_length-le (names_of s bs) {i = j} (omega (arith, length-map bs (name_of s))))

-- one binding more at the end of a message: its name may stand among the others or among those seen before them
module _ (n : Model) (a : Asked) where
  one_more : (seen : List (List ℕ)) (xs : List Asked)
      → judged_from n seen (xs ++ (a ∷ []))
      ≡ judged_from n seen xs ++ (cond (among a.name (map (λ x. x.name) xs) || among a.name seen) (bad 5 (group_named (alone n a))) (alone n a) ∷ [])
  unfolding judged_from among
  one_more seen [] = refl
  one_more seen (x ∷ xs) =
      let m = among a.name (map (λ x. x.name) xs) in
      let e : (m || (same a.name x.name || among a.name seen)) ≡ ((same a.name x.name || m) || among a.name seen) =
      sym (or_assoc m (same a.name x.name) (among a.name seen)) ∙ ap (λ (t : Bool). t || among a.name seen) (or_comm m (same a.name x.name)) in
      rw (one_more (x.name ∷ seen) xs, e)

-- the first i bindings are judged
pub record JudgedTo (n : Model) (s : List ℕ) (bs : List Binding) (kept : List (Result Kept Fault)) (i : ℕ) : Type 0 where
  pub done : meant_by s (take i kept) ≡ map bare (judged_in n s (take i bs))
  -- every kept binding's content stands in the request
  pub inside : (j : ℕ) (d : Result Kept Fault) → j < i → Within s (get_or kept j d)

pub judged-none : (n : Model) (s : List ℕ) (bs : List Binding) (kept : List (Result Kept Fault)) → JudgedTo n s bs kept 0
unfolding judged_from
judged-none n s bs kept = record { done = refl; inside = λ j d h. absurd (omega arith) }

module _ (n : Model) (s : List ℕ) (bs : List Binding) (i : ℕ) (h : i < length bs) where
  abbrev b : Binding
  b = get_or bs i no_binding

  abbrev verdict : Judged
  verdict = cond (named_before s (take i bs) b) (bad 5 (group_named (alone n (asked_at s b)))) (alone n (asked_at s b))

  judged-more : judged_in n s (take (suc i) bs) ≡ judged_in n s (take i bs) ++ (verdict ∷ [])
  unfolding among
  judged-more =
      rw (
        take-suc bs i no_binding h,
        map-append (asked_at s) (take i bs) (b ∷ []),
        one_more n (asked_at s b) [] (map (asked_at s) (take i bs)),
        map-map (λ (x : Asked). x.name) (asked_at s) (take i bs),
        or-false,
      )

  module _ (kept : List (Result Kept Fault)) (l : i < length kept) (w : JudgedTo n s bs kept i) where
    -- one kept binding more
    more : (q : Result Kept Fault) → meant s q ≡ bare verdict → Within s q → JudgedTo n s bs (set kept i q) (i + 1)
    more q m o =
        record {
          done =
              rw (
                add-one,
                take-suc-set kept i q l,
                judged-more,
                map-append (meant s) (take i kept) (q ∷ []),
                map-append bare (judged_in n s (take i bs)) (verdict ∷ []),
                w.done,
                m,
              );
          inside =
              λ j d k.
              by-eq j i (λ p. rw (p, get_or-set_same kept i q d l) o)
              (λ p. rw (get_or-set_other kept i j q d (λ r. p r)) (w.inside j d (omega arith)));
        }

    -- a name that stands in an earlier binding
    pub judged-again : named_before s (take i bs) b ≡ true → JudgedTo n s bs (set kept i (Err GenErr)) (i + 1)
    judged-again e = more (Err GenErr) (rw e) tt

    -- any other is judged by itself
    pub judged-fresh : named_before s (take i bs) b ≡ false → (q : Result Kept Fault) → meant s q ≡ bare (alone n (asked_at s b)) → Within s q
        → JudgedTo n s bs (set kept i q) (i + 1)
    judged-fresh e q m o = more q (rw e m) o
