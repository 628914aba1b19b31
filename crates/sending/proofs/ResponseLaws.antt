-- The loop over the bindings of a response, as laws of `responses_from`. Assumes nothing.
use Prim.Native.Nat.{ℕ, zero, suc, ◌+◌, ◌-◌, ◌%◌, ◌≤◌, ◌<◌}
use mathlib.Core.Path.{◌≡◌, sym, ap, ◌∙◌}
use mathlib.Core.Bool.{true, ◌&&◌}
use lib.Dec.{leb, eqb}
use Rattle.std.specs.Prelude.{Result, Ok, Err}
use mathlib.Core.List.{List, [], ◌∷◌, ◌++◌, append-nil}
use native.Mathlib.Numerals.{add-one}
use native.Mathlib.Omega.{arith}
use borrow.Author.Tests.{le-leb, lt-leb, leb-true}
use lib.ListN.{length, take, set, length-set}
use lib.Seq.{take-suc-set}
use Rattle.octets.proofs.BoolLaws.{left-of}
use Rattle.message.specs.declared.form.Refusal.{Refusal}
use Rattle.message.specs.declared.request.Binding.{Binding}
use Rattle.message.specs.declared.request.Bound.{Bound}
use Rattle.message.specs.Form.{checked_at, length_right}
use Rattle.message.specs.declared.form.Field.{Field}
use Rattle.message.specs.declared.form.Role.TheVariants.{Name}
use Rattle.message.proofs.FormLaws.{told}
use Rattle.message.specs.Request.{Bindings, read_to, ended, all, prepend, binding_then, seventeenth}
use Rattle.message.proofs.LoopLaws.{prefixed, prefixed-none, prefixed-one}
use Rattle.sending.specs.Writing.{response_at, responses_from}

module _ (s : List ℕ) where
  from_end : (left at : ℕ) → length s ≤ at → responses_from s left at ≡ all []
  unfolding responses_from
  from_end zero at h = rw (le-leb (length s) at h)
  from_end (suc left) at h = rw (le-leb (length s) at h)

  from-ber-binding : (left at : ℕ) → at < length s → responses_from s (suc left) at ≡ binding_then (response_at s at) (λ next. responses_from s left next)
  unfolding responses_from
  from-ber-binding left at h = rw (lt-leb (length s) at h)

  from_last : (at : ℕ) → at < length s → responses_from s zero at ≡ ended (seventeenth s at)
  unfolding responses_from
  from_last at h = rw (lt-leb (length s) at h)

-- n bindings are read into the array, and the next place is `at`
pub record Sofar (s : List ℕ) (bs : List Binding) (n at : ℕ) : Type 0 where
  pub long : length bs ≡ 16
  pub few : n ≤ 16
  pub rest : prefixed (take n bs) (responses_from s (16 - n) at) ≡ responses_from s 16 16

pub sofar-none : (s : List ℕ) {bs : List Binding} → length bs ≡ 16 → Sofar s bs 0 16
sofar-none s h = record { long = h; few = omega arith; rest = prefixed-none (responses_from s 16 16) }

module _ (s : List ℕ) {bs : List Binding} {n at : ℕ} (w : Sofar s bs n at) where
  -- what is left is known whatever may still be read
  ended-with : (x : Bindings) → responses_from s (16 - n) at ≡ x → prefixed (take n bs) x ≡ responses_from s 16 16
  ended-with x e = ap (prefixed (take n bs)) (sym e) ∙ w.rest

  one-more : n < 16 → at < length s → {k : Result Bound Refusal} → k ≡ response_at s at → responses_from s (16 - n) at ≡ binding_then k (λ next. responses_from s (16 - (n + 1)) next)
  one-more hn ha e =
      let k : 16 - n ≡ suc (16 - (n + 1)) = omega arith in
      rw (k, e) (from-ber-binding s (16 - (n + 1)) at ha)

  pub sofar-more : {b : Binding} {next : ℕ} {k : Result Bound Refusal} → n < 16 → at < length s → k ≡ response_at s at → k ≡ Ok (read_to b next) → Sofar s (set bs n b) (n + 1) next
  sofar-more {b} {next} hn ha e h =
      let taken : take (n + 1) (set bs n b) ≡ take n bs ++ (b ∷ []) = rw (add-one n) (take-suc-set bs n b (omega (arith, w.long))) in
      record {
        long = length-set bs n b ∙ w.long;
        few = omega arith;
        rest = rw taken (prefixed-one (take n bs) b (responses_from s (16 - (n + 1)) next) ∙ ended-with (prepend b (responses_from s (16 - (n + 1)) next)) (one-more hn ha e ∙ rw h));
      }

  pub sofar-all : length s ≤ at → all (take n bs) ≡ responses_from s 16 16
  sofar-all h = sym (ap all (append-nil (take n bs))) ∙ ended-with (all []) (from_end s (16 - n) at h)

  pub sofar-refused : {r : Refusal} {k : Result Bound Refusal} → n < 16 → at < length s → k ≡ response_at s at → k ≡ Err r → ended r ≡ responses_from s 16 16
  sofar-refused {r} hn ha e h = ended-with (ended r) (one-more hn ha e ∙ rw h)

  pub sofar-full : 16 ≤ n → at < length s → ended (seventeenth s at) ≡ responses_from s 16 16
  sofar-full hn ha = ended-with (ended (seventeenth s at)) (let k : 16 - n ≡ 0 = omega arith in rw k (from_last s at ha))

-- a name in its place has eight octets at least
pub name_found : (s : List ℕ) (at : ℕ) {end : ℕ} {k : Result Field Refusal} {f : Field} → k ≡ checked_at Name s at end → k ≡ Ok f → end ≤ length s → f.start + 8 ≤ length s
unfolding length_right
name_found s at {f = f} e h l =
    let w = told s e h in
    let n : 8 ≤ f.len = leb-true 8 f.len (left-of (leb 8 f.len) (leb f.len 512) (left-of (leb 8 f.len && leb f.len 512) (eqb (f.len % 4) 0) w.right)) in
    omega (arith, w.within)
