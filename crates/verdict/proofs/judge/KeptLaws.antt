-- Kept bindings as judged ones: a binding by itself, by what its content says and by what its name leads to. Assumes nothing.
use Prim.Native.Nat.{ℕ}
use mathlib.Core.Path.{◌≡◌, ap}
use mathlib.Core.List.{List}
use Rattle.octets.specs.Parts.{part}
use Rattle.names.specs.SubIds.{subids}
use Rattle.names.specs.Targets.{Target, target_in}
use Rattle.names.specs.declared.model.Model.{Model}
use Rattle.message.specs.declared.request.Binding.{Binding}
use Rattle.answer.specs.Judge.{content_said, rowless, of_row, under, alone}
use Rattle.answer.specs.Respond.{asked_at}
use Rattle.std.specs.Prelude.{Ok, Err}
use Rattle.answer.specs.declared.faults.Fault.{Fault}
use Rattle.answer.specs.declared.faults.Fault.TheVariants.{NoCreation}
use Rattle.verdict.specs.Kept.{content_said_of, kept_of, meant, bare}

-- by what the content of a binding says to the object at place i
module _ (n : Model) (i : ℕ) (s : List ℕ) (b : Binding) where
  abbrev xs : List ℕ
  xs = part s b.content b.len

  -- a fault comes before the name's own
  pub rowless-wrong : (f : Fault) → content_said_of i xs (Err f) ≡ content_said n i b.tag xs → meant s (Err f) ≡ bare (rowless (content_said n i b.tag xs))
  rowless-wrong f said = rw (← said)

  pub rowless-right : (v : ℕ) → content_said_of i xs (Ok v) ≡ content_said n i b.tag xs → meant s (Err NoCreation) ≡ bare (rowless (content_said n i b.tag xs))
  rowless-right v said = rw (← said)

  pub row-wrong : (k : ℕ) (f : Fault) → content_said_of i xs (Err f) ≡ content_said n i b.tag xs → meant s (Err f) ≡ bare (of_row i k (content_said n i b.tag xs))
  row-wrong k f said = rw (← said)

  pub row-right : (k v : ℕ) → content_said_of i xs (Ok v) ≡ content_said n i b.tag xs → meant s (Ok (kept_of i k v b)) ≡ bare (of_row i k (content_said n i b.tag xs))
  row-right k v said = rw (← said)

-- what the name leads to decides
pub alone-led : (n : Model) (s : List ℕ) (b : Binding) {t : Target} → t ≡ target_in n (subids (part s b.name b.size))
    → under n (asked_at s b) t ≡ alone n (asked_at s b)
unfolding alone
alone-led n s b e = ap (under n (asked_at s b)) e
