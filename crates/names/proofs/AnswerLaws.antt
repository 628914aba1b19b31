-- What an answer that may be missing tells. Assumes nothing.
use mathlib.Core.Path.{◌≡◌, refl, sym, ap, ◌∙◌}
use mathlib.Core.Option.{Option, none, some}
use Rattle.std.specs.Prelude.{Option as Answer, Some, None}
use Rattle.names.specs.Index.{answered}

abbrev pub told : {A : Type 0} → Answer A → Option A
told None = none
told (Some a) = some a

pub told-answered : {A : Type 0} (x : Option A) → told (answered x) ≡ x
told-answered none = refl
told-answered (some a) = refl

-- what is told is what was answered
pub told-answer : {A : Type 0} (x : Option A) {r : Answer A} → r ≡ answered x → x ≡ told r
told-answer x e = sym (told-answered x) ∙ ap told (sym e)
