-- `refbridge::tallies::rb_tally_event` meets its contract: what the functions say of a pass over the list is what the tally tells. Assumes nothing.
use Rattle.std.proofs.Common.{◌≡◌, ◌∙◌, refl, ap}
use Rattle.std.specs.Prelude.{Option}
use Rattle.tally.specs.declared.steps.Scan.{Scan}
use Rattle.tally.specs.declared.judge.Write.{Write}
use Rattle.tally.specs.Codes.{accepted}
use Rattle.tally.specs.Refusals.{number_of}
use Rattle.tally.specs.Run.{number, feed}
use Rattle.tally.specs.Scan.{scanned, number_found, write_of, mark_of, at_write}
use Rattle.tally.proofs.TallyLaws.{number-so, cases-so, cases-stay, mark-so}
use Rattle.refbridge.proofs.tallies.rb_tally_event.Goals as goal

pub returns-in-Ok : goal.returns-in-Ok
returns-in-Ok c =
    let a = c.args in
    let ys = a.cases.now in
    let m = a.ended.now in
    let n : accepted ≡ number ys m a.event a.id = c.in-Ok.ensures.number ∙ ap (λ (s : Scan). number_found s m a.event) c.scan.ensures ∙ number-so ys m a.event a.id in
    let w : c.in-Ok.write ≡ write_of (scanned a.id ys) a.event = c.in-Ok.ensures.write ∙ ap (λ (s : Scan). write_of s a.event) c.scan.ensures in
    let cases : c.put_state.new.cases ≡ (feed ys m a.event a.id).cases = c.put_state.ensures ∙ ap (λ (o : Option Write). at_write o ys) w ∙ cases-so ys m a.event a.id n in
    let mark : c.decide.new.ended ≡ (feed ys m a.event a.id).mark = c.decide.ensures.mark ∙ ap (λ (s : Scan). mark_of s m a.event) c.scan.ensures ∙ mark-so ys m a.event a.id in
    rw c.numbered.ensures ((λ i. record { number = n i; cases = cases i; mark = mark i }), refl, refl)

pub returns-in-Err : goal.returns-in-Err
returns-in-Err c =
    let a = c.args in
    let ys = a.cases.now in
    let m = a.ended.now in
    let n : number_of c.in-Err.refused ≡ number ys m a.event a.id = c.in-Err.ensures.number ∙ ap (λ (s : Scan). number_found s m a.event) c.scan.ensures ∙ number-so ys m a.event a.id in
    let cases : ys ≡ (feed ys m a.event a.id).cases = cases-stay ys m a.event a.id c.in-Err.refused n in
    let mark : c.decide.new.ended ≡ (feed ys m a.event a.id).mark = c.decide.ensures.mark ∙ ap (λ (s : Scan). mark_of s m a.event) c.scan.ensures ∙ mark-so ys m a.event a.id in
    rw (c.numbered-in-Err.ensures, c.from.ensures) ((λ i. record { number = n i; cases = cases i; mark = mark i }), refl, refl)
