use Rattle.std.proofs.Common.{◌≡◌, ℕ, ◌↔◌, ◌+◌, ◌-◌, ◌^◌, Option, Some, ap, sym, ◌∙◌, subst, arith, min}
use Rattle.std.specs.Prelude.{IsTrue, IfSome}
use Rattle.plan_core.specs.PlanContents.{plan_contents}
use Rattle.cert_check.specs.declared.tallies.Tally.{Tally}
use Rattle.cert_check.specs.Proved.{ProvesPair}
use Rattle.cert_check.proofs.TallyLemmas.{counted, first_is, unproved_next, proved_next, spare}
use Rattle.cert_check.proofs.tallies.Tally.add.Goals as goal
use Rattle.cert_check.proofs.tallies.Tally.add.Goals.{in-None, in-Some, in-Some-2}

pub returns : goal.returns
returns c = λ trees tree t tells.
    let plan = plan_contents c.args.plan.now in
    let old = c.args.self.now in
    let new = c.match-next_pair.self in
    let more : new.proofs ≡ old.proofs → c.saturating_add-self.result ≡ min (old.proofs + 1) (2 ^ 64 - 1) = λ e. c.saturating_add-self.ensures ∙ ap (λ (n : ℕ). min (n + 1) (2 ^ 64 - 1)) e in
    let told : (i : ℕ) → c.next_pair.result ≡ Some i → IsTrue c.args.proves ↔ ProvesPair plan i tree = λ i e. subst (λ (o : Option ℕ). IfSome o (λ j. IsTrue c.args.proves ↔ ProvesPair plan j tree)) (sym c.next_pair.ensures.pair ∙ e) tells in
    elim c.match-next_pair.branch [
      | in-None w ↦ record {
        count = counted plan trees tree old.proofs c.saturating_add-self.result t.count (more (ap (λ (s : Tally). s.proofs) w.self-is));
        unproved = first_is plan _ old.unproved new.unproved (sym (ap (λ (s : Tally). s.unproved) w.self-is)) (spare plan trees tree old.unproved old.proofs t.unproved (sym c.next_pair.ensures.pair ∙ w.in-None.is) (omega (arith, t.count)));
      }
      | in-Some w ↦
          let i = w.in-Some.field-0 in
          let both = told i w.in-Some.is in
          record {
            count = counted plan trees tree old.proofs c.saturating_add-self.result t.count (more (ap (λ (s : Tally). s.proofs) w.self-is));
            unproved = first_is plan _ old.unproved new.unproved (sym (ap (λ (s : Tally). s.unproved) w.self-is)) (proved_next plan trees tree old.unproved old.proofs t.unproved i (sym c.next_pair.ensures.pair ∙ w.in-Some.is) (w.in-Some.ensures.number trees t) (both.0 (let not = w.if-proves in cc)));
          }
      | in-Some-2 w ↦
          let i = w.in-Some.field-0 in
          let both = told i w.in-Some.is in
          record {
            count = counted plan trees tree old.proofs c.saturating_add-self.result t.count (more (ap (λ (s : Tally). s.proofs) w.self-is));
            unproved = first_is plan _ (Some i) new.unproved (sym (ap (λ (s : Tally). s.unproved) w.self-is)) (unproved_next plan trees tree old.unproved old.proofs t.unproved i (sym c.next_pair.ensures.pair ∙ w.in-Some.is) (w.in-Some.ensures.number trees t) w.in-Some.ensures.within (λ h. let is = both.1 h in let not = w.if-proves in cc));
          }
    ]
