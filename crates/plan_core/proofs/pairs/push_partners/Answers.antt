use Rattle.std.proofs.Common.{◌≡◌, Bool, true, false, not, cond, [], ◌∷◌, ◌<◌, ◌++◌, length, arith, sym, ◌∙◌, ap, append_assoc, append-nil}
use Rattle.std.proofs.lemmas.Option.{slice_get-get_or}
use Rattle.std.specs.Vec.{vec_items}
use Rattle.plan_core.specs.declared.plans.Participant.TheVariants.{Sending}
use Rattle.plan_core.specs.Pairs.{partners_by}
use Rattle.plan_core.specs.PairTables.{never_together, are_apart}
use Rattle.plan_core.proofs.PairLemmas.{partners-more}
use Rattle.plan_core.proofs.pairs.push_partners.Goals as goal
use Rattle.plan_core.proofs.pairs.push_partners.Goals.{then-not-apart+in_ok-push, else-not-apart}

pub loop-y-preserved : goal.loop-y-preserved
loop-y-preserved c =
    let is_apart = are_apart c.args.nevers.now c.args.participants.now in
    let old = c.args.all.now.items in
    let y = c.loop-y.y in
    let so_far = partners_by is_apart y c.args.x in
    let lt : c.args.x < y = omega arith in
    let at_x = slice_get-get_or c.args.participants.now c.args.x (Sending 0 0) c.requires.within in
    let at_y = slice_get-get_or c.args.participants.now y (Sending 0 0) c.loop-y-test.true in
    let is : is_apart c.args.x y ≡ c.is_apart_after-apart.result = (λ i. never_together c.args.nevers.now (at_x i) (at_y i)) ∙ sym c.is_apart_after-apart.ensures in
    let more = λ (b : Bool) (e : c.is_apart_after-apart.result ≡ b). append_assoc old so_far (cond (not b) (y ∷ []) []) ∙ ap (λ xs. old ++ xs) (sym (partners-more is_apart c.args.x y b lt (is ∙ e))) in
    record {
      kept = c.is_apart_after-apart.ensures;
      items = elim c.if-not-apart.branch [
        | then-not-apart+in_ok-push w ↦
            ap vec_items w.all-is ∙ w.in_ok-push.ensures.items ∙ ap (λ xs. xs ++ y ∷ []) c.loop-y.invariant.items ∙ more false w.if-not-apart.true
        | else-not-apart w ↦
            ap vec_items w.all-is ∙ c.loop-y.invariant.items ∙ sym (append-nil (old ++ so_far)) ∙ more true w.if-not-apart.false
      ];
    }

pub returns : goal.returns
returns c =
    let size : c.loop-y.y ≡ length c.args.participants.now = omega arith in
    c.loop-y.invariant.items ∙ ap (λ y. c.args.all.now.items ++ partners_by (are_apart c.args.nevers.now c.args.participants.now) y c.args.x) size
