use Rattle.std.proofs.Common.{◌≡◌, ℕ, List, sym, subst}
use Rattle.certificate.specs.Texts.{SpellsLine}
use Rattle.plan_core.proofs.PlanLemmas.{limits_of}
use Rattle.plan_core.specs.PlanContents.{plan_contents}
use Rattle.cert_check.proofs.MemoLemmas.{learned}
use Rattle.cert_check.proofs.memos.Memo.learn.Goals as goal

pub returns : goal.returns
returns c =
    let it = c.requires.proved in
    let copied : c.in-Ok.copy.items ≡ c.args.line.now = c.in-Ok.ensures.items_if_clones_equal (λ x y e. e) in
    learned (plan_contents c.args.plan.now) (limits_of c.args.plan.now) c.args.self.now.lines.items c.requires.memo c.args.i c.sender_place-place.result c.requires.within c.sender_place-place.ensures.place c.in-Ok.copy it.0
    c.sender_place-place.ensures.within (subst (λ (b : List ℕ). SpellsLine b it.0) (sym copied) it.1) it.2
