use Rattle.std.proofs.Common.{refl, inl, inr}
use Rattle.plan_core.proofs.Texts.{some_text}
use Rattle.plan_core.proofs.Model.{followed, both_live}
use Rattle.plan_core.proofs.laws.live_participants_follow.Goals as goal

pub returns-clause-followed : goal.returns-clause-followed
returns-clause-followed c plan s live u p n r i = followed (λ q j. some_text plan n q (r.0.participants q j)) r.1 p i

pub returns-clause-both : goal.returns-clause-both
returns-clause-both c plan x y u n f g = both_live plan x y u (inl n) f g

pub returns-clause-alone : goal.returns-clause-alone
returns-clause-alone c plan p u f = both_live plan p p u (inr refl) f f
