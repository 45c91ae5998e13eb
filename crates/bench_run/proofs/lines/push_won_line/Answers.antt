use Rattle.std.proofs.Common.{List, ℕ, subst}
use Rattle.std.specs.Prelude.{Contains}
use Rattle.bench_run.proofs.lines.push_won_line.Goals as goal

pub push_labels-requires : goal.push_labels-requires
push_labels-requires c p h = c.requires p (subst (λ (xs : List ℕ). Contains xs p) c.deref.ensures.value h)
