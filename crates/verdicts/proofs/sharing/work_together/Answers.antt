use Rattle.verdicts.proofs.sharing.work_together.Goals as goal

pub returns-clause-parts : goal.returns-clause-parts
returns-clause-parts g c = c.join.ensures.first.1 c.args.owner.queue (λ k d lt. (c.requires.jobs k d lt).0)
