use Rattle.certificate.proofs.read.read_head.Goals as goal

pub returns-clause-read : goal.returns-clause-read
returns-clause-read c = c.front.ensures.read c.args.text.now c.new-source.ensures

pub returns-clause-refused : goal.returns-clause-refused
returns-clause-refused c = c.front.ensures.refused c.args.text.now c.new-source.ensures
