use Rattle.plays.proofs.PlayLemmas.{is_reached, is_whole}
use Rattle.plays.proofs.RunLemmas.{one_state}
use Rattle.plays.proofs.laws.plays_are_runs.Goals as goal

pub returns-clause-reached : goal.returns-clause-reached
returns-clause-reached c game puts u live play = is_reached game puts u live play.led

pub returns-clause-one : goal.returns-clause-one
returns-clause-one c game puts u v live among play other = one_state game puts u v live among play other

pub returns-clause-whole : goal.returns-clause-whole
returns-clause-whole c game puts u live p play ended i = is_whole game puts u live p play.led ended i
