use Rattle.std.proofs.Common.{subst}
use Rattle.plays.specs.Plays.{here, IsPlay, with_put}
use Rattle.plays.proofs.PlayLemmas.{start_is_play, put_is_play, is_prefix}
use Rattle.plays.proofs.RunLemmas.{somebody_may_put}
use Rattle.plays.proofs.laws.plays_go_on.Goals as goal

pub returns-clause-begin : goal.returns-clause-begin
returns-clause-begin c game is = start_is_play game is

pub returns-clause-put : goal.returns-clause-put
returns-clause-put c game puts u live p x is play may =
    let after = put_is_play game puts u live p x is play may.0 may.1 may.2 in
    let passed = after.passes u live play.led here in
    let rest = is_prefix game (with_put puts p x) u after.wire live after.on passed.1 in
    (rest.0, after.on, subst (λ w. IsPlay game (with_put puts p x) w after.on) rest.1 after.play)

pub returns-clause-next : goal.returns-clause-next
returns-clause-next c game puts u live is play n = somebody_may_put game puts u live is play n
