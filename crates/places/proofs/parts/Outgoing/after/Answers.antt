use Rattle.std.proofs.Common.{◌+◌, ◌≤◌, arith}
use Rattle.places.proofs.PartLemmas.{no_bit_left}
use Rattle.places.proofs.parts.Outgoing.after.Goals as goal

pub returns-else-self-lt7 : goal.returns-else-self-lt7
returns-else-self-lt7 c = λ u.
    let all_sent : 8 ≤ c.args.self.now.sent + 1 = omega arith in
    rw (no_bit_left c.args.self.now.byte (c.args.self.now.sent + 1) all_sent) (λ t. t, λ t. t)
