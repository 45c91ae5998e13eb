use Rattle.std.proofs.Common.{◌≡◌, ◌<◌, ◌≤◌, ap, true, false, length, sum_by, arith}
use Rattle.lessons.specs.Lessons.{is_marked, times_seen}
use Rattle.lessons.proofs.MarkLemmas.{pass, count_on, none_left}
use Rattle.lessons.proofs.checking.times_of_others.Goals as goal
use Rattle.lessons.proofs.checking.times_of_others.Goals.{then-not-is_marked, else-not-is_marked}

pub loop-number-preserved : goal.loop-number-preserved
loop-number-preserved c =
    let had = c.args.had.now in
    let sights = c.args.sights.now in
    let i = c.loop-number.number in
    let within : i < length sights = omega arith in
    elim c.if-not-is_marked.branch [
      | then-not-is_marked w ↦
          let is : is_marked had i ≡ false = cc in
          let on = count_on had sights i c.index-sights-number.result is within in
          let at = ap times_seen c.index-sights-number.is in
          record { within = omega arith; sum = omega (arith, on, at) }
      | else-not-is_marked w ↦
          let is : is_marked had i ≡ true = cc in
          let on = ap (sum_by times_seen) (pass had sights i is within) in
          record { within = omega arith; sum = omega (arith, on) }
    ]

pub returns : goal.returns
returns c =
    let past : length c.args.sights.now ≤ c.loop-number.number = omega arith in
    let none = ap (sum_by times_seen) (none_left c.args.had.now c.args.sights.now c.loop-number.number past) in
    omega (arith, none)
