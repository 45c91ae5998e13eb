-- A plan has fewer places of two senders than a queue holds numbers.
use Rattle.std.proofs.Common.{◌*◌, ◌≤◌, arith}
use Rattle.plan_core.specs.Contents.{Contents}
use Rattle.plan_core.specs.Limits.{IsWithinLimits}
use Rattle.plan_core.specs.SenderPlaces.{sender_count, place_count}

pub places_few : (plan : Contents) → IsWithinLimits plan → place_count plan ≤ 1000000
places_few plan limits =
    let few : sender_count plan ≤ 288 = omega (arith, limits.messages.count, limits.interrupts.count) in
    let square : sender_count plan * sender_count plan ≤ 288 * 288 = grind (arith, few) in
    omega (arith, square)
