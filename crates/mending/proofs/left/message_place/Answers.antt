use Rattle.std.proofs.Common.{◌≡◌, length, refl, sym, ◌∙◌, arith}
use Rattle.std.specs.Map.{keys_of}
use Rattle.std.proofs.lemmas.Map.Entries.{length-keys_of}
use Rattle.std.proofs.lemmas.Option.{slice_get_within}
use Rattle.plan_core.proofs.PlanLemmas.{limits_of}
use Rattle.plan_core.specs.NameBytes.{name_bytes}
use Rattle.plan_core.specs.PlanContents.{plan_contents}
use Rattle.mending.proofs.Places.{near_is, place_is}
use Rattle.mending.proofs.left.message_place.Goals as goal

pub returns-then-is_message : goal.returns-then-is_message
returns-then-is_message c =
    let plan = c.args.plan.now in
    near_is (name_bytes c.args.name.now) (keys_of (plan_contents plan).messages) (limits_of plan).messages.names.distinct c.args.near (c.if-is_message.ensures.0 refl)

pub returns-then-is_message-2 : goal.returns-then-is_message-2
returns-then-is_message-2 c =
    let names = keys_of (plan_contents c.args.plan.now).messages in
    let at = c.if-is_message-2.ensures.0 refl in
    let within = slice_get_within names c.loop-k.k (name_bytes c.args.name.now) at in
    place_is (name_bytes c.args.name.now) names c.loop-k.k (omega (arith, within)) c.loop-k.invariant (λ lt. at)

pub returns : goal.returns
returns c =
    let entries = (plan_contents c.args.plan.now).messages in
    let k = c.loop-k.k in
    let end : k ≡ c.messages-2.result = omega (arith, c.loop-k-test.false, c.loop-k.auto.k-end, c.messages-k-end.ensures, c.messages-2.ensures) in
    let len : k ≡ length (keys_of entries) = omega (arith, end, c.messages-2.ensures, length-keys_of entries) in
    sym end ∙ place_is (name_bytes c.args.name.now) (keys_of entries) k (omega (arith, len)) c.loop-k.invariant (λ lt. absurd (omega (arith, lt, len)))
