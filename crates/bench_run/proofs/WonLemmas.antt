-- Who has won is a participant of the plan.
use Rattle.std.proofs.Common.{◌≡◌, ℕ, ◌<◌, List, sym, subst}
use Rattle.std.specs.Prelude.{All, Contains, filter, None}
use Rattle.std.specs.List.{slice_index_or}
use Rattle.std.proofs.lemmas.List.Elements.{All-filter, All-contains}
use Rattle.std.proofs.lemmas.Option.{slice_get-get_or, get_or_from_slice_get}
use Rattle.plan_core.specs.Contents.{Contents}
use Rattle.plan_core.specs.Lawful.{Set}
use Rattle.plan_core.specs.Limits.{IsWithinLimits}
use Rattle.plan_core.specs.Participants.{participant_count}
use Rattle.plays.specs.Starters.{starters_refusal}
use Rattle.plays.proofs.StarterLemmas.{lawful_starters}
use Rattle.bus_bench.proofs.ViewLemmas.{at_those}

pub won_below : (plan : Contents) (starters won : List ℕ) (live : Set) → IsWithinLimits plan → starters_refusal plan starters ≡ None → won ≡ filter live starters → (p : ℕ) → Contains won p → p < participant_count plan
won_below plan starters won live limits fit is p c =
    let lawful = (lawful_starters plan starters limits fit).0 in
    let all : All (λ x. x < participant_count plan) starters =
    λ k d lt. subst (λ (x : ℕ). x < participant_count plan) (get_or_from_slice_get starters k (slice_index_or starters k d) 0 (slice_get-get_or starters k d lt)) (lawful.participants (slice_index_or starters k 0) (at_those starters k lt)) in
    All-contains (λ x. x < participant_count plan) won p (subst (All (λ x. x < participant_count plan)) (sym is) (All-filter live (λ x. x < participant_count plan) starters all)) c
